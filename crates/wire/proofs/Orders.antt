-- Orders: of numbers, of lists, and of what is compared first by one thing and then by another. Assumes nothing.
use mathlib.Core.Path.{◌≡◌, refl, sym, ◌∙◌, ap, ap₂}
use mathlib.Core.Logic.{◌⊎◌, inl, inr}
use mathlib.Core.Bool.{Bool, true, false, not}
use mathlib.Core.List.{List, [], ◌∷◌}
use Prim.Native.Nat.{ℕ, ◌<◌, compare, Ordering}
use native.Mathlib.Omega.{arith}
use lib.Dec.{compare_is_eq, is_le, ltb, leb→le, le→leb, nleb→lt, eqb→eq, eqb_refl}
use borrow.Author.Tests.{lt-ltb, le-ltb}
use Rattle.wire.specs.Lists.{then, is_lt, compare_lists, Less}
use Rattle.wire.specs.Bytes.{compare_bytes}
use Rattle.wire.proofs.Tests.{pass, fail}
use Rattle.wire.proofs.Lists.{Lawful, tie-is}

clash : {X : Type 0} → ◌≡◌ {A = Bool} true false → X
clash e = absurd (fail e tt)

pub numbers-self : (m : ℕ) → compare m m ≡ Ordering.eq
numbers-self m = tie-is (compare m m) (eqb_refl m)

pub less_number : (m n : ℕ) → compare m n ≡ Ordering.lt → m < n
less_number m n e = omega (arith, leb→le m n (pass (ap is_le e)), differ)
  where
    differ : m ≡ n → ⊥
    differ q = clash (cc (numbers-self n))

pub number_less : (m n : ℕ) → m < n → compare m n ≡ Ordering.lt
number_less m n h = step (compare m n) refl
  where
    step : (o : Ordering) → compare m n ≡ o → o ≡ Ordering.lt
    step Ordering.lt e = refl
    step Ordering.eq e = absurd (let q = eqb→eq m n (pass (ap compare_is_eq e)) in omega arith)
    step Ordering.gt e = absurd (fail (ap is_le e) (le→leb m n (omega arith)))

-- the comparison's less is the test `<`
pub is_lt_number : (m n : ℕ) → is_lt (compare m n) ≡ ltb m n
is_lt_number m n = step (compare m n) refl
  where
    step : (o : Ordering) → compare m n ≡ o → is_lt o ≡ ltb m n
    step Ordering.lt e = sym (lt-ltb m n (less_number m n e))
    step Ordering.eq e = let q = eqb→eq m n (pass (ap compare_is_eq e)) in sym (le-ltb m n (omega arith))
    step Ordering.gt e = let q = nleb→lt m n (pass (ap (λ o. not (is_le o)) e)) in sym (le-ltb m n (omega arith))

-- where the first numbers differ they decide
pub is_lt_differs : (m n : ℕ) (p : Ordering) → (m ≡ n → ⊥) → is_lt (then (compare m n) p) ≡ ltb m n
is_lt_differs m n p d = step (compare m n) refl ∙ is_lt_number m n
  where
    step : (o : Ordering) → compare m n ≡ o → is_lt (then o p) ≡ is_lt o
    step Ordering.lt e = refl
    step Ordering.eq e = absurd (d (eqb→eq m n (pass (ap compare_is_eq e))))
    step Ordering.gt e = refl

pub numbers : Lawful compare
numbers = record {
  self = numbers-self;
  tie = λ m n e. eqb→eq m n (pass (ap compare_is_eq e));
  turn = λ m n e. number_less n m (nleb→lt m n (pass (ap (λ o. not (is_le o)) e)));
  chain = λ m n k h h'. number_less m k (let i = less_number m n h in let j = less_number n k h' in omega arith);
}

then_eq : (o p : Ordering) → then o p ≡ Ordering.eq → (o ≡ Ordering.eq) × (p ≡ Ordering.eq)
then_eq Ordering.lt p e = clash (cc)
then_eq Ordering.eq p e = (refl, e)
then_eq Ordering.gt p e = clash (cc)

pub then_lt : (o p : Ordering) → then o p ≡ Ordering.lt → (o ≡ Ordering.lt) ⊎ ((o ≡ Ordering.eq) × (p ≡ Ordering.lt))
then_lt Ordering.lt p e = inl refl
then_lt Ordering.eq p e = inr (refl, e)
then_lt Ordering.gt p e = clash (cc)

then_gt : (o p : Ordering) → then o p ≡ Ordering.gt → (o ≡ Ordering.gt) ⊎ ((o ≡ Ordering.eq) × (p ≡ Ordering.gt))
then_gt Ordering.lt p e = clash (cc)
then_gt Ordering.eq p e = inr (refl, e)
then_gt Ordering.gt p e = inl refl

-- an order first, and a comparison that breaks its ties: what both the order of records and that of lists rest on
module _ {A : Type 0} (cmp : A → A → Ordering) (order : Lawful cmp) where
  pub then-self : (x : A) (p : Ordering) → p ≡ Ordering.eq → then (cmp x x) p ≡ Ordering.eq
  then-self x p e = rw (order.self x) e

  pub then_tie : (x y : A) (p : Ordering) → then (cmp x y) p ≡ Ordering.eq → (x ≡ y) × (p ≡ Ordering.eq)
  then_tie x y p e = let q = then_eq (cmp x y) p e in (order.tie x y q.0, q.1)

  pub then-turn : (x y : A) (p q : Ordering) → (p ≡ Ordering.gt → q ≡ Ordering.lt) → then (cmp x y) p ≡ Ordering.gt → then (cmp y x) q ≡ Ordering.lt
  then-turn x y p q below e = step (then_gt (cmp x y) p e)
    where
      step : (cmp x y ≡ Ordering.gt) ⊎ ((cmp x y ≡ Ordering.eq) × (p ≡ Ordering.gt)) → then (cmp y x) q ≡ Ordering.lt
      step (inl h) = rw (order.turn x y h)
      step (inr h) = rw (ap (cmp y) (order.tie x y h.0) ∙ order.self y) (below h.1)

  pub then-chain : (x y z : A) (p q r : Ordering) → (p ≡ Ordering.lt → q ≡ Ordering.lt → r ≡ Ordering.lt)
      → then (cmp x y) p ≡ Ordering.lt → then (cmp y z) q ≡ Ordering.lt → then (cmp x z) r ≡ Ordering.lt
  then-chain x y z p q r below e e' = step (then_lt (cmp x y) p e) (then_lt (cmp y z) q e')
    where
      step : Less cmp x y ⊎ ((cmp x y ≡ Ordering.eq) × (p ≡ Ordering.lt)) → Less cmp y z ⊎ ((cmp y z ≡ Ordering.eq) × (q ≡ Ordering.lt)) → then (cmp x z) r ≡ Ordering.lt
      step (inl h) (inl k) = rw (order.chain x y z h k)
      step (inl h) (inr k) = rw (ap (cmp x) (sym (order.tie y z k.0)) ∙ h)
      step (inr h) (inl k) = rw (ap (λ a. cmp a z) (order.tie x y h.0) ∙ k)
      step (inr h) (inr k) = rw (ap (λ a. cmp a z) (order.tie x y h.0) ∙ k.0) (below h.1 k.1)

-- first by f, then by g
module _ {A B C : Type 0} (f : C → A) (g : C → B) (whole : (x y : C) → f x ≡ f y → g x ≡ g y → x ≡ y)
    (cmp_a : A → A → Ordering) (cmp_b : B → B → Ordering) (order_a : Lawful cmp_a) (order_b : Lawful cmp_b) where
  pub lexicographic : Lawful (λ (x y : C). then (cmp_a (f x) (f y)) (cmp_b (g x) (g y)))
  lexicographic = record {
    self = λ x. then-self cmp_a order_a (f x) (cmp_b (g x) (g x)) (order_b.self (g x));
    tie = λ x y e. let p = then_tie cmp_a order_a (f x) (f y) (cmp_b (g x) (g y)) e in whole x y p.0 (order_b.tie (g x) (g y) p.1);
    turn = λ x y. then-turn cmp_a order_a (f x) (f y) (cmp_b (g x) (g y)) (cmp_b (g y) (g x)) (order_b.turn (g x) (g y));
    chain = λ x y z. then-chain cmp_a order_a (f x) (f y) (f z) (cmp_b (g x) (g y)) (cmp_b (g y) (g z)) (cmp_b (g x) (g z)) (order_b.chain (g x) (g y) (g z));
  }

module _ {A : Type 0} (cmp : A → A → Ordering) (order : Lawful cmp) where
  lists-self : (xs : List A) → compare_lists cmp xs xs ≡ Ordering.eq
  unfolding compare_lists
  lists-self [] = refl
  lists-self (x ∷ xs) = then-self cmp order x (compare_lists cmp xs xs) (lists-self xs)

  lists-tie : (xs ys : List A) → compare_lists cmp xs ys ≡ Ordering.eq → xs ≡ ys
  unfolding compare_lists
  lists-tie [] [] e = refl
  lists-tie [] (y ∷ ys) e = cc
  lists-tie (x ∷ xs) [] e = cc
  lists-tie (x ∷ xs) (y ∷ ys) e = let p = then_tie cmp order x y (compare_lists cmp xs ys) e in ap₂ ◌∷◌ p.0 (lists-tie xs ys p.1)

  lists-turn : (xs ys : List A) → compare_lists cmp xs ys ≡ Ordering.gt → Less (compare_lists cmp) ys xs
  unfolding compare_lists
  lists-turn [] [] e = cc
  lists-turn [] (y ∷ ys) e = cc
  lists-turn (x ∷ xs) [] e = refl
  lists-turn (x ∷ xs) (y ∷ ys) e = then-turn cmp order x y (compare_lists cmp xs ys) (compare_lists cmp ys xs) (lists-turn xs ys) e

  lists-chain : (xs ys zs : List A) → Less (compare_lists cmp) xs ys → Less (compare_lists cmp) ys zs → Less (compare_lists cmp) xs zs
  unfolding compare_lists
  lists-chain [] [] zs h k = k
  lists-chain [] (y ∷ ys) [] h k = cc
  lists-chain [] (y ∷ ys) (z ∷ zs) h k = refl
  lists-chain (x ∷ xs) [] zs h k = cc
  lists-chain (x ∷ xs) (y ∷ ys) [] h k = cc
  lists-chain (x ∷ xs) (y ∷ ys) (z ∷ zs) h k =
      then-chain cmp order x y z (compare_lists cmp xs ys) (compare_lists cmp ys zs) (compare_lists cmp xs zs) (lists-chain xs ys zs) h k

  pub lists_lawful : Lawful (compare_lists cmp)
  lists_lawful = record { self = lists-self; tie = lists-tie; turn = lists-turn; chain = lists-chain }

-- plain byte order is an order
pub bytes_lawful : Lawful compare_bytes
bytes_lawful = lists_lawful compare numbers
