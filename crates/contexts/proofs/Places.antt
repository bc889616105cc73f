-- Parts of dots in bytes, and the place of a dot among ascending ones. Assumes nothing.
use mathlib.Core.Path.{◌≡◌, refl, sym, ap, ap₂, ◌∙◌}
use mathlib.Core.Logic.{inr, ⊎_elim}
use mathlib.Core.Bool.{Bool, true, false, ◌||◌, cond, true≢false}
use mathlib.Core.List.{List, [], ◌∷◌, ◌++◌}
use Prim.Native.Nat.{ℕ, zero, suc, ◌+◌, ◌-◌, ◌*◌, ◌/◌, ◌≤◌, Ordering}
use native.Mathlib.Nat.{add-zero, zero-add}
use native.Mathlib.Omega.{arith}
use lib.Dec.{compare_is_eq}
use lib.ListN.{length, take, drop, length-drop}
use lib.Seq.{length-take-le, take_at, drop_at}
use Rattle.std.specs.List.{prefix_len}
use Rattle.std.proofs.lemmas.List.Folds.{length-prefix_len}
use Rattle.wire.specs.Lists.{is_lt, member, insert, place, Less, Ascending}
use Rattle.wire.proofs.Tests.{untrue, pass}
use Rattle.wire.proofs.Lists.{lt_is, irreflexive, member-sound, insert-member, member-insert, ascending-insert, ascending_unique}
use Rattle.dots.specs.declared.Dot.{Dot}
use Rattle.dots.specs.Dots.{compare_dots}
use Rattle.dots.specs.Wire.{dot_at, dots_at, dots_of, place_of, dot_size}
use Rattle.dots.proofs.Orders.{dots}
use Rattle.dots.proofs.Loops.{length-dots_at, length-dots_of, dots-drop, dots-take}

-- ---- dots of a part of the bytes

dots-split : (m n : ℕ) (s : List ℕ) (a : ℕ) → dots_at (m + n) s a ≡ dots_at m s a ++ dots_at n s (a + m * dot_size)
unfolding dots_at
dots-split zero n s a = let p : a + 0 * dot_size ≡ a = omega arith in let q : 0 + n ≡ n = omega arith in rw (p, q)
dots-split (suc m) n s a =
    let q : suc m + n ≡ suc (m + n) = omega arith in
    let p : a + suc m * dot_size ≡ a + dot_size + m * dot_size = omega arith in
    rw (q, p) (ap (λ (l : List Dot). dot_at s a ∷ l) (dots-split m n s (a + dot_size)))

-- the first p dots, and the others
module _ (s : List ℕ) (p : ℕ) (low : p * dot_size ≤ length s) where
  pub dots-front : dots_of (take (p * dot_size) s) ≡ dots_at p s 0
  unfolding dots_of
  dots-front =
      let count : length (take (p * dot_size) s) / dot_size ≡ p = rw (length-take-le (p * dot_size) s low) (omega arith) in
      rw count (dots-take p s (p * dot_size) 0 (omega arith))

  pub dots-rest : dots_of (drop (p * dot_size) s) ≡ dots_at (length s / dot_size - p) s (p * dot_size)
  unfolding dots_of
  dots-rest =
      let count : length (drop (p * dot_size) s) / dot_size ≡ length s / dot_size - p = rw length-drop (omega arith) in
      rw (count, dots-drop (length s / dot_size - p) s (p * dot_size) 0, add-zero)

  pub dots-around : dots_of s ≡ dots_of (take (p * dot_size) s) ++ dots_of (drop (p * dot_size) s)
  unfolding dots_of
  dots-around =
      let whole : length s / dot_size ≡ p + (length s / dot_size - p) = omega arith in
      ap (λ (n : ℕ). dots_at n s 0) whole ∙ dots-split p (length s / dot_size - p) s 0
      ∙ ap₂ ◌++◌ (sym dots-front) (ap (dots_at (length s / dot_size - p) s) (zero-add (p * dot_size)) ∙ sym dots-rest)

-- ---- the place of a dot

pub place_le : (d : Dot) (ds : List Dot) → place_of d ds ≤ length ds
unfolding place_of
place_le d [] = omega arith
place_le d (x ∷ ds) = go (is_lt (compare_dots x d)) (place_le d ds)
  where
    go : (b : Bool) → place_of d ds ≤ length ds → cond b (suc (place_of d ds)) 0 ≤ suc (length ds)
    go true h = omega arith
    go false h = omega arith

pub placed_within : (s : List ℕ) (d : Dot) (n : ℕ) → n ≡ place_of d (dots_of s) → (n ≡ place_of d (dots_of s)) × (n * dot_size ≤ length s)
placed_within s d n e = (e, omega (arith, place_le d (dots_of s), length-dots_of s))

-- how many dots come before it, in the words of std's chains
prefix-place : (d : Dot) (ds : List Dot) → prefix_len (λ x. is_lt (compare_dots x d)) ds ≡ place_of d ds
unfolding place_of
prefix-place d [] = refl
prefix-place d (x ∷ ds) = step (is_lt (compare_dots x d)) (prefix-place d ds)
  where
    step : (b : Bool) → prefix_len (λ x. is_lt (compare_dots x d)) ds ≡ place_of d ds
        → cond b (1 + prefix_len (λ x. is_lt (compare_dots x d)) ds) 0 ≡ cond b (suc (place_of d ds)) 0
    step true e = omega arith
    step false e = refl

pub place-prefix : (d : Dot) (ds : List Dot) → length (take (prefix_len (λ x. is_lt (compare_dots x d)) ds) ds) ≡ place_of d ds
place-prefix d ds = length-prefix_len (λ x. is_lt (compare_dots x d)) ds ∙ prefix-place d ds

-- the two ways to compare
pub above_not : (d x : Dot) → Less compare_dots d x → is_lt (compare_dots x d) ≡ false
above_not d x h = untrue (is_lt (compare_dots x d)) (λ t. irreflexive compare_dots dots d (dots.chain d x d h (lt_is (compare_dots x d) t)))

pub insert-split : (d : Dot) (ds : List Dot) → member compare_dots d ds ≡ false → insert compare_dots d ds ≡ take (place_of d ds) ds ++ (d ∷ drop (place_of d ds) ds)
unfolding insert place_of member
insert-split d [] f = refl
insert-split d (x ∷ ds) f = go (compare_dots d x) refl f (insert-split d ds)
  where
    go : (o : Ordering) → compare_dots d x ≡ o → (compare_is_eq o || member compare_dots d ds) ≡ false
        → (member compare_dots d ds ≡ false → insert compare_dots d ds ≡ take (place_of d ds) ds ++ (d ∷ drop (place_of d ds) ds))
        → place o d x ds (insert compare_dots d ds)
        ≡ take (cond (is_lt (compare_dots x d)) (suc (place_of d ds)) 0) (x ∷ ds) ++ (d ∷ drop (cond (is_lt (compare_dots x d)) (suc (place_of d ds)) 0) (x ∷ ds))
    go Ordering.lt e g ih = rw (above_not d x e)
    go Ordering.eq e g ih = absurd (true≢false g)
    go Ordering.gt e g ih = rw (dots.turn d x e) (ap (λ (l : List Dot). x ∷ l) (ih g))

pub insert-once : (d : Dot) (ds : List Dot) → Ascending compare_dots ds → member compare_dots d ds ≡ true → insert compare_dots d ds ≡ ds
insert-once d ds up t =
    ascending_unique compare_dots dots (insert compare_dots d ds) ds (ascending-insert compare_dots dots d ds up) up
    (λ e m. ⊎_elim (λ q. rw q (member-sound compare_dots dots ds (pass t))) (λ k. k) (insert-member compare_dots dots d ds m))
    (λ e m. member-insert compare_dots dots d ds (inr m))

-- a dot put between those before its place and those from it on
pub insert-around : (d : Dot) (s : List ℕ) (p : ℕ) → p * dot_size ≤ length s → p ≡ place_of d (dots_of s) → member compare_dots d (dots_of s) ≡ false
    → insert compare_dots d (dots_of s) ≡ dots_of (take (p * dot_size) s) ++ (d ∷ dots_of (drop (p * dot_size) s))
insert-around d s p low placed new =
    let front : length (dots_of (take (p * dot_size) s)) ≡ p = ap length (dots-front s p low) ∙ length-dots_at p s 0 in
    insert-split d (dots_of s) new
    ∙ ap₂ (λ (n : ℕ) (l : List Dot). take n l ++ (d ∷ drop n l)) (sym placed) (dots-around s p low)
    ∙ ap₂ (λ (l m : List Dot). l ++ (d ∷ m)) (take_at (dots_of (take (p * dot_size) s)) (dots_of (drop (p * dot_size) s)) p front) (drop_at (dots_of (take (p * dot_size) s)) (dots_of (drop (p * dot_size) s)) p front)
