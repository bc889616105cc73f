use Rattle.std.proofs.Common.{◌≡◌, ℕ, ◌+◌, ltb, List, [], ◌∷◌, length, sym, ap, ◌∙◌, arith, rules, le-ltb, lt-ltb}
use mathlib.Core.Logic.{◌⊎◌, inl, inr}
use Prim.Native.Nat.{Ordering}
use Rattle.std.proofs.lemmas.Slice.Zip.{either_empty_from_Zip}
use Rattle.wire.specs.Lists.{is_lt, compare_lists}
use Rattle.wire.specs.Bytes.{compare_bytes}
use Rattle.wire.proofs.Orders.{numbers-self, is_lt_differs}
use Rattle.search.proofs.CommonStart.{none-lower}
use Rattle.search.proofs.lower_bytes.Goals as goal

module _ (o : Ordering) (xs ys : List ℕ) (inv : o ≡ compare_bytes xs ys) where
  -- the first bytes that are left
  module _ (x y : ℕ) (s t : List ℕ) (e : xs ≡ x ∷ s) (f : ys ≡ y ∷ t) where
    differs : (x ≡ y → ⊥) → ltb x y ≡ is_lt o
    unfolding compare_lists
    differs d = sym (ap is_lt inv ∙ rw (e, f) (is_lt_differs x y _ d))

    tied : x ≡ y → o ≡ compare_bytes s t
    unfolding compare_lists
    tied d = inv ∙ rw (e, f, d, numbers-self)

  -- none is left of one
  ended : (m n : ℕ) → length xs + n ≡ length ys + m → (xs ≡ []) ⊎ (ys ≡ []) → ltb m n ≡ is_lt o
  unfolding compare_lists
  ended m n l none = sym (ap is_lt inv ∙ by none)
    where
      lesser : (t : List ℕ) → n ≡ length t + m → is_lt (compare_bytes [] t) ≡ ltb m n
      lesser [] k = sym (le-ltb m n (omega arith))
      lesser (y ∷ t) k = sym (lt-ltb m n (omega arith))

      by : (xs ≡ []) ⊎ (ys ≡ []) → is_lt (compare_bytes xs ys) ≡ ltb m n
      by (inl e) = rw e (lesser ys (omega (arith, rw e at l)))
      by (inr e) = rw e (none-lower xs ∙ sym (le-ltb m n (omega (arith, rw e at l))))

pub returns-then-x-y : goal.returns-then-x-y
unfolding compare_lists
returns-then-x-y c = search (rules, differs)

pub loop-x-preserved : goal.loop-x-preserved
loop-x-preserved c = (search rules, search (rules, tied))

pub returns : goal.returns
returns c = ended _ _ _ c.loop-x.invariant.1 _ _ c.loop-x.invariant.0 (either_empty_from_Zip _ c.next.new.self _ c.in-None.is c.next.ensures.steps)
