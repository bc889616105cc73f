-- Loops and chains over the dots that bytes hold. Assumes nothing.
use Prim.Native.Nat.{ℕ, suc, ◌-◌, ◌/◌, ◌≤◌, ◌<◌}
use mathlib.Core.Path.{◌≡◌, refl, sym, ap, ◌∙◌}
use mathlib.Core.Bool.{Bool, true, false, cond, ◌&&◌, ◌||◌, and-true}
use mathlib.Core.List.{List, [], ◌∷◌}
use native.Mathlib.Omega.{arith}
use lib.Dec.{compare_is_eq}
use lib.ListN.{length, take, drop, length-drop}
use Rattle.std.specs.Iterator.{YieldsFirst}
use Rattle.std.specs.List.{list_all, list_any, filter}
use Rattle.std.proofs.lemmas.Iterator.{YieldsList}
use Rattle.std.proofs.lemmas.Iterator.Consumers.{YieldsList-from_first}
use Rattle.wire.specs.Lists.{is_lt, cons_if, keep, any, all, member}
use Rattle.dots.specs.declared.Dot.{Dot}
use Rattle.dots.specs.declared.Dots.{Dots}
use Rattle.dots.specs.Dots.{compare_dots, dot_ok}
use Rattle.dots.specs.Wire.{dot_at, dots_at, dots_of, dot_size}
use Rattle.dots.proofs.Rules.{ascend_after}
use Rattle.dots.proofs.Loops.{dots-drop, dot-take}

-- ---- one step

module _ (s : List ℕ) where
  pub dots_of-empty : length s < dot_size → dots_of s ≡ []
  unfolding dots_of dots_at
  dots_of-empty h = let none : length s / dot_size ≡ 0 = omega arith in rw none

  pub dots_of-first : dot_size ≤ length s → dots_of s ≡ dot_at s 0 ∷ dots_of (drop dot_size s)
  unfolding dots_of dots_at
  dots_of-first h =
      let more : length s / dot_size ≡ suc ((length s - dot_size) / dot_size) = omega arith in
      rw (more, length-drop, dots-drop ((length s - dot_size) / dot_size) s dot_size 0)

  pub dots_of-front : dot_size ≤ length s → dots_of s ≡ dot_at (take dot_size s) 0 ∷ dots_of (drop dot_size s)
  dots_of-front h = dots_of-first h ∙ rw (dot-take s dot_size 0 (omega arith))

-- ---- chains

-- the items of a chain that begins at `dots_in`
pub YieldsList-from_dots : {s : Dots} (ds : List Dot) → dots_of s.bytes.now ≡ ds → YieldsList (YieldsFirst (λ (t : Dots). dots_of t.bytes.now)) (λ (d : Dot). d) s ds
YieldsList-from_dots ds e = YieldsList-from_first (λ (d : Dot). d) (λ (t : Dots). dots_of t.bytes.now) ds e

-- std's words for a list are those of the specs
module _ {A : Type 0} (p : A → Bool) where
  pub list_all-is : (xs : List A) → list_all p xs ≡ all p xs
  unfolding all
  list_all-is [] = refl
  list_all-is (x ∷ xs) = ap (λ b. p x && b) (list_all-is xs)

  pub list_any-is : (xs : List A) → list_any p xs ≡ any p xs
  unfolding any
  list_any-is [] = refl
  list_any-is (x ∷ xs) = ap (λ b. p x || b) (list_any-is xs)

  pub filter-is : (xs : List A) → filter p xs ≡ keep p xs
  unfolding keep
  filter-is [] = refl
  filter-is (x ∷ xs) = step (p x) (filter-is xs)
    where
      step : (b : Bool) → filter p xs ≡ keep p xs → cond b (x ∷ filter p xs) (filter p xs) ≡ cons_if b x (keep p xs)
      step true e = ap (λ ys. x ∷ ys) e
      step false e = e

pub list_any-member : (d : Dot) (ds : List Dot) → list_any (λ x. compare_is_eq (compare_dots d x)) ds ≡ member compare_dots d ds
unfolding member
list_any-member d [] = refl
list_any-member d (x ∷ ds) = ap (λ b. compare_is_eq (compare_dots d x) || b) (list_any-member d ds)

-- ---- a loop whose flag is the test of every dot so far

ascend-step : (ok : Bool) (before d : Dot) (ds : List Dot) → (ok && ascend_after before (d ∷ ds)) ≡ (((ok && dot_ok d) && is_lt (compare_dots before d)) && ascend_after d ds)
unfolding ascend_after
ascend-step true before d ds = step (dot_ok d)
  where
    step : (b : Bool) → (b && (is_lt (compare_dots before d) && ascend_after d ds)) ≡ ((b && is_lt (compare_dots before d)) && ascend_after d ds)
    step true = refl
    step false = refl
ascend-step false before d ds = refl

module _ (whole ok : Bool) (before : Dot) (left : List Dot) (inv : whole ≡ (ok && ascend_after before left)) where
  pub ascend_turn : (d : Dot) (more : List Dot) (rule above : Bool) → left ≡ d ∷ more → rule ≡ dot_ok d → above ≡ is_lt (compare_dots before d)
      → whole ≡ (((ok && rule) && above) && ascend_after d more)
  ascend_turn d more rule above e f g = (rw e at inv) ∙ rw (f, g) (ascend-step ok before d more)

  pub ascend_end : left ≡ [] → ok ≡ whole
  unfolding ascend_after
  ascend_end e = sym (rw (e, and-true) at inv)
