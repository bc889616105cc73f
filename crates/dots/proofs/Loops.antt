-- Dots by their places in bytes: the i-th of n dots starts at byte 9 i. Assumes nothing.
use mathlib.Core.Path.{◌≡◌, refl, sym, ap, ◌∙◌}
use mathlib.Core.Bool.{Bool, true, false, ◌&&◌, and-true}
use mathlib.Core.List.{List, [], ◌∷◌}
use Prim.Native.Nat.{ℕ, zero, suc, ◌+◌, ◌-◌, ◌*◌, ◌/◌, ◌≤◌, ◌<◌}
use native.Mathlib.Nat.{sub-zero}
use native.Mathlib.Omega.{arith}
use lib.ListN.{length, take, drop}
use Rattle.wire.specs.Lists.{is_lt}
use lib.Seq.{get_or-take, get_or-drop, take-take, drop-drop}
use Rattle.wire.proofs.Parts.{drop-take}
use Rattle.dots.specs.declared.Dot.{Dot}
use Rattle.dots.specs.Dots.{compare_dots, dot_ok}
use Rattle.dots.specs.Wire.{dot_at, dots_at, dots_of, dot_size}
use Rattle.dots.proofs.Rules.{ascend_after}

pub length-dots_at : (n : ℕ) (s : List ℕ) (at : ℕ) → length (dots_at n s at) ≡ n
unfolding dots_at
length-dots_at zero s at = refl
length-dots_at (suc n) s at = ap suc (length-dots_at n s (at + dot_size))

pub length-dots_of : (s : List ℕ) → length (dots_of s) ≡ length s / dot_size
unfolding dots_of
length-dots_of s = length-dots_at (length s / dot_size) s 0

-- ---- the dots that are left

abbrev pub left : List ℕ → ℕ → List Dot
left s i = dots_at (length s / dot_size - i) s (i * dot_size)

module _ (s : List ℕ) where
  pub dots-start : left s 0 ≡ dots_of s
  unfolding dots_of
  dots-start = rw sub-zero

  pub dots-next : (i : ℕ) → i < length s / dot_size → left s i ≡ dot_at s (i * dot_size) ∷ left s (i + 1)
  unfolding dots_at
  dots-next i h =
      let more : length s / dot_size - i ≡ suc (length s / dot_size - (i + 1)) = omega arith in
      let at : i * dot_size + dot_size ≡ (i + 1) * dot_size = omega arith in
      rw (more, at)

  pub dots-none : (i : ℕ) → length s / dot_size ≤ i → left s i ≡ []
  unfolding dots_at
  dots-none i h = let none : length s / dot_size - i ≡ 0 = omega arith in rw none

-- ---- a test of every dot

ascend-step : (ok : Bool) (before d : Dot) (ds : List Dot) → (ok && ascend_after before (d ∷ ds)) ≡ (((ok && dot_ok d) && is_lt (compare_dots before d)) && ascend_after d ds)
unfolding ascend_after
ascend-step true before d ds = step (dot_ok d)
  where
    step : (b : Bool) → (b && (is_lt (compare_dots before d) && ascend_after d ds)) ≡ ((b && is_lt (compare_dots before d)) && ascend_after d ds)
    step true = refl
    step false = refl
ascend-step false before d ds = refl

module _ (s : List ℕ) (i : ℕ) (before : Dot) (whole ok : Bool) (inv : whole ≡ (ok && ascend_after before (left s i))) where
  pub ascend-turn : (d : Dot) (rule above : Bool) → i < length s / dot_size → d ≡ dot_at s (i * dot_size) → rule ≡ dot_ok d → above ≡ is_lt (compare_dots before d)
      → whole ≡ (((ok && rule) && above) && ascend_after d (left s (i + 1)))
  ascend-turn d rule above h e f g = (rw (dots-next s i h, ← e) at inv) ∙ rw (f, g) (ascend-step ok before d (left s (i + 1)))

  pub ascend-end : length s / dot_size ≤ i → ok ≡ whole
  unfolding ascend_after
  ascend-end h = sym (rw (dots-none s i h, and-true) at inv)

-- ---- dots of a part of the bytes

pub dot-drop : (s : List ℕ) (i j : ℕ) → dot_at (drop i s) j ≡ dot_at s (i + j)
dot-drop s i j = let at : i + (j + 1) ≡ i + j + 1 = omega arith in rw (get_or-drop i s j 0, drop-drop (j + 1) i s, at)

pub dots-drop : (k : ℕ) (s : List ℕ) (i j : ℕ) → dots_at k (drop i s) j ≡ dots_at k s (i + j)
unfolding dots_at
dots-drop zero s i j = refl
dots-drop (suc k) s i j = let at : i + (j + dot_size) ≡ i + j + dot_size = omega arith in rw (dot-drop s i j, dots-drop k s i (j + dot_size), at)

pub dot-take : (s : List ℕ) (n j : ℕ) → j + dot_size ≤ n → dot_at (take n s) j ≡ dot_at s j
dot-take s n j h = rw (get_or-take n s j 0 (omega arith), drop-take (j + 1) n s, take-take 8 (n - (j + 1)) (drop (j + 1) s) (omega arith))

pub dots-take : (k : ℕ) (s : List ℕ) (n j : ℕ) → j + dot_size * k ≤ n → dots_at k (take n s) j ≡ dots_at k s j
unfolding dots_at
dots-take zero s n j h = refl
dots-take (suc k) s n j h = rw (dot-take s n j (omega arith), dots-take k s n (j + dot_size) (omega arith))
