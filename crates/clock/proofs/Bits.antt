-- Laws of `test_bit` and `trailing_ones`.
-- Assumes nothing.
use Rattle.std.proofs.Common.{◌≡◌, ℕ, zero, suc, ◌+◌, ◌-◌, ◌*◌, ◌/◌, ◌%◌, ◌^◌, ◌<◌, ◌≤◌, Bool, true, false, ◌||◌, eqb, ltb, sym, refl, ap, ◌∙◌, subst, ap₂, lt_of_lt_of_le, le_of_suc-le-suc, not-suc-le-zero, mod-lt, mod-eq_of_lt, div-one, one-add, arith, pow_pos, pow_mono, shr-shr, le-ltb, lt-ltb, eq-eqb, ne_eqb, eqb-true}
use mathlib.Core.Bool.{or-false, false≢true}
use native.Mathlib.Nat.{div-eq_of_lt}
use native.Mathlib.Decide.{dec_le, dec_lt}
use borrow.Author.Tests.{eqb-false}
use lib.Dec.{eqb-zero-suc, eqb-suc-zero, eqb-suc-suc}
use lib.Arith.{half_le}
use lib.Pow.{pow-lt, split}
use lib.Bits.{bit_and, bit_or, and_block, and_mask, and_zero_r, or_disjoint, or_lt}
use lib.Count.{count_trailing_zeros, under}
use Rattle.clock.specs.Row.{test_bit, on_top, trailing_ones}

-- ---- one bit

pub test_bit_shr : (w k i : ℕ) → test_bit (w / 2 ^ k) i ≡ test_bit w (k + i)
unfolding test_bit
test_bit_shr w k i = ap (λ (x : ℕ). eqb (x % 2) 1) (shr-shr w k i)

pub test_bit-zero : (w : ℕ) → test_bit w 0 ≡ eqb (w % 2) 1
unfolding test_bit
test_bit-zero w = ap (λ (x : ℕ). eqb (x % 2) 1) (div-one w)

pub test_bit_suc : (w i : ℕ) → test_bit w (suc i) ≡ test_bit (w / 2) i
test_bit_suc w i = sym (test_bit_shr w 1 i ∙ ap (test_bit w) (one-add i))

-- a clear bit, as a digit
pub clear_digit : (w i : ℕ) → test_bit w i ≡ false → w / 2 ^ i % 2 ≡ 0
unfolding test_bit
clear_digit w i h =
    let ne : w / 2 ^ i % 2 ≡ 1 → ⊥ = eqb-false (w / 2 ^ i % 2) 1 h in
    let lt : w / 2 ^ i % 2 < 2 = mod-lt (w / 2 ^ i) (pow_pos 1) in
    omega arith

-- no bit stands at the width or above
pub test_bit_high : {w : ℕ} (k i : ℕ) → w < 2 ^ k → k ≤ i → test_bit w i ≡ false
unfolding test_bit
test_bit_high k i h l = ap (λ (x : ℕ). eqb (x % 2) 1) (div-eq_of_lt (lt_of_lt_of_le h (pow_mono l)))

pub test_bit-below : {w : ℕ} (k i : ℕ) → w < 2 ^ k → test_bit w i ≡ true → i < k
test_bit-below k i h t = go (dec_le k i)
  where
    go : Dec (k ≤ i) → i < k
    go (yes l) = absurd (false≢true (sym (test_bit_high k i h l) ∙ t))
    go (no l) = omega arith

same_digit : (a b : ℕ) → a < 2 → b < 2 → eqb a 1 ≡ eqb b 1 → a ≡ b
same_digit a b ha hb e = go (eqb b 1) e refl
  where
    go : (t : Bool) → eqb a 1 ≡ t → eqb b 1 ≡ t → a ≡ b
    go true p q = eqb-true a 1 p ∙ sym (eqb-true b 1 q)
    go false p q =
        let na : a ≡ 1 → ⊥ = eqb-false a 1 p in
        let nb : b ≡ 1 → ⊥ = eqb-false b 1 q in
        omega arith

-- a number is its bits
pub test_bit_ext : (v w : ℕ) → ((i : ℕ) → test_bit v i ≡ test_bit w i) → v ≡ w
test_bit_ext v w h = go (v + w) v w (omega arith) (omega arith) h
  where
    go : (n v w : ℕ) → v ≤ n → w ≤ n → ((i : ℕ) → test_bit v i ≡ test_bit w i) → v ≡ w
    go zero v w hv hw h = omega arith
    go (suc n) v w hv hw h =
        let rest : v / 2 ≡ w / 2 = go n (v / 2) (w / 2) (half_le hv) (half_le hw) (λ i. sym (test_bit_suc v i) ∙ h (suc i) ∙ test_bit_suc w i) in
        let low : v % 2 ≡ w % 2 = same_digit (v % 2) (w % 2) (mod-lt v (pow_pos 1)) (mod-lt w (pow_pos 1)) (sym (test_bit-zero v) ∙ h 0 ∙ test_bit-zero w) in
        omega arith

-- nothing stands at bit k or above
pub shr_zero : (w k : ℕ) → eqb (w / 2 ^ k) 0 ≡ ltb w (2 ^ k)
shr_zero w k = go (dec_lt w (2 ^ k))
  where
    go : Dec (w < 2 ^ k) → eqb (w / 2 ^ k) 0 ≡ ltb w (2 ^ k)
    go (yes h) = eq-eqb (w / 2 ^ k) 0 (div-eq_of_lt h) ∙ sym (lt-ltb w (2 ^ k) h)
    go (no h) = ne_eqb (w / 2 ^ k) 0 (λ e. h (shr_zero_lt e)) ∙ sym (le-ltb w (2 ^ k) (omega arith))
      where
        shr_zero_lt : w / 2 ^ k ≡ 0 → w < 2 ^ k
        shr_zero_lt e =
            let rest : w % 2 ^ k < 2 ^ k = mod-lt w (pow_pos k) in
            let whole : 0 * 2 ^ k + w % 2 ^ k ≡ w = rw e at (split w k) in
            omega arith

-- ---- setting a clear bit

pub test_bit-add : (w j i : ℕ) → test_bit w j ≡ false → test_bit (w + 2 ^ j) i ≡ (test_bit w i || eqb i j)
unfolding test_bit
test_bit-add w zero zero h =
    let d = clear_digit w 0 h in
    let e : (w + 1) % 2 ≡ 1 = omega (arith, div-one w) in
    test_bit-zero (w + 1) ∙ eq-eqb ((w + 1) % 2) 1 e ∙ sym (ap (λ (b : Bool). b || true) h)
test_bit-add w zero (suc i) h =
    let d = clear_digit w 0 h in
    let e : (w + 1) / 2 ≡ w / 2 = omega (arith, div-one w) in
    test_bit_suc (w + 1) i ∙ ap (λ (x : ℕ). test_bit x i) e ∙ sym (test_bit_suc w i) ∙ sym (or-false (test_bit w (suc i)))
    ∙ ap (λ (b : Bool). test_bit w (suc i) || b) (sym (eqb-suc-zero i))
test_bit-add w (suc j) zero h =
    let e : (w + 2 ^ suc j) % 2 ≡ w % 2 = omega arith in
    test_bit-zero (w + 2 ^ suc j) ∙ ap (λ (x : ℕ). eqb x 1) e ∙ sym (test_bit-zero w) ∙ sym (or-false (test_bit w 0))
    ∙ ap (λ (b : Bool). test_bit w 0 || b) (sym (eqb-zero-suc j))
test_bit-add w (suc j) (suc i) h =
    let e : (w + 2 ^ suc j) / 2 ≡ w / 2 + 2 ^ j = omega arith in
    test_bit_suc (w + 2 ^ suc j) i ∙ ap (λ (x : ℕ). test_bit x i) e ∙ test_bit-add (w / 2) j i (sym (test_bit_suc w j) ∙ h)
    ∙ ap₂ (λ (a b : Bool). a || b) (sym (test_bit_suc w i)) (sym (eqb-suc-suc i j))

and_bit : (w j : ℕ) → test_bit w j ≡ false → bit_and w (2 ^ j) ≡ 0
and_bit w j h =
    let one : 2 ^ j ≡ 1 * 2 ^ j + 0 = omega arith in
    let none : 0 * 2 ^ j + 0 ≡ 0 = omega arith in
    ap₂ bit_and (sym (split w j)) one
    ∙ and_block j (w / 2 ^ j) 1 (w % 2 ^ j) 0 (mod-lt w (pow_pos j)) (pow_pos j)
    ∙ ap₂ (λ (x y : ℕ). x * 2 ^ j + y) (and_mask (w / 2 ^ j) 1 ∙ clear_digit w j h) (and_zero_r (w % 2 ^ j))
    ∙ none

-- `w | (1 << j)` where bit j is clear
pub or_bit : (w j : ℕ) → test_bit w j ≡ false → bit_or w (2 ^ j) ≡ w + 2 ^ j
or_bit w j h = or_disjoint w (2 ^ j) (and_bit w j h)

-- the same as the machine has it, in a word of k bits
pub or_shl_bit : (k w j : ℕ) → j < k → test_bit w j ≡ false → bit_or w (1 * 2 ^ j % 2 ^ k) ≡ w + 2 ^ j
or_shl_bit k w j l h =
    let one : 1 * 2 ^ j ≡ 2 ^ j = omega arith in
    rw (one, mod-eq_of_lt (pow-lt l)) (or_bit w j h)

pub add_bit_lt : {w : ℕ} (k j : ℕ) → w < 2 ^ k → j < k → test_bit w j ≡ false → w + 2 ^ j < 2 ^ k
add_bit_lt {w} k j h l c = subst (λ (x : ℕ). x < 2 ^ k) (or_bit w j c) (or_lt k w (2 ^ j) h (pow-lt l))

-- ---- the run of low ones

pub ones_set : (k w i : ℕ) → i < trailing_ones k w → test_bit w i ≡ true
unfolding trailing_ones
ones_set zero w i h = absurd (not-suc-le-zero h)
ones_set (suc k) w i h = go (w % 2) refl i h (ones_set k (w / 2))
  where
    go : (d : ℕ) → w % 2 ≡ d → (i : ℕ) → i < on_top d (trailing_ones k (w / 2))
        → ((i : ℕ) → i < trailing_ones k (w / 2) → test_bit (w / 2) i ≡ true) → test_bit w i ≡ true
    go zero e i h ih = absurd (not-suc-le-zero h)
    go (suc d) e zero h ih = test_bit-zero w ∙ eq-eqb (w % 2) 1 (omega arith)
    go (suc d) e (suc i) h ih = test_bit_suc w i ∙ ih i (le_of_suc-le-suc h)

pub ones_end : (k w : ℕ) → w < 2 ^ k → test_bit w (trailing_ones k w) ≡ false
unfolding trailing_ones
ones_end zero w h = test_bit_high 0 0 h (omega arith)
ones_end (suc k) w h = go (w % 2) refl (ones_end k (w / 2) (omega arith))
  where
    go : (d : ℕ) → w % 2 ≡ d → test_bit (w / 2) (trailing_ones k (w / 2)) ≡ false → test_bit w (on_top d (trailing_ones k (w / 2))) ≡ false
    go zero e ih = test_bit-zero w ∙ ap (λ (x : ℕ). eqb x 1) e
    go (suc d) e ih = test_bit_suc w (trailing_ones k (w / 2)) ∙ ih

pub ones_le : {w : ℕ} (W k : ℕ) → w < 2 ^ k → trailing_ones W w ≤ k
ones_le {w} W k h = go (dec_le (trailing_ones W w) k)
  where
    go : Dec (trailing_ones W w ≤ k) → trailing_ones W w ≤ k
    go (yes l) = l
    go (no l) = let absurdity : k < k = test_bit-below k k h (ones_set W w k (omega arith)) in omega arith

pub ones_width : (k w : ℕ) → trailing_ones k w ≤ k
unfolding trailing_ones
ones_width zero w = omega arith
ones_width (suc k) w = go (w % 2) (ones_width k (w / 2))
  where
    go : (d : ℕ) → trailing_ones k (w / 2) ≤ k → on_top d (trailing_ones k (w / 2)) ≤ suc k
    go zero h = omega arith
    go (suc d) h = omega arith

-- trailing ones are the trailing zeros of the complement
pub ones_zeros : (k w : ℕ) → w < 2 ^ k → trailing_ones k w ≡ count_trailing_zeros k (2 ^ k - 1 - w)
unfolding trailing_ones count_trailing_zeros
ones_zeros zero w h = refl
ones_zeros (suc k) w h = go (w % 2) refl (ones_zeros k (w / 2) (omega arith))
  where
    v : ℕ
    v = 2 ^ suc k - 1 - w

    go : (d : ℕ) → w % 2 ≡ d → trailing_ones k (w / 2) ≡ count_trailing_zeros k (2 ^ k - 1 - w / 2)
        → on_top d (trailing_ones k (w / 2)) ≡ under (v % 2) (count_trailing_zeros k (v / 2))
    go zero e ih =
        let low : 1 ≡ v % 2 = omega arith in
        ap (λ (x : ℕ). under x (count_trailing_zeros k (v / 2))) low
    go (suc d) e ih =
        let low : 0 ≡ v % 2 = omega arith in
        let rest : 2 ^ k - 1 - w / 2 ≡ v / 2 = omega arith in
        ap suc (ih ∙ ap (count_trailing_zeros k) rest) ∙ ap (λ (x : ℕ). under x (count_trailing_zeros k (v / 2))) low
