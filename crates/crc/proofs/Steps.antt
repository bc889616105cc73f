-- Bit steps are linear over exclusive or, so that the bits of a byte are taken at once, by the table. Assumes nothing.
use mathlib.Core.Path.{◌≡◌, refl, ap, sym, ◌∙◌}
use mathlib.Core.Bool.{Bool, true, false, cond}
use mathlib.Core.List.{List}
use Prim.Native.Nat.{ℕ, zero, suc, ◌+◌, ◌*◌, ◌/◌, ◌%◌, ◌^◌, ◌≤◌, ◌<◌}
use native.Mathlib.Nat.{add-zero, zero-add, add-suc, suc-add, mod-lt, div-add-mod', mul-one}
use native.Mathlib.Numerals.{add-one}
use native.Mathlib.Omega.{arith}
use lib.Dec.{eqb}
use lib.Pow.{pow_pos}
use lib.Seq.{drop-cons}
use lib.ListN.{length, drop, get_or, drop_of_length-le}
use lib.Bits.{bit_xor, xor_shr, xor_comm, xor_self, xor_zero_r, xor_shifted, shifted_half, shifted_even}
use Rattle.crc.specs.Crc.{polynomial, all_ones, bit_step, bit_steps, byte_step, register, crc_of, entries_from, crc_table}
use Rattle.crc.proofs.Xor.{bit_small, xor_half, xor_bit, xor_swap}

-- ---- a step is linear

-- the polynomial if the bit shifted out is 1
abbrev pub feedback : ℕ → ℕ
feedback bit = cond (eqb bit 1) polynomial 0

pub step_is : (c : ℕ) → bit_step c ≡ bit_xor (c / 2) (feedback (c % 2))
unfolding bit_step
step_is c = either (eqb (c % 2) 1)
  where
    either : (b : Bool) → cond b (bit_xor (c / 2) polynomial) (c / 2) ≡ bit_xor (c / 2) (cond b polynomial 0)
    either true = refl
    either false = sym (xor_zero_r (c / 2))

feedback_xor : (x y : ℕ) → x < 2 → y < 2 → feedback (bit_xor x y) ≡ bit_xor (feedback x) (feedback y)
feedback_xor zero y hx hy = refl
feedback_xor (suc zero) zero hx hy = sym (xor_zero_r polynomial)
feedback_xor (suc zero) (suc zero) hx hy = sym (xor_self polynomial)
feedback_xor (suc zero) (suc (suc y)) hx hy = absurd (omega arith)
feedback_xor (suc (suc x)) y hx hy = absurd (omega arith)

pub step_xor : (a b : ℕ) → bit_step (bit_xor a b) ≡ bit_xor (bit_step a) (bit_step b)
step_xor a b =
    rw (step_is (bit_xor a b), step_is a, step_is b, xor_half a b, xor_bit a b, feedback_xor (a % 2) (b % 2) (bit_small a) (bit_small b))
    (xor_swap (a / 2) (b / 2) (feedback (a % 2)) (feedback (b % 2)))

steps_xor : (n a b : ℕ) → bit_steps n (bit_xor a b) ≡ bit_xor (bit_steps n a) (bit_steps n b)
unfolding bit_steps
steps_xor zero a b = refl
steps_xor (suc n) a b = rw (step_xor a b) (steps_xor n (bit_step a) (bit_step b))

-- ---- n steps at once

-- n zeros are shifted out
steps_shifted : (n a : ℕ) → bit_steps n (a * 2 ^ n) ≡ a
unfolding bit_steps bit_step
steps_shifted zero a = mul-one a
steps_shifted (suc n) a = rw (shifted_even a n, shifted_half a n) (steps_shifted n a)

-- the steps of the low n bits, and the other bits shifted
steps_split : (n c : ℕ) → bit_steps n c ≡ bit_xor (bit_steps n (c % 2 ^ n)) (c / 2 ^ n)
steps_split n c =
    let high : ℕ = c / 2 ^ n in
    let low : ℕ = c % 2 ^ n in
    ap (bit_steps n) (sym (div-add-mod' c (2 ^ n)) ∙ sym (xor_shifted high n low (mod-lt c (pow_pos n))))
    ∙ steps_xor n (high * 2 ^ n) low
    ∙ rw (steps_shifted n high) (xor_comm high (bit_steps n low))

-- ---- by the table

entry_at : (b n k : ℕ) → k < n → get_or (entries_from b n) k 0 ≡ bit_steps 8 (b + k)
unfolding entries_from
entry_at b zero k h = absurd (omega arith)
entry_at b (suc n) zero h = rw add-zero
entry_at b (suc n) (suc k) h = entry_at (suc b) n k (omega arith) ∙ rw (suc-add, add-suc)

-- the rule of the table
pub table_at : (k : ℕ) → k < 256 → get_or crc_table k 0 ≡ bit_steps 8 k
table_at k h = entry_at 0 256 k h ∙ rw zero-add

-- a byte: the entry of the low byte, and the other bytes shifted
pub byte_by_table : (entries : List ℕ) (c b : ℕ) → entries ≡ crc_table → b < 256 → bit_xor (get_or entries (bit_xor c b % 256) 0) (c / 256) ≡ byte_step c b
unfolding byte_step
byte_by_table entries c b e h =
    let none : b / 256 ≡ 0 = omega arith in
    let low : bit_xor c b % 256 < 256 = omega arith in
    let high : bit_xor c b / 256 ≡ c / 256 = xor_shr c b 8 ∙ rw (none, xor_zero_r) in
    rw (e, table_at (bit_xor c b % 256) low) (sym (steps_split 8 (bit_xor c b) ∙ rw high))

-- ---- the register over bytes, as a loop meets it

pub register-on : (s : List ℕ) (whole c next i : ℕ) → whole ≡ register c (drop i s) → i < length s → next ≡ byte_step c (get_or s i 0) → whole ≡ register next (drop (i + 1) s)
unfolding register
register-on s whole c next i so_far h e = so_far ∙ rw (add-one, drop-cons s i 0 h, e)

pub crc-done : (s : List ℕ) (c i : ℕ) → register all_ones s ≡ register c (drop i s) → length s ≤ i → bit_xor c all_ones ≡ crc_of s
unfolding register crc_of
crc-done s c i so_far h = rw so_far (rw (drop_of_length-le s h))
