-- Laws of the union of two rows: what it sees, that it is well-formed whatever the two are, and that order and grouping do not matter.
-- Assumes nothing.
use Rattle.std.proofs.Common.{◌≡◌, ℕ, zero, suc, ◌+◌, ◌-◌, ◌/◌, ◌%◌, ◌^◌, ◌<◌, ◌≤◌, min, max, Bool, true, ◌||◌, eqb, ◌⊎◌, sym, refl, ap, ◌∙◌, ap₂, inl, inr, lt_of_lt_of_le, mod-lt, arith, pow_pos, pow_mono, shr_lt}
use mathlib.Core.Bool.{or_comm, or_assoc, or_self, or-true}
use native.Mathlib.Decide.{dec_le}
use lib.Bits.{bit_or, or_lt, or_shr, or_mod}
use Rattle.dots.specs.Dots.{max_counter}
use Rattle.clock.specs.Row.{Row, test_bit, seen}
use Rattle.clock.specs.Union.{window_from, overlaid, union}
use Rattle.clock.proofs.Bits.{test_bit_shr}
use Rattle.clock.proofs.Rows.{place, seen-zero, seen_low, seen-above, seen-settled, WellFormed, settled-formed, one_form}

or_digit : (x y : ℕ) → x < 2 → y < 2 → eqb (bit_or x y) 1 ≡ (eqb x 1 || eqb y 1)
or_digit zero y hx hy = refl
or_digit (suc zero) zero hx hy = refl
or_digit (suc zero) (suc zero) hx hy = refl
or_digit (suc zero) (suc (suc y)) hx hy = absurd (omega arith)
or_digit (suc (suc x)) y hx hy = absurd (omega arith)

pub test_bit_or : (a b i : ℕ) → test_bit (bit_or a b) i ≡ (test_bit a i || test_bit b i)
unfolding test_bit
test_bit_or a b i =
    ap (λ (x : ℕ). eqb (x % 2) 1) (or_shr a b i) ∙ ap (λ (x : ℕ). eqb x 1) (or_mod (a / 2 ^ i) (b / 2 ^ i) 1)
    ∙ or_digit (a / 2 ^ i % 2) (b / 2 ^ i % 2) (mod-lt (a / 2 ^ i) (pow_pos 1)) (mod-lt (b / 2 ^ i) (pow_pos 1))

-- bit i of the window from b on is event b + 1 + i
from_bit : (r : Row) (b i : ℕ) → r.base ≤ b → test_bit (window_from b r) i ≡ seen r (b + 1 + i)
from_bit r b i h =
    let at : r.base + 1 + (b - r.base + i) ≡ b + 1 + i = omega arith in
    test_bit_shr r.window (b - r.base) i ∙ sym (seen-above r (b - r.base + i)) ∙ ap (seen r) at

from_lt : (W : ℕ) (r : Row) (b : ℕ) → WellFormed W r → r.base ≤ b → b ≤ max_counter → window_from b r < 2 ^ min W (max_counter - b)
from_lt W r b f h m = shr_lt (min W (max_counter - b)) (b - r.base) (lt_of_lt_of_le f.bound (pow_mono (omega arith)))

seen-overlaid : (r s : Row) (e : ℕ) → seen (overlaid r s) e ≡ (seen r e || seen s e)
unfolding overlaid
seen-overlaid r s e = go (place (max r.base s.base) e)
  where
    b : ℕ
    b = max r.base s.base

    either : (e : ℕ) → 1 ≤ e → e ≤ b → Dec (e ≤ r.base) → (seen r e || seen s e) ≡ true
    either e h l (yes m) = ap (λ (x : Bool). x || seen s e) (seen_low r e h m)
    either e h l (no m) = ap (λ (x : Bool). seen r e || x) (seen_low s e h (omega arith)) ∙ or-true (seen r e)

    go : (e ≡ 0) ⊎ ((1 ≤ e) × (e ≤ b)) ⊎ ((i : ℕ) × (e ≡ b + 1 + i)) → seen (overlaid r s) e ≡ (seen r e || seen s e)
    go (inl z) =
        ap (seen (overlaid r s)) z ∙ seen-zero (overlaid r s)
        ∙ sym (ap₂ (λ (x y : Bool). x || y) (ap (seen r) z ∙ seen-zero r) (ap (seen s) z ∙ seen-zero s))
    go (inr (inl h)) = seen_low (overlaid r s) e h.0 h.1 ∙ sym (either e h.0 h.1 (dec_le e r.base))
    go (inr (inr h)) =
        ap (seen (overlaid r s)) h.1 ∙ seen-above (overlaid r s) h.0 ∙ test_bit_or (window_from b r) (window_from b s) h.0
        ∙ ap₂ (λ (x y : Bool). x || y) (from_bit r b h.0 (omega arith)) (from_bit s b h.0 (omega arith))
        ∙ ap (λ (x : ℕ). seen r x || seen s x) (sym h.1)

pub seen-union : (W : ℕ) (r s : Row) (e : ℕ) → seen (union W r s) e ≡ (seen r e || seen s e)
unfolding union
seen-union W r s e = seen-settled W (overlaid r s) e ∙ seen-overlaid r s e

pub union-formed : (W : ℕ) (r s : Row) → WellFormed W r → WellFormed W s → WellFormed W (union W r s)
unfolding union overlaid
union-formed W r s f g =
    let p = f.small in
    let q = g.small in
    let b : ℕ = max r.base s.base in
    let top : b ≤ max_counter = omega arith in
    settled-formed W (overlaid r s) top
    (or_lt (min W (max_counter - b)) (window_from b r) (window_from b s) (from_lt W r b f (omega arith) top) (from_lt W s b g (omega arith) top))

module _ (W : ℕ) (r s t : Row) (f : WellFormed W r) (g : WellFormed W s) (h : WellFormed W t) where
  pub union_comm : union W r s ≡ union W s r
  union_comm =
      one_form (union-formed W r s f g) (union-formed W s r g f)
      (λ e. seen-union W r s e ∙ or_comm (seen r e) (seen s e) ∙ sym (seen-union W s r e))

  pub union_assoc : union W (union W r s) t ≡ union W r (union W s t)
  union_assoc =
      one_form (union-formed W (union W r s) t (union-formed W r s f g) h) (union-formed W r (union W s t) f (union-formed W s t g h))
      (λ e. seen-union W (union W r s) t e ∙ ap (λ (x : Bool). x || seen t e) (seen-union W r s e) ∙ or_assoc (seen r e) (seen s e) (seen t e)
      ∙ ap (λ (x : Bool). seen r e || x) (sym (seen-union W s t e)) ∙ sym (seen-union W r (union W s t) e))

  pub union_self : union W r r ≡ r
  union_self = one_form (union-formed W r r f f) f (λ e. seen-union W r r e ∙ or_self (seen r e))
