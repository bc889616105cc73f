-- The register's steps are injective on numbers of 32 bits: a CRC has 32 bits, and one changed byte changes it. Assumes nothing.
use mathlib.Core.Path.{◌≡◌, refl, ap, sym, ◌∙◌}
use mathlib.Core.Logic.{◌≢◌}
use mathlib.Core.Bool.{Bool, true, false, cond}
use mathlib.Core.List.{[], ◌∷◌, ◌++◌}
use Prim.Native.Nat.{ℕ, zero, suc, ◌/◌, ◌%◌, ◌^◌, ◌<◌}
use native.Mathlib.Omega.{arith}
use lib.Dec.{eqb, lit<}
use lib.Bits.{bit_xor, xor_comm, xor_self, xor_lt}
use Rattle.wire.specs.Bytes.{Bytes, AreBytes}
use Rattle.crc.specs.Crc.{polynomial, all_ones, bit_step, bit_steps, byte_step, register, crc_of}
use Rattle.crc.proofs.Xor.{xor_cancel, xor_same}
use Rattle.crc.proofs.Steps.{feedback, step_is, step_xor}

-- f is injective from numbers of 32 bits to numbers of 32 bits
record Injection (f : ℕ → ℕ) : Type 0 where
  fits : (c : ℕ) → c < 2 ^ 32 → f c < 2 ^ 32
  injective : (c d : ℕ) → c < 2 ^ 32 → d < 2 ^ 32 → f c ≡ f d → c ≡ d

identity : Injection (λ c. c)
identity = record { fits = λ c h. h; injective = λ c d h k e. e }

infixr 20 ◌then◌
◌then◌ : {f g : ℕ → ℕ} → Injection f → Injection g → Injection (λ c. g (f c))
◌then◌ {f} {g} p q = record {
  fits = λ c h. q.fits (f c) (p.fits c h);
  injective = λ c d h k e. p.injective c d h k (q.injective (f c) (f d) (p.fits c h) (p.fits d k) e);
}

xor_injection : (b : ℕ) → b < 2 ^ 32 → Injection (λ c. bit_xor c b)
xor_injection b h = record { fits = λ c k. xor_lt 32 c b k h; injective = λ c d k l e. xor_cancel c d b e }

-- ---- one bit

feedback-fits : (b : Bool) → cond b polynomial 0 < 2 ^ 32
feedback-fits true = lit< tt
feedback-fits false = lit< tt

-- only 0 steps to 0: the polynomial has its highest bit set, and half of a register has not
step-zero : (c : ℕ) → c < 2 ^ 32 → bit_step c ≡ 0 → c ≡ 0
step-zero c h e = go (c % 2) refl (xor_same (c / 2) (feedback (c % 2)) (sym (step_is c) ∙ e))
  where
    go : (bit : ℕ) → bit ≡ c % 2 → c / 2 ≡ feedback bit → c ≡ 0
    go zero p q = omega arith
    go (suc zero) p q = absurd (omega arith)
    go (suc (suc bit)) p q = absurd (omega arith)

step_injection : Injection bit_step
step_injection = record {
  fits = λ c h. rw (step_is c) (xor_lt 32 (c / 2) (feedback (c % 2)) (omega arith) (feedback-fits (eqb (c % 2) 1)));
  injective = λ c d h k e. xor_same c d (step-zero (bit_xor c d) (xor_lt 32 c d h k) (step_xor c d ∙ rw e (xor_self (bit_step d))));
}

-- ---- bits, a byte, bytes

steps_injection : (n : ℕ) → Injection (bit_steps n)
unfolding bit_steps
steps_injection zero = identity
steps_injection (suc n) = step_injection then steps_injection n

byte_injection : (b : ℕ) → b < 2 ^ 32 → Injection (λ c. byte_step c b)
unfolding byte_step
byte_injection b h = xor_injection b h then steps_injection 8

-- the register and the byte may change places
byte_comm : (c b : ℕ) → byte_step c b ≡ byte_step b c
unfolding byte_step
byte_comm c b = ap (bit_steps 8) (xor_comm c b)

byte_fits : (b : ℕ) → b < 256 → b < 2 ^ 32
byte_fits b h = omega arith

register_injection : (bs : Bytes) → AreBytes bs → Injection (λ c. register c bs)
unfolding register
register_injection [] small = identity
register_injection (b ∷ bs) small = byte_injection b (byte_fits b (small 0)) then register_injection bs (λ i. small (suc i))

-- ---- the CRC

crc_injection : (bs : Bytes) → AreBytes bs → Injection (λ c. bit_xor (register c bs) all_ones)
crc_injection bs small = register_injection bs small then xor_injection all_ones (lit< tt)

pub crc-fits : (bs : Bytes) → AreBytes bs → crc_of bs < 2 ^ 32
unfolding crc_of
crc-fits bs small = (crc_injection bs small).fits all_ones (lit< tt)

-- from any register, equal CRCs have the same byte
same_byte : (xs ys : Bytes) (a b c : ℕ) → AreBytes xs → AreBytes ys → a < 256 → b < 256 → c < 2 ^ 32
    → bit_xor (register c (xs ++ (a ∷ ys))) all_ones ≡ bit_xor (register c (xs ++ (b ∷ ys))) all_ones → a ≡ b
unfolding register
same_byte [] ys a b c small-xs small-ys small-a small_b h e =
    let next : (x : ℕ) → x < 256 → byte_step c x < 2 ^ 32 = λ x k. (byte_injection x (byte_fits x k)).fits c h in
    let stepped : byte_step c a ≡ byte_step c b = (crc_injection ys small-ys).injective (byte_step c a) (byte_step c b) (next a small-a) (next b small_b) e in
    (byte_injection c h).injective a b (byte_fits a small-a) (byte_fits b small_b) (byte_comm a c ∙ stepped ∙ byte_comm c b)
same_byte (x ∷ xs) ys a b c small-xs small-ys small-a small_b h e =
    same_byte xs ys a b (byte_step c x) (λ i. small-xs (suc i)) small-ys small-a small_b ((byte_injection x (byte_fits x (small-xs 0))).fits c h) e

-- one changed byte changes the CRC
pub one_byte : (xs ys : Bytes) (a b : ℕ) → AreBytes xs → AreBytes ys → a < 256 → b < 256 → a ≢ b → crc_of (xs ++ (a ∷ ys)) ≢ crc_of (xs ++ (b ∷ ys))
unfolding crc_of
one_byte xs ys a b small-xs small-ys small-a small_b differ e = differ (same_byte xs ys a b all_ones small-xs small-ys small-a small_b (lit< tt) e)
