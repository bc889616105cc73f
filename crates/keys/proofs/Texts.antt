-- A name or a label and the 00 after it: read at a place, and written again. Assumes nothing.
use mathlib.Core.Path.{◌≡◌, sym, ◌∙◌}
use mathlib.Core.Bool.{true, and-true}
use mathlib.Core.List.{◌∷◌, ◌++◌}
use Prim.Native.Nat.{ℕ, ◌+◌, ◌≤◌, ◌<◌}
use native.Mathlib.Omega.{arith}
use lib.Dec.{leb}
use lib.ListN.{length, take, drop, get_or, length-drop}
use lib.Seq.{get_or-drop, length-take-le}
use Rattle.wire.specs.Lists.{all}
use Rattle.wire.specs.Bytes.{Bytes, zero_at, between}
use Rattle.wire.proofs.Tests.{both}
use Rattle.wire.proofs.ByteOrder.{zero_at-ended, zero_at_le, zero_at-zero, nonzero-before}
use Rattle.wire.proofs.Fields.{byte_on, part-on, byte_back, part-back}
use Rattle.dots.specs.Names.{text_ok}

pub text_nonzero : (most : ℕ) (x : Bytes) → text_ok most x ≡ true → all (leb 1) x ≡ true
unfolding text_ok
text_nonzero most x ok = search both

-- the bytes before the first 0 are a text if there are neither too few nor too many
pub text_before : (most : ℕ) (s : Bytes) → text_ok most (take (zero_at s) s) ≡ between 1 most (zero_at s)
unfolding text_ok
text_before most s = rw (length-take-le (zero_at s) s (zero_at_le s), nonzero-before s) (and-true (between 1 most (zero_at s)))

module _ (s : Bytes) where
  pub text_on : (i next : ℕ) (x t : Bytes) → all (leb 1) x ≡ true → drop i s ≡ x ++ (0 ∷ t) → next ≡ i + zero_at (drop i s) + 1
      → (zero_at (drop i s) ≡ length x) × (take (zero_at (drop i s)) (drop i s) ≡ x) × (drop next s ≡ t)
  text_on i next x t ok h e =
      let size : zero_at (drop i s) ≡ length x = rw h (zero_at-ended x t ok) in
      let part = part-on s i (zero_at (drop i s)) x (0 ∷ t) (sym size) h in
      let after = byte_on s (i + zero_at (drop i s)) 0 t part.1 in
      (size, part.0, rw e after.1)

  -- a byte that is known, before what stands after it
  pub cons_back : (i x : ℕ) (t : Bytes) → get_or s i 0 ≡ x → t ≡ drop (i + 1) s → i < length s → x ∷ t ≡ drop i s
  cons_back i x t e f h = rw (← e, f) (byte_back s i h)

  pub text_back : (i next : ℕ) → next ≡ i + zero_at (drop i s) + 1 → next ≤ length s → take (zero_at (drop i s)) (drop i s) ++ (0 ∷ drop next s) ≡ drop i s
  text_back i next e h =
      let n : ℕ = zero_at (drop i s) in
      let inside : zero_at (drop i s) < length (drop i s) = rw length-drop (omega arith) in
      let ended : get_or s (i + n) 0 ≡ 0 = sym (get_or-drop i s n 0) ∙ zero_at-zero (drop i s) inside in
      rw (e, ← ended, byte_back s (i + n) (omega arith)) (part-back s i n)
