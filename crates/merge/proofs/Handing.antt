-- Which first key the step hands back, as it is tested. Assumes nothing.
use mathlib.Core.Path.{◌≡◌, sym, ◌∙◌}
use mathlib.Core.Bool.{Bool, true, false, ◌&&◌, ◌||◌}
use Prim.Native.Nat.{ℕ}
use native.Mathlib.Nat.{add-zero, sub-zero}
use lib.Dec.{ltb, eqb}
use lib.ListN.{length, take}
use lib.Seq.{length-take-le}
use denote.Ref.{Bor}
use Rattle.wire.specs.Lists.{is_lt}
use Rattle.wire.specs.Bytes.{Bytes, compare_bytes, IsPart}
use Rattle.store.specs.Cut.{key_length}
use Rattle.store.proofs.Cut.{key_length_le}
use Rattle.merge.specs.Step.{second_lower, Handed}

-- the first key has its length
pub key-sized : (n : ℕ) (keys : Bytes) (len : ℕ) → len ≡ key_length n keys → len ≡ length (take len keys)
key-sized n keys len e = rw e (sym (length-take-le (key_length n keys) keys (key_length_le n keys)))

-- bytes from the front of a slice
pub front-part : (s r : Bor Bytes) (k : ℕ) → r.ref_ptr.0 ≡ s.ref_ptr.0 → r.ref_ptr.1 ≡ s.ref_ptr.1 → r.now ≡ take k s.now → IsPart s 0 k r
front-part s r k block offset bytes = record { block = block; offset = offset ∙ rw add-zero; bytes = bytes ∙ rw sub-zero }

module _ (n : ℕ) (a b : Bor Bytes) (i j : ℕ) (first : i ≡ key_length n a.now) (second : j ≡ key_length n b.now)
    (before : Bool) (said : before ≡ is_lt (compare_bytes (take j b.now) (take i a.now))) where
  tested : (ltb 0 (length b.now) && (eqb (length a.now) 0 || before)) ≡ second_lower n a.now b.now
  unfolding second_lower
  tested = rw (said, first, second)

  pub handed-second : (ltb 0 (length b.now) && (eqb (length a.now) 0 || before)) ≡ true → (r : Bor Bytes) → IsPart b 0 j r → Handed n a b r
  handed-second t r part = let lower : second_lower n a.now b.now ≡ true = sym tested ∙ t in rw lower (rw second at part)

  pub handed-first : (ltb 0 (length b.now) && (eqb (length a.now) 0 || before)) ≡ false → (r : Bor Bytes) → IsPart a 0 i r → Handed n a b r
  handed-first t r part = let higher : second_lower n a.now b.now ≡ false = sym tested ∙ t in rw higher (rw first at part)
