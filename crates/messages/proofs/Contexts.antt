-- The context at the end of a message: the number of its dots, and the dots. Assumes nothing.
use mathlib.Core.Path.{◌≡◌, sym, ◌∙◌}
use mathlib.Core.Bool.{true}
use mathlib.Core.List.{[], ◌∷◌, append-nil}
use Prim.Native.Nat.{ℕ, ◌+◌, ◌*◌, ◌/◌, ◌%◌}
use native.Mathlib.Omega.{arith}
use lib.ListN.{length, drop, get_or, length-drop}
use lib.Seq.{take_all}
use Rattle.wire.specs.Lists.{all}
use Rattle.wire.specs.Bytes.{Bytes, AreBytes, part_at}
use Rattle.wire.proofs.Fields.{byte_on, part-on, byte_back, part_length, bytes_take, bytes_drop}
use Rattle.dots.specs.Dots.{Context, dot_ok}
use Rattle.dots.specs.Wire.{dots_bytes, dots_of, dot_size}
use Rattle.dots.proofs.Loops.{length-dots_of}
use Rattle.dots.proofs.RoundTrip.{length-dots, dots-written, dots-read}
use Rattle.messages.specs.Message.{context_bytes}

-- a context's bytes that are whole dots are written as they are, after their number
pub context_wire : (context : Bytes) → AreBytes context → length context % dot_size ≡ 0 → context_bytes (dots_of context) ≡ length context / dot_size ∷ context
context_wire context small whole = rw (length-dots_of, dots-read context small whole)

module _ (s : Bytes) (i : ℕ) where
  pub context-on : (ds : Context) → all dot_ok ds ≡ true → drop i s ≡ context_bytes ds → (get_or s i 0 ≡ length ds) × (dots_of (part_at s (i + 1) (dot_size * length ds)) ≡ ds)
  context-on ds ok h =
      let count = byte_on s i (length ds) (dots_bytes ds) h in
      let part = part-on s (i + 1) (dot_size * length ds) (dots_bytes ds) [] (length-dots ds) (count.1 ∙ sym (append-nil (dots_bytes ds))) in
      (count.0, rw part.0 (dots-written ds ok))

  pub context-back : AreBytes s → i + 1 + dot_size * get_or s i 0 ≡ length s → context_bytes (dots_of (part_at s (i + 1) (dot_size * get_or s i 0))) ≡ drop i s
  context-back small h =
      let k : ℕ = get_or s i 0 in
      let size : length (part_at s (i + 1) (dot_size * k)) ≡ dot_size * k = part_length s (i + 1) (dot_size * k) (omega arith) in
      let count : dot_size * k / dot_size ≡ k = omega arith in
      let rest : part_at s (i + 1) (dot_size * k) ≡ drop (i + 1) s = take_all (dot_size * k) (drop (i + 1) s) (rw length-drop (omega arith)) in
      let wire = context_wire (part_at s (i + 1) (dot_size * k)) (bytes_take (drop (i + 1) s) (dot_size * k) (bytes_drop s (i + 1) small)) (rw size (omega arith)) in
      wire ∙ rw (size, count, rest) (byte_back s i (omega arith))
