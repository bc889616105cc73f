-- One field after the other.
use Prim.Native.Nat.{ℕ, ◌+◌, ◌≤◌}
use mathlib.Core.Path.{◌≡◌, ◌∙◌}
use mathlib.Core.List.{◌++◌}
use native.Mathlib.Omega.{arith}
use lib.ListN.{length, drop}
use Rattle.wire.specs.Bytes.{Bytes, put_at}
use Rattle.wire.proofs.Fields.{put_next, put_front}
use Rattle.dots.specs.Wire.{dots_of}
use Rattle.dots.specs.Message.{remove}
use Rattle.dots.proofs.Loops.{length-dots_of}
use Rattle.messages.specs.Message.{remove_kind, context_bytes, front_bytes, message_bytes, remove_fixed, front_fixed}
use Rattle.messages.specs.Write.{WholeContext}
use Rattle.messages.proofs.Lengths.{length-remove}
use borrow.Author.Rules.{rules}
use Rattle.messages.proofs.write_remove.Goals as goal

module _ (s name context : Bytes) (n r : ℕ) (whole : WholeContext context) (e₁ : n ≡ front_fixed + length name) (e : r ≡ n + 1 + length context) where
  size : r ≡ length (message_bytes name (remove (dots_of context)))
  size = omega (arith, length-remove name (dots_of context), length-dots_of context)

  all-put : (t u : Bytes) → length name + length context + remove_fixed ≤ length s → t ≡ put_at s 0 (front_bytes remove_kind name) → u ≡ put_at t n (context_bytes (dots_of context))
      → u ≡ message_bytes name (remove (dots_of context)) ++ drop r s
  unfolding message_bytes
  all-put t u fits f g =
      put_next s t u (front_bytes remove_kind name) (context_bytes (dots_of context)) 0 n f (omega arith) g (omega arith) ∙ put_front s (message_bytes name (remove (dots_of context))) ∙ rw size

pub returns : goal.returns
returns c = record { size = search (rules, size); bytes = search (rules, all-put) }
