-- One field after the other.
use Prim.Native.Nat.{ℕ, ◌+◌, ◌≤◌}
use mathlib.Core.Path.{◌≡◌, sym, ap, ◌∙◌}
use mathlib.Core.List.{◌++◌, append_assoc}
use native.Mathlib.Omega.{arith}
use lib.ListN.{length, drop, length-append}
use Rattle.wire.specs.Bytes.{Bytes, put_at}
use Rattle.wire.proofs.Fields.{put_next, put_front}
use Rattle.dots.specs.declared.Dot.{Dot}
use Rattle.dots.specs.Wire.{dot_bytes, dots_of, dot_size}
use Rattle.dots.specs.Message.{add}
use Rattle.dots.proofs.Loops.{length-dots_of}
use Rattle.dots.proofs.RoundTrip.{length-dot}
use Rattle.messages.specs.Message.{add_kind, counted, context_bytes, front_bytes, message_bytes, add_fixed, front_fixed}
use Rattle.messages.specs.Write.{WholeContext}
use Rattle.messages.proofs.Lengths.{length-add}
use borrow.Author.Rules.{rules}
use Rattle.messages.proofs.write_add.Goals as goal

module _ (s name label context : Bytes) (d : Dot) (n₁ n₂ n₃ r : ℕ) (whole : WholeContext context) (e₁ : n₁ ≡ front_fixed + length name) (e₂ : n₂ ≡ n₁ + 1 + length label) (e₃ : n₃ ≡ n₂ + dot_size) (e : r ≡ n₃ + 1 + length context) where
  size : r ≡ length (message_bytes name (add label d (dots_of context)))
  size = omega (arith, length-add name label d (dots_of context), length-dots_of context)

  all-put : (t₁ t₂ t₃ t : Bytes) → length name + length label + length context + add_fixed ≤ length s
      → t₁ ≡ put_at s 0 (front_bytes add_kind name) → t₂ ≡ put_at t₁ n₁ (counted label) → t₃ ≡ put_at t₂ n₂ (dot_bytes d) → t ≡ put_at t₃ n₃ (context_bytes (dots_of context))
      → t ≡ message_bytes name (add label d (dots_of context)) ++ drop r s
  unfolding message_bytes
  all-put t₁ t₂ t₃ t fits f₁ f₂ f₃ f =
      let two : Bytes = front_bytes add_kind name ++ counted label in
      let l₂ : length two ≡ n₂ = rw (length-append (front_bytes add_kind name) (counted label)) (omega arith) in
      let l₃ : length (two ++ dot_bytes d) ≡ n₃ = rw (length-append two (dot_bytes d), l₂, length-dot d) (sym e₃) in
      let to-label : t₂ ≡ put_at s 0 two = put_next s t₁ t₂ (front_bytes add_kind name) (counted label) 0 n₁ f₁ (omega arith) f₂ (omega arith) in
      let to-dot : t₃ ≡ put_at s 0 (two ++ dot_bytes d) = put_next s t₂ t₃ two (dot_bytes d) 0 n₂ to-label (omega arith) f₃ (omega arith) in
      let to_end : t ≡ put_at s 0 ((two ++ dot_bytes d) ++ context_bytes (dots_of context)) = put_next s t₃ t (two ++ dot_bytes d) (context_bytes (dots_of context)) 0 n₃ to-dot (omega arith) f (omega arith) in
      let same : (two ++ dot_bytes d) ++ context_bytes (dots_of context) ≡ message_bytes name (add label d (dots_of context)) = simp append_assoc in
      to_end ∙ ap (put_at s 0) same ∙ put_front s (message_bytes name (add label d (dots_of context))) ∙ rw size

pub returns : goal.returns
returns c = record { size = search (rules, size); bytes = search (rules, all-put) }
