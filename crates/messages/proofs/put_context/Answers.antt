-- Whole dots are their own bytes.
use Prim.Native.Nat.{ℕ, ◌/◌, ◌%◌}
use mathlib.Core.Path.{◌≡◌}
use mathlib.Core.List.{◌∷◌}
use native.Mathlib.Omega.{arith}
use lib.ListN.{length, get_or}
use mir.Syntax.{w8}
use mir.Val.{Fits}
use Rattle.wire.specs.Bytes.{Bytes, put_at}
use Rattle.dots.specs.Wire.{dots_of, dot_size}
use Rattle.messages.specs.Message.{context_bytes}
use Rattle.messages.proofs.Contexts.{context_wire}
use borrow.Author.Rules.{rules}
use Rattle.messages.proofs.put_context.Goals as goal

whole-put : (s t context : Bytes) (at : ℕ) → ((i : ℕ) → Fits w8 (get_or context i 0)) → length context % dot_size ≡ 0 → t ≡ put_at s at (length context / dot_size ∷ context)
    → t ≡ put_at s at (context_bytes (dots_of context))
whole-put s t context at small whole e = rw (context_wire context (λ i. let fits = small i in omega arith) whole) e

pub returns : goal.returns
returns c = (search rules, search (rules, whole-put))
