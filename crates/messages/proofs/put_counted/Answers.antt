-- The count, then what it counts.
use Prim.Native.Nat.{ℕ, ◌+◌, ◌≤◌}
use mathlib.Core.Path.{◌≡◌}
use mathlib.Core.List.{[], ◌∷◌}
use native.Mathlib.Omega.{arith}
use lib.ListN.{length}
use Rattle.wire.specs.Bytes.{Bytes, put_at}
use Rattle.wire.proofs.Fields.{put_next}
use borrow.Author.Rules.{rules}
use Rattle.messages.proofs.put_counted.Goals as goal

both-put : (s t u field : Bytes) (at next count : ℕ) → t ≡ put_at s at (count ∷ []) → next ≡ at + 1 → u ≡ put_at t next field → at + 1 + length field ≤ length s → u ≡ put_at s at (count ∷ field)
both-put s t u field at next count e n f fits = put_next s t u (count ∷ []) field at next e n f (omega arith)

pub returns : goal.returns
returns c = (search rules, search (rules, both-put))
