-- The fixed bytes, then the name.
use Prim.Native.Nat.{ℕ, ◌+◌, ◌≤◌}
use mathlib.Core.Path.{◌≡◌}
use mathlib.Core.List.{[], ◌∷◌}
use native.Mathlib.Omega.{arith}
use lib.ListN.{length}
use Rattle.wire.specs.Bytes.{Bytes, put_at}
use Rattle.wire.proofs.Fields.{put_next}
use Rattle.messages.specs.Message.{counted, front_bytes, front_fixed}
use borrow.Author.Rules.{rules}
use Rattle.messages.proofs.put_front.Goals as goal

both-put : (s t u name : Bytes) (kind next : ℕ) → t ≡ put_at s 0 (0x50 ∷ 0x54 ∷ 0x4C ∷ 0x00 ∷ 0x01 ∷ kind ∷ []) → next ≡ 0 + 6 → u ≡ put_at t next (counted name) → length name + front_fixed ≤ length s
    → u ≡ put_at s 0 (front_bytes kind name)
both-put s t u name kind next e n f fits = put_next s t u (0x50 ∷ 0x54 ∷ 0x4C ∷ 0x00 ∷ 0x01 ∷ kind ∷ []) (counted name) 0 next e n f (omega arith)

pub returns : goal.returns
returns c = (search rules, search (rules, both-put))
