-- One field after the other.
use Prim.Native.Nat.{ℕ, ◌+◌, ◌≤◌}
use mathlib.Core.Path.{◌≡◌}
use mathlib.Core.List.{[], ◌∷◌}
use native.Mathlib.Omega.{arith}
use lib.ListN.{length}
use Rattle.wire.specs.Bytes.{Bytes, put_at}
use Rattle.keys.specs.Parts.{front_bytes}
use Rattle.keys.proofs.Puts.{put_three}
use borrow.Author.Rules.{rules}
use Rattle.keys.specs.Key.{prefix_fixed}
use Rattle.keys.proofs.put_front.Goals as goal

all-put : (s t u v name : Bytes) (b n m : ℕ) → t ≡ put_at s 0 (0x02 ∷ 0x01 ∷ []) → n ≡ 0 + 2 → u ≡ put_at t n name → m ≡ n + length name → v ≡ put_at u m (0 ∷ b ∷ []) → length name + prefix_fixed ≤ length s
    → v ≡ put_at s 0 (front_bytes name b)
all-put s t u v name b n m e f g h k fits = put_three s t u v (0x02 ∷ 0x01 ∷ []) name (0 ∷ b ∷ []) 0 n m e f g h k (omega arith)

pub returns : goal.returns
returns c = (search rules, search (rules, all-put))
