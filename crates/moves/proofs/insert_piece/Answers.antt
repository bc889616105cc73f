-- The part from `at` to the new end of the used bytes takes the key at its front, and comes back.
use Prim.Native.Nat.{ℕ, ◌+◌, ◌-◌, ◌≤◌}
use mathlib.Core.Path.{◌≡◌}
use mathlib.Core.List.{List, ◌++◌, append_assoc}
use native.Mathlib.Omega.{arith}
use lib.ListN.{length, take, drop}
use lib.Seq.{take-take}
use Rattle.wire.specs.Bytes.{inserted_at}
use borrow.Author.Rules.{rules}
use borrow.Rule.Slice.PartMut.{mid_len, Post-is}
use Rattle.moves.proofs.insert_piece.Goals as goal

inserted : (s key part : List ℕ) (used at : ℕ) → at ≤ used → used + length key ≤ length s
    → part ≡ key ++ take (length (take (used + length key - at) (drop at s)) - length key) (take (used + length key - at) (drop at s))
    → take at s ++ (part ++ drop (used + length key - at) (drop at s)) ≡ inserted_at s used at key
unfolding inserted_at
inserted s key part used at h k e =
    let left : used + length key - at - length key ≡ used - at = omega arith in
    rw (e, mid_len at (used + length key) s k, left, take-take (used - at) (used + length key - at) (drop at s) (omega arith), Post-is at (used + length key) s (omega arith), append_assoc)

pub returns : goal.returns
returns c = search (rules, inserted)
