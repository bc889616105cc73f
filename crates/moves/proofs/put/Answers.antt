-- The part from `at` on takes the bytes, and comes back.
use Prim.Native.Nat.{ℕ, ◌+◌, ◌-◌}
use mathlib.Core.Path.{◌≡◌}
use mathlib.Core.List.{List, ◌++◌}
use native.Mathlib.Omega.{arith}
use lib.ListN.{length, take, drop}
use lib.Seq.{drop-drop}
use Rattle.wire.specs.Bytes.{put_at}
use borrow.Author.Rules.{rules}
use Rattle.moves.proofs.put.Goals as goal

copied : (s src part : List ℕ) (at : ℕ) → part ≡ src → take at s ++ (part ++ drop (at + length src - at) (drop at s)) ≡ put_at s at src
unfolding put_at
copied s src part at e =
    let n : at + length src - at ≡ length src = omega arith in
    rw (e, n, drop-drop)

pub returns : goal.returns
returns c = search (rules, copied)
