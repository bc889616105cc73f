-- The bytes move up, and the key overwrites the first ones.
use Prim.Native.Nat.{ℕ, ◌-◌, ◌≤◌}
use mathlib.Core.Path.{◌≡◌}
use mathlib.Core.List.{List, ◌++◌}
use lib.ListN.{length, take, drop}
use lib.Seq.{drop_at, length-take-le}
use borrow.Author.Rules.{rules}
use Rattle.moves.proofs.insert_front.Goals as goal

overwritten : (s key up part : List ℕ) → length key ≤ length s → up ≡ take (length key) s ++ take (length s - length key) s
    → part ≡ key → part ++ drop (length key) up ≡ key ++ take (length s - length key) s
overwritten s key up part h e f = rw (f, e, drop_at (take (length key) s) (take (length s - length key) s) (length key) (length-take-le (length key) s h))

pub returns : goal.returns
returns c = search (rules, overwritten)
