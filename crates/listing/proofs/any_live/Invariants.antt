-- The invariant: some key from `at` on is live where some key is.
use mathlib.Core.Path.{◌≡◌}
use mathlib.Core.Bool.{true}
use Prim.Native.Nat.{◌-◌, ◌≤◌}
use lib.ListN.{length, drop}
use Rattle.dots.specs.Wire.{dots_of}
use Rattle.store.specs.Cut.{entries_in}
use Rattle.store.specs.Valid.{keys_fit}
use Rattle.listing.proofs.ListedKeys.{some_live}
use Rattle.listing.proofs.any_live.Given as goal

abbrev pub invariant-loop-at : goal.invariant-loop-at
invariant-loop-at l = (l.at ≤ length l.keys) × (keys_fit l.n (drop l.at l.keys) ≡ true) × (some_live (dots_of l.tombstone) (entries_in l.n l.keys) ≡ some_live (dots_of l.tombstone) (entries_in l.n (drop l.at l.keys)))

abbrev pub decreases-loop-at : goal.decreases-loop-at
decreases-loop-at l = length l.keys - l.at
