-- The invariant: the lines so far, which stand at the front of out unless the run is dry, with those left are the whole listing.
use Prim.Native.Nat.{◌-◌}
use lib.ListN.{length}
use Rattle.dots.specs.Wire.{dots_of}
use Rattle.listing.proofs.Folds.{PutSoFar}
use Rattle.listing.proofs.Listing.put_lines.Given as goal

abbrev pub invariant-loop-at : goal.invariant-loop-at
invariant-loop-at l = PutSoFar l.self.n l.self.keys.now (dots_of l.self.dead.dots.now) l.dry l.initial.out l.out l.bytes l.labels l.at

abbrev pub decreases-loop-at : goal.decreases-loop-at
decreases-loop-at l = length l.self.keys.now - l.at
