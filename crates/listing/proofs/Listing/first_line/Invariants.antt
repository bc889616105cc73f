-- The invariant: a key of the line's label comes next.
use Prim.Native.Nat.{◌-◌}
use lib.ListN.{length}
use Rattle.dots.specs.Wire.{dots_of}
use Rattle.listing.proofs.LineWalks.{AtKey}
use Rattle.listing.proofs.Listing.first_line.Given as goal

abbrev pub invariant-loop-line : goal.invariant-loop-line
invariant-loop-line l = AtKey l.self.n l.self.keys.now (dots_of l.self.dead.dots.now) l.line

abbrev pub decreases-loop-line : goal.decreases-loop-line
decreases-loop-line l = length l.self.keys.now - l.line.end
