-- The invariant, `Walked`: up to the end of the run the kept keys stand where the run says, and from there on nothing has moved.
use Prim.Native.Nat.{◌-◌}
use lib.ListN.{length}
use Rattle.compaction.specs.Compaction.{is_in}
use Rattle.compaction.proofs.Compaction.{Walked}
use Rattle.compaction.proofs.drop_keys.Given as goal

abbrev pub invariant-loop-run : goal.invariant-loop-run
invariant-loop-run l = Walked (is_in l.dead.dots.now) l.n l.initial.keys l.keys l.run

abbrev pub decreases-loop-run : goal.decreases-loop-run
decreases-loop-run l = length l.keys - l.run.end
