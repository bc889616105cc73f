-- The invariant: the keys before `at` are all of the label, so the run goes on in the rest. The measure is what is left of the keys.
use Prim.Native.Nat.{◌-◌}
use lib.ListN.{length}
use Rattle.merge.proofs.Runs.{RunLeft}
use Rattle.merge.proofs.label_run.Given as goal

abbrev pub invariant-loop-at : goal.invariant-loop-at
invariant-loop-at l = RunLeft l.n l.keys l.start l.size l.at

abbrev pub decreases-loop-at : goal.decreases-loop-at
decreases-loop-at l = length l.keys - l.at
