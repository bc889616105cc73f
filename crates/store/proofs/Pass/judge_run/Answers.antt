use Rattle.std.proofs.Common.{arith}
use Rattle.store.proofs.Pass.judge_run.Goals as goal

pub loop-last-init : goal.loop-last-init
loop-last-init c = c.requires.0

pub loop-last-smaller : goal.loop-last-smaller
loop-last-smaller c = let n = rw c.in_ok-last.was at c.roomy_key.ensures in omega arith

pub loop-last-preserved : goal.loop-last-preserved
loop-last-preserved c = (rw c.in_ok-last.was at c.roomy_key.ensures).0

pub returns : goal.returns
returns c = (c.loop-last.invariant, c.loop-last-test.false)
