use native.Mathlib.Omega.{arith}
use Rattle.merge.proofs.Runs.{start-long, label-short, run-start, run_end, run-stops, run_goes_on}
use borrow.Author.Rules.{rules}
use Rattle.merge.proofs.label_run.Goals as goal

pub overflow_sub-len : goal.overflow_sub-len
overflow_sub-len c = omega (arith, start-long _ _ _ c.requires.1)

pub loop-at-init : goal.loop-at-init
loop-at-init c = search (rules, run-start)

pub returns-then-not-starts_with : goal.returns-then-not-starts_with
returns-then-not-starts_with c = search (rules, run-stops)

pub overflow_add-at : goal.overflow_add-at
overflow_add-at c = omega (arith, start-long _ _ _ c.requires.1, label-short _ _ _ c.requires.1)

pub loop-at-preserved : goal.loop-at-preserved
loop-at-preserved c = search (rules, run_goes_on)

pub returns : goal.returns
returns c = search (rules, run_end)
