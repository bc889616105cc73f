-- The run stands there already, or moves down.
use Rattle.compaction.proofs.Runs.{run_in_place, run_moved}
use borrow.Author.Rules.{rules}
use Rattle.compaction.proofs.move_run.Goals as goal

pub returns-then-to-from : goal.returns-then-to-from
returns-then-to-from c = search (rules, run_in_place)

pub returns : goal.returns
returns c = search (rules, run_moved)
