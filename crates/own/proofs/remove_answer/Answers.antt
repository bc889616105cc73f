-- The first refusal of the two groups in a row.
use native.Mathlib.Omega.{arith}
use Rattle.steps.proofs.Answers.{kept, tombstoned, offer}
use Rattle.steps.proofs.Passed.{passed_up}
use Rattle.own.proofs.OwnRemove.{early-refused, early-kept, early-passed}
use Rattle.own.proofs.remove_answer.Goals as goal

pub returns-in_err-remove_early : goal.returns-in_err-remove_early
returns-in_err-remove_early c = rw (passed_up _ _ c.from_residual.ensures) (early-refused c.args.state.now c.args.context.now c.args.lent c.requires _ c.remove_early.ensures _ c.in_err-remove_early.was)

pub overflow_add-short : goal.overflow_add-short
overflow_add-short c = let k = early-kept c.args.state.now c.args.context.now c.args.lent c.requires _ c.remove_early.ensures _ c.in_ok-remove_early.was in let short = (kept c.args.state.now k.0).short in let few = k.1.short in omega arith

pub overflow_add-short-2 : goal.overflow_add-short-2
overflow_add-short-2 c = let k = early-kept c.args.state.now c.args.context.now c.args.lent c.requires _ c.remove_early.ensures _ c.in_ok-remove_early.was in let short = (kept c.args.state.now k.0).short in let few = k.1.short in omega arith

pub remove_late-requires : goal.remove_late-requires
remove_late-requires c = let k = early-kept c.args.state.now c.args.context.now c.args.lent c.requires _ c.remove_early.ensures _ c.in_ok-remove_early.was in
    let held = kept c.args.state.now k.0 in
    (offer c.args.state.now held c.args.context.now k.1, tombstoned c.args.state.now held c.requires.sized, k.1)

pub returns : goal.returns
returns c = early-passed c.args.state.now c.args.context.now c.args.lent c.requires _ c.remove_early.ensures _ c.in_ok-remove_early.was _ c.remove_late.ensures
