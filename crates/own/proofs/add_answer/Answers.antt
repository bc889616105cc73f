-- The first refusal of the two groups in a row.
use native.Mathlib.Omega.{arith}
use Rattle.steps.proofs.Answers.{kept, tombstoned, offer-with}
use Rattle.steps.proofs.Passed.{passed_up}
use Rattle.own.proofs.OwnAdd.{sizes, early-refused, early-next, early-offer, early-passed}
use Rattle.own.proofs.add_answer.Goals as goal

pub returns-in_err-add_early : goal.returns-in_err-add_early
returns-in_err-add_early c = rw (passed_up _ _ c.from_residual.ensures) (early-refused c.args.state.now c.args.label.now c.args.context.now c.args.lent c.requires _ c.add_early.ensures _ c.in_err-add_early.was)

pub next_dot-dot-requires : goal.next_dot-dot-requires
next_dot-dot-requires c = early-next c.args.state.now c.args.label.now c.args.context.now c.args.lent c.requires _ c.add_early.ensures _ c.in_ok-add_early.was

pub overflow_add-short : goal.overflow_add-short
overflow_add-short c = let sizes = sizes _ _ _ _ (early-offer c.args.state.now c.args.label.now c.args.context.now c.args.lent c.requires _ c.add_early.ensures _ c.in_ok-add_early.was _ c.next_dot-dot.ensures) in omega arith

pub overflow_add-short-2 : goal.overflow_add-short-2
overflow_add-short-2 c = let sizes = sizes _ _ _ _ (early-offer c.args.state.now c.args.label.now c.args.context.now c.args.lent c.requires _ c.add_early.ensures _ c.in_ok-add_early.was _ c.next_dot-dot.ensures) in omega arith

pub overflow_add-short-3 : goal.overflow_add-short-3
overflow_add-short-3 c = let sizes = sizes _ _ _ _ (early-offer c.args.state.now c.args.label.now c.args.context.now c.args.lent c.requires _ c.add_early.ensures _ c.in_ok-add_early.was _ c.next_dot-dot.ensures) in omega arith

pub crowded-crowded-requires : goal.crowded-crowded-requires
crowded-crowded-requires c = let sizes = sizes _ _ _ _ (early-offer c.args.state.now c.args.label.now c.args.context.now c.args.lent c.requires _ c.add_early.ensures _ c.in_ok-add_early.was _ c.next_dot-dot.ensures) in omega arith

pub add_late-requires : goal.add_late-requires
add_late-requires c = let k = early-offer c.args.state.now c.args.label.now c.args.context.now c.args.lent c.requires _ c.add_early.ensures _ c.in_ok-add_early.was _ c.next_dot-dot.ensures in
    let held = kept c.args.state.now k.state-ok in
    (offer-with c.args.state.now held c.args.context.now _ k.fits k.dot-ok k.new, tombstoned c.args.state.now held c.requires.sized, k.fits)

pub returns : goal.returns
returns c = early-passed c.args.state.now c.args.label.now c.args.context.now c.args.lent c.requires _ c.add_early.ensures _ c.in_ok-add_early.was _ _ c.next_dot-dot.ensures (rw c.crowded-crowded.ensures at c.add_late.ensures)
