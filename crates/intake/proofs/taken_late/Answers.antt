-- By the kind: the parts of the message are judged as the message is. Each test is its definition; an add's own dot is offered too.
use mathlib.Core.Path.{ap}
use native.Mathlib.Omega.{arith}
use Rattle.messages.specs.Message.{kind_byte}
use Rattle.steps.proofs.Answers.{kept, label-short, tombstoned, offer, offer-with}
use Rattle.steps.proofs.Passed.{passed_up}
use Rattle.intake.proofs.TakeIn.{not_add, offered, removed, late-add, add-stopped, add-judged}
use Rattle.intake.proofs.taken_late.Goals as goal

pub shared_ref_as_front-other_set : goal.shared_ref_as_front-other_set
shared_ref_as_front-other_set c = (kept c.args.state.now c.requires.state-ok).short

pub crowded-crowded-requires : goal.crowded-crowded-requires
crowded-crowded-requires c = let k = offered c.args.message.now _ c.requires.found _ c.part-context.ensures c.args.state.now _ c.requires.state-ok c.requires.small (ap kind_byte c.in-Add.is) c.part-label.ensures in
    let short = (kept _ k.state-ok).short in
    let most = label-short _ k.labelled in
    let small = k.small in
    omega arith

pub add_late-requires : goal.add_late-requires
add_late-requires c = let k = offered c.args.message.now _ c.requires.found _ c.part-context.ensures c.args.state.now _ c.requires.state-ok c.requires.small (ap kind_byte c.in-Add.is) c.part-label.ensures in
    let held = kept c.args.state.now k.state-ok in
    (offer-with c.args.state.now held _ _ k.fits k.dot-ok k.new, tombstoned c.args.state.now held c.requires.sized, k.fits)

pub returns-in_err-taken_early-in-Add : goal.returns-in_err-taken_early-in-Add
returns-in_err-taken_early-in-Add c = rw (passed_up _ _ c.from_residual.ensures)
    (late-add c.args.message.now _ c.requires.found _ c.part-context.ensures c.args.state.now c.args.size _ c.part-given.ensures _ _ (ap kind_byte c.in-Add.is) c.part-label.ensures
    (add-stopped c.args.state.now _ _ _ c.own_base-base.ensures _ _ c.other_set-other.ensures c.own_ahead-ahead.ensures c.args.size _ _ _ c.dot_ahead.ensures _ c.taken_early.ensures _ c.in_err-taken_early-in-Add.was))

pub returns-in_ok-taken_early-in-Add : goal.returns-in_ok-taken_early-in-Add
returns-in_ok-taken_early-in-Add c = late-add c.args.message.now _ c.requires.found _ c.part-context.ensures c.args.state.now c.args.size _ c.part-given.ensures _ _ (ap kind_byte c.in-Add.is) c.part-label.ensures
    (add-judged c.args.state.now _ _ _ c.own_base-base.ensures _ _ c.other_set-other.ensures c.own_ahead-ahead.ensures c.args.size _ _ _ c.dot_ahead.ensures _ c.taken_early.ensures _ c.in_ok-taken_early-in-Add.was _ (rw c.crowded-crowded.ensures at c.add_late.ensures))

pub remove_late-requires : goal.remove_late-requires
remove_late-requires c = let held = kept c.args.state.now c.requires.state-ok in
    let fits = removed c.args.message.now _ c.requires.found _ c.part-context.ensures (not_add _ c.in-Remove.is) in
    (offer c.args.state.now held _ fits, tombstoned c.args.state.now held c.requires.sized, fits)
