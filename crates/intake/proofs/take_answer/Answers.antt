-- The first refusal of the state, of the message alone, and of both.
use mathlib.Core.Path.{sym, ◌∙◌}
use Rattle.steps.proofs.Passed.{passed_up}
use Rattle.intake.proofs.TakeIn.{read-refused, late-judge, late-refused, late-passed}
use Rattle.intake.proofs.take_answer.Goals as goal

pub returns-in_err-fields : goal.returns-in_err-fields
returns-in_err-fields c = rw (passed_up _ _ c.from_residual.ensures)
    (read-refused c.args.state.now c.args.message.now c.args.read c.requires.0 c.args.lent c.requires.1 c.if-lent.false _ c.in_err-fields.was)

pub taken_late-requires : goal.taken_late-requires
taken_late-requires c = late-judge c.args.state.now c.args.message.now c.args.read c.requires.0 c.args.lent c.requires.1 c.if-lent.false _ c.in_ok-fields.was

pub returns-in_err-taken_late : goal.returns-in_err-taken_late
returns-in_err-taken_late c = rw (passed_up _ _ c.from_residual-in_err-taken_late.ensures)
    (late-refused c.args.state.now c.args.message.now c.args.read c.requires.0 c.args.lent c.requires.1 c.if-lent.false _ c.in_ok-fields.was _ (sym c.in_err-taken_late.was ∙ c.taken_late.ensures))

pub returns : goal.returns
returns c = late-passed c.args.state.now c.args.message.now c.args.read c.requires.0 c.args.lent c.requires.1 c.if-lent.false _ c.in_ok-fields.was _ (sym c.in_ok-taken_late.was ∙ c.taken_late.ensures)
