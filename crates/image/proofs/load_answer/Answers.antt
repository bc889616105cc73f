-- The tests, and those that come after the shape where all pass.
use Rattle.steps.proofs.Passed.{passed_up}
use Rattle.image.proofs.Tables.{early-refused, early-checked, load-within}
use borrow.Author.Rules.{rules}
use Rattle.image.proofs.load_answer.Goals as goal

pub returns-in_err-refused : goal.returns-in_err-refused
returns-in_err-refused c = rw (passed_up _ _ c.from_residual.ensures) (search (rules, early-refused))

pub checked_answer-requires : goal.checked_answer-requires
checked_answer-requires c = search (rules, load-within)

pub returns : goal.returns
returns c = search (rules, early-checked)
