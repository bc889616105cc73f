-- The table follows the calls.
use Rattle.image.proofs.Tables.{late-table}
use borrow.Author.Rules.{rules}
use Rattle.image.proofs.late_answer.Goals as goal

pub returns : goal.returns
returns c = search (rules, late-table)
