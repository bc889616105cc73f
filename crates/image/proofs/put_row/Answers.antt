-- Base, then window.
use Rattle.image.proofs.Puts.{row_put_both}
use borrow.Author.Rules.{rules}
use Rattle.image.proofs.put_row.Goals as goal

pub returns : goal.returns
returns c = (search rules, search (rules, row_put_both))
