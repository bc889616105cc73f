-- The eight bytes of the number.
use Rattle.wire.proofs.Fields.{number-ends, number_put}
use borrow.Author.Rules.{rules}
use Rattle.moves.proofs.put_number.Goals as goal

pub returns : goal.returns
returns c = (search (rules, number-ends 8), search (rules, number_put 8))
