-- The fields at their places.
use Rattle.image.proofs.Fields.{state-put}
use borrow.Author.Rules.{rules}
use Rattle.image.proofs.state_in.Goals as goal

pub returns : goal.returns
returns c = search (rules, state-put)
