-- One field after the other.
use Rattle.image.proofs.Puts.{rest_put}
use borrow.Author.Rules.{rules}
use Rattle.image.proofs.put_rest.Goals as goal

pub returns : goal.returns
returns c = (search rules, search (rules, rest_put))
