-- The front, then the actor.
use Rattle.image.proofs.Puts.{front-put}
use borrow.Author.Rules.{rules}
use Rattle.image.proofs.put_front.Goals as goal

pub returns : goal.returns
returns c = (search rules, search (rules, front-put))
