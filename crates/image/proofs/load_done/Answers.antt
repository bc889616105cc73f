-- State and keys at their places.
use Rattle.image.proofs.Fields.{load-put}
use borrow.Author.Rules.{rules}
use Rattle.image.proofs.load_done.Goals as goal

pub returns : goal.returns
returns c = search (rules, load-put)
