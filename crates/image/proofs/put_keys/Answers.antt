-- The used length, then the keys.
use Rattle.image.proofs.Puts.{keys-put}
use borrow.Author.Rules.{rules}
use Rattle.image.proofs.put_keys.Goals as goal

pub returns : goal.returns
returns c = (search rules, search (rules, keys-put))
