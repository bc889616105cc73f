-- The length is the byte at the place.
use borrow.Author.Rules.{rules}
use Rattle.messages.proofs.counted_at.Goals as goal

pub returns : goal.returns
returns c = (cc, search rules, search rules)
