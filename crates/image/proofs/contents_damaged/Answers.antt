-- The keys are judged where they stand.
use Rattle.image.proofs.Fields.{judged-written}
use borrow.Author.Rules.{rules}
use Rattle.image.proofs.contents_damaged.Goals as goal

pub returns : goal.returns
returns c = search (rules, judged-written)
