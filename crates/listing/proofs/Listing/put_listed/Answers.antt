-- Where no dot is listed nothing is put, else the line.
use Rattle.listing.proofs.Folds.{none-put, line-room, one_put}
use borrow.Author.Rules.{rules}
use Rattle.listing.proofs.Listing.put_listed.Goals as goal

pub returns-then-line-eq0 : goal.returns-then-line-eq0
returns-then-line-eq0 c = search (rules, none-put)

pub put_line-requires : goal.put_line-requires
put_line-requires c = search (rules, line-room)

pub returns : goal.returns
returns c = search (rules, one_put)
