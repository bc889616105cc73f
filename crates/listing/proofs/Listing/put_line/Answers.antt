-- What stands before the dots is put first, then the dots into the rest.
use native.Mathlib.Omega.{arith}
use lib.ListN.{length-take}
use Rattle.listing.proofs.PutLines.{label-fits, head-room, next-within, given-room, given-put}
use borrow.Author.Rules.{rules}
use Rattle.listing.proofs.Listing.put_line.Goals as goal

pub put_head-next-requires : goal.put_head-next-requires
put_head-next-requires c = (search (rules, label-fits), omega (arith, c.requires.2.few, c.requires.2.within, c.requires.1), search (rules, head-room))

pub slice_bounds-put_dots-end : goal.slice_bounds-put_dots-end
slice_bounds-put_dots-end c = rw length-take (omega arith)

pub slice_bounds-put_dots-count : goal.slice_bounds-put_dots-count
slice_bounds-put_dots-count c = search (rules, next-within)

pub slice_bounds-put_dots-start : goal.slice_bounds-put_dots-start
slice_bounds-put_dots-start c = search (rules, next-within)

pub put_dots-requires : goal.put_dots-requires
put_dots-requires c = search (rules, given-room)

pub returns : goal.returns
returns c = search (rules, given-put)
