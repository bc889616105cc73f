-- The row is what `row_of` ensures, and the new one what `join` ensures.
use Rattle.clock.specs.Clock.{join_dot}
use Rattle.clock.proofs.join_dot.Goals as goal

pub join-requires : goal.join-requires
join-requires c = rw c.row_of-row.ensures c.requires

pub returns : goal.returns
unfolding join_dot
returns c = cc
