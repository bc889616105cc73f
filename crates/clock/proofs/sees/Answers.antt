-- The row is what `row_of` ensures.
use Rattle.clock.specs.Clock.{sees}
use Rattle.clock.proofs.sees.Goals as goal

pub returns : goal.returns
unfolding sees
returns c = rw (← c.row_of.ensures) c.sees.ensures
