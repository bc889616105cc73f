-- The row is what `row_of` ensures.
use mathlib.Core.Path.{ap}
use Rattle.clock.specs.Row.{Row}
use Rattle.steps.proofs.own_base.Goals as goal

pub returns : goal.returns
returns c = ap (λ (r : Row). r.base) c.row_of-row.ensures
