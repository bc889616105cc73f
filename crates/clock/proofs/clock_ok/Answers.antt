--
use Rattle.std.proofs.Common.{Bool, ◌&&◌, eqb, ap, ap₂}
use Rattle.clock.specs.Row.{Row}
use Rattle.clock.specs.Clock.{clock_ok}
use Rattle.clock.proofs.clock_ok.Goals as goal

pub returns : goal.returns
unfolding clock_ok
returns c = ap₂ (λ (p q : Bool). p && q) c.rows_ok-rows.ensures (ap (λ (r : Row). eqb r.window 0) c.row_of-row.ensures)
