-- The invariant: the flag is the test of the rows so far.
use Rattle.std.proofs.Common.{◌≡◌, ◌-◌}
use Rattle.clock.specs.Row.{window_width, well_formed}
use Rattle.clock.specs.Clock.{row_at, all_to}
use Rattle.clock.proofs.rows_ok.Given as goal

abbrev pub invariant-loop-a : goal.invariant-loop-a
invariant-loop-a l = l.ok ≡ all_to (l.a - 1) (λ b. well_formed window_width (row_at l.words b))
