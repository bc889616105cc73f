-- The invariant: the test of the dots that are left gives what the test of all gives at the start.
use Rattle.std.proofs.Common.{◌≡◌, true}
use Rattle.clock.specs.Row.{window_width, well_formed}
use Rattle.clock.specs.Code.{row_of}
use Rattle.dots.specs.Wire.{dots_of}
use Rattle.clock.specs.Reach.{reach_of, reach_each}
use Rattle.clock.proofs.reach_dots.Given as goal

abbrev pub invariant-loop-dot : goal.invariant-loop-dot
invariant-loop-dot l = (well_formed window_width (row_of l.x.row) ≡ true)
    × (reach_each window_width l.words (reach_of l.x) (dots_of l.dot-iterator.bytes.now) ≡ reach_each window_width l.words (reach_of l.initial.x) (dots_of l.offered))
