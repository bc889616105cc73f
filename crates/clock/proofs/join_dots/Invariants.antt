-- The invariant: the dots that are left are ready, and joining them gives what joining all gives at the start.
use Rattle.std.proofs.Common.{◌≡◌}
use Rattle.clock.specs.Row.{window_width}
use Rattle.clock.specs.Clock.{join_each}
use Rattle.dots.specs.Wire.{dots_of}
use Rattle.clock.specs.Reach.{Ready}
use Rattle.clock.proofs.join_dots.Given as goal

abbrev pub invariant-loop-dot : goal.invariant-loop-dot
invariant-loop-dot l = Ready window_width l.words (dots_of l.dot-iterator.bytes.now)
    × (join_each window_width l.words (dots_of l.dot-iterator.bytes.now) ≡ join_each window_width l.initial.words (dots_of l.offered))
