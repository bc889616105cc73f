-- The invariant: the test of all dots is the flag, and the test of those left.
use mathlib.Core.Path.{◌≡◌}
use mathlib.Core.Bool.{◌&&◌}
use Rattle.dots.specs.Dots.{ascending_dots}
use Rattle.dots.specs.Wire.{dots_of}
use Rattle.dots.proofs.Rules.{ascend_after}
use Rattle.dots.proofs.Loops.{left}
use Rattle.contexts.proofs.ascending_dots.Given as goal

abbrev pub invariant-loop-i : goal.invariant-loop-i
invariant-loop-i l = ascending_dots (dots_of l.dots) ≡ (l.ok && ascend_after l.before (left l.dots l.i))
