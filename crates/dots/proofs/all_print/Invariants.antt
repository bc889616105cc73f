-- The invariant: the test of all bytes is the flag, and the test of the rest.
use mathlib.Core.Bool.{◌&&◌}
use mathlib.Core.Path.{◌≡◌}
use lib.ListN.{drop}
use Rattle.wire.specs.Lists.{all}
use Rattle.dots.specs.Names.{prints}
use Rattle.dots.proofs.all_print.Given as goal

abbrev pub invariant-loop-b : goal.invariant-loop-b
invariant-loop-b l = all prints l.text ≡ (l.ok && all prints (drop l.b-index l.text))
