-- The invariant: the whole test is that no bit was met, and the test of the rest.
use mathlib.Core.Bool.{◌&&◌}
use mathlib.Core.Path.{◌≡◌}
use lib.Dec.{eqb}
use lib.ListN.{drop}
use Rattle.wire.specs.Lists.{all}
use Rattle.judging.proofs.all_zero.Given as goal

abbrev pub invariant-loop-b : goal.invariant-loop-b
invariant-loop-b l = all (λ b. eqb b 0) l.s ≡ (eqb l.bits 0 && all (λ b. eqb b 0) (drop l.b-index l.s))
