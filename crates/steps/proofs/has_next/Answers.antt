-- At the largest own base there is no such dot.
use Prim.Native.Nat.{◌+◌}
use native.Mathlib.Omega.{arith}
use Rattle.steps.proofs.DotLoops.{none_past_largest}
use Rattle.steps.proofs.has_next.Goals as goal

pub returns-then-base-eq18446744073709551615 : goal.returns-then-base-eq18446744073709551615
returns-then-base-eq18446744073709551615 c = none_past_largest c.args.context.now (λ i. (c.type_inv.context i).fits) c.args.own (c.args.base + 1) (omega arith)
