use native.Mathlib.Omega.{arith}
use Rattle.slots.proofs.Filling.{fill_start, fill_turn, fill_end}
use Rattle.slots.proofs.fill_slots.Goals as goal

pub loop-dot-init : goal.loop-dot-init
loop-dot-init c = fill_start _ _ _ (omega arith) cc

pub loop-dot-preserved : goal.loop-dot-preserved
loop-dot-preserved c = fill_turn _ _ _ c.loop-dot.invariant _ _ _ c.in-Some.ensures.steps c.slot_of.ensures.0

pub returns : goal.returns
returns c = fill_end _ _ _ c.loop-dot.invariant c.in-None.ensures.steps.0
