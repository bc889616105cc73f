-- The slot is computed as it is defined.
use mathlib.Core.Path.{refl}
use native.Mathlib.Omega.{arith}
use Rattle.slots.specs.Slots.{slot_of}
use Rattle.slots.proofs.slot_of.Goals as goal

pub returns : goal.returns
unfolding slot_of
returns c = (refl, omega arith)
