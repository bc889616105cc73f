-- The invariant: each dot has its slot set, or is left.
use Rattle.dots.specs.Wire.{dots_of}
use Rattle.slots.proofs.Filling.{Filled}
use Rattle.slots.proofs.fill_slots.Given as goal

abbrev pub invariant-loop-dot : goal.invariant-loop-dot
invariant-loop-dot l = Filled (dots_of l.dots) (dots_of l.dot-iterator.bytes.now) l.slots
