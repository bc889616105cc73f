-- The slots of both tombstones.
use Rattle.wire.proofs.Parts.{rest_part}
use Rattle.merge.proofs.BothSides.{both_slotted}
use Rattle.merge.proofs.put_merged.Goals as goal

pub invariant_of-sides : goal.invariant_of-sides
invariant_of-sides c = record { ascending = c.requires.1.first-ascends; slotted = (both_slotted _ _ _ c.requires.1 c.fill_slots.ensures).first_slotted }

pub invariant_of-sides-2 : goal.invariant_of-sides-2
invariant_of-sides-2 c = rw rest_part (record { ascending = c.requires.1.second-ascends; slotted = (both_slotted _ _ _ c.requires.1 c.fill_slots.ensures).second_slotted })
