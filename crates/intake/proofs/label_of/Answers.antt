-- The place of a label is small.
use Rattle.intake.proofs.TakeIn.{label-place}
use Rattle.intake.proofs.label_of.Goals as goal

pub part-requires : goal.part-requires
part-requires c = let place = label-place _ _ c.requires in rw c.in-Ok.is at place
