-- The fields stand at their distances from the end.
use Rattle.store.specs.Cut.{key_dot}
use Rattle.store.proofs.key_dot.Goals as goal

pub returns : goal.returns
unfolding key_dot
returns c = cc
