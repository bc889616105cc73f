-- The front of a label key is the prefix.
use Rattle.keys.specs.Entry.{prefix}
use Rattle.store.proofs.put_prefix.Goals as goal

pub returns : goal.returns
unfolding prefix
returns c = rw c.from.ensures at c.put_front.ensures
