-- Equal bytes begin alike and are as long.
use Rattle.steps.proofs.SameName.{other_set_is}
use Rattle.steps.proofs.other_set.Goals as goal

pub returns : goal.returns
returns c = other_set_is c.args.name.now c.args.given.now _ c.starts_with-starts.ensures
