-- Refusal 1, or done.
use Rattle.controller.proofs.Compacting.{compact-answers}
use Rattle.controller.proofs.compact_answer.Goals as goal

pub returns : goal.returns
returns c = compact-answers c.args.state c.args.store.now _ _ c.damaged-damage.ensures c.first_of.ensures
