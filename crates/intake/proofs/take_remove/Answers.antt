-- Tombstone and clock take the context; the state is made of them.
use mathlib.Core.Path.{ap}
use Rattle.steps.specs.Tests.{done_with}
use Rattle.steps.proofs.Adds.{may_join_context, remove_leaves}
use borrow.Author.Rules.{rules}
use Rattle.intake.proofs.take_remove.Goals as goal

pub join_context-requires : goal.join_context-requires
join_context-requires c = may_join_context c.args.state c.args.context.now c.requires (λ j. search rules)

pub returns : goal.returns
returns c = ap done_with (remove_leaves c.args.state c.args.context.now _ _ c.join_context.ensures)
