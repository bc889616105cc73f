-- The message is written, and the context joined; the state is made of what is left.
use mathlib.Core.Path.{refl}
use Rattle.steps.proofs.Answers.{kept}
use Rattle.steps.proofs.Adds.{may_join_context, remove_leaves}
use borrow.Author.Rules.{rules}
use Rattle.own.proofs.remove_done.Goals as goal

pub shared_ref_as_front-write_remove : goal.shared_ref_as_front-write_remove
shared_ref_as_front-write_remove c = (kept c.args.state c.requires.applies.state-ok).short

pub join_context-requires : goal.join_context-requires
join_context-requires c = may_join_context c.args.state c.args.context.now c.requires.applies (λ j. search rules)

pub returns : goal.returns
returns c = record { answered = refl; state-is = remove_leaves c.args.state c.args.context.now _ _ c.join_context.ensures; wrote = c.write_remove-written.ensures }
