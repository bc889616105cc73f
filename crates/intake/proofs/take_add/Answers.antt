-- The key is put where the dot is unseen; context and dot are joined in either case; the state is made of them.
use mathlib.Core.Path.{refl}
use Rattle.steps.proofs.Adds.{may-store, may_join_add, apply_leaves}
use borrow.Author.Rules.{rules}
use Rattle.intake.proofs.take_add.Goals as goal

pub store_add-used-requires : goal.store_add-used-requires
store_add-used-requires c = may-store c.args.state c.args.store.now c.args.label.now c.args.context.now c.args.dot c.requires.0 _ c.requires.1

pub join_add-requires : goal.join_add-requires
join_add-requires c = may_join_add c.args.state c.args.store.now c.args.label.now c.args.context.now c.args.dot c.requires.0 (λ j. search rules)

pub returns : goal.returns
returns c = record {
  done = refl;
  left = apply_leaves c.args.state c.args.store.now c.args.label.now c.args.context.now c.args.dot c.requires.0 _ _ c.store_add-used.ensures _ _ c.join_add.ensures;
}
