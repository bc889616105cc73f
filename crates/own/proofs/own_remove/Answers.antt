-- The first refusal, or the context applied and the message written.
use mathlib.Core.Path.{refl, sym, ◌∙◌}
use Rattle.calls.specs.State.{Sized}
use borrow.Author.Rules.{rules}
use Rattle.steps.proofs.Passed.{refused-is, passed-is}
use Rattle.own.proofs.OwnRemove.{own_remove_refused, may-remove, own_remove_done_lem}
use Rattle.own.proofs.own_remove.Goals as goal
use Rattle.own.proofs.own_remove.Goals.{Start}

-- the arrays of the state have their sizes
sizes : (c : Start) → Sized c.args.state
sizes c = record { name-size = search rules; words_size = search rules; tombstone-size = search rules }

pub returns-in-Err : goal.returns-in-Err
returns-in-Err c =
    let r = refused-is _ _ (c.in-Err.ensures c.args.store.now c.args.out.now refl refl c.damaged.ensures) in
    own_remove_refused c.args.state c.args.store.now c.args.context.now c.args.out.now _ _ r.0 refl r.1

pub remove_done-requires : goal.remove_done-requires
remove_done-requires c =
    let z = passed-is _ _ (sym c.in_default.is ∙ c.remove_answer.ensures c.args.store.now c.args.out.now refl refl c.damaged.ensures) in
    may-remove c.args.state c.args.store.now c.args.context.now c.args.out.now _ _ refl refl z (sizes (goal.at.remove_done-requires c).Start)

pub returns : goal.returns
returns c =
    let z = passed-is _ _ (sym c.in_default.is ∙ c.remove_answer.ensures c.args.store.now c.args.out.now refl refl c.damaged.ensures) in
    own_remove_done_lem c.args.state c.args.store.now c.args.context.now c.args.out.now _ _ refl refl z (sizes (goal.at.returns c).Start) _ _ c.remove_done.ensures
