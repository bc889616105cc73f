-- The first refusal, or the add applied and the message written.
use mathlib.Core.Path.{refl, sym, ◌∙◌}
use Rattle.calls.specs.State.{Sized}
use borrow.Author.Rules.{rules}
use Rattle.judging.proofs.DamageTest.{tells_damage, tells-place}
use Rattle.steps.proofs.Passed.{refused-is, passed-is}
use Rattle.own.proofs.OwnAdd.{own_add_refused, add-whole, may_add_lem, own_add_done_lem}
use Rattle.own.proofs.own_add.Goals as goal
use Rattle.own.proofs.own_add.Goals.{Start}

-- the arrays of the state have their sizes
sizes : (c : Start) → Sized c.args.state
sizes c = record { name-size = search rules; words_size = search rules; tombstone-size = search rules }

pub returns-in-Err : goal.returns-in-Err
returns-in-Err c =
    let r = refused-is _ _ (c.in-Err.ensures c.args.store.now c.args.out.now refl refl (tells_damage _ _ _ _ c.judge-judged.ensures _ c.is_none.ensures)) in
    own_add_refused c.args.state c.args.store.now c.args.label.now c.args.context.now c.args.out.now _ _ r.0 refl r.1

pub add_done-requires : goal.add_done-requires
add_done-requires c =
    let z = passed-is _ _ (sym c.in_default.is ∙ c.add_answer.ensures c.args.store.now c.args.out.now refl refl (tells_damage _ _ _ _ c.judge-judged.ensures _ c.is_none.ensures)) in
    may_add_lem c.args.state c.args.store.now c.args.label.now c.args.context.now c.args.out.now _ _ refl refl z (sizes (goal.at.add_done-requires c).Start) _
    (tells-place _ _ _ _ c.judge-judged.ensures (add-whole c.args.state c.args.store.now c.args.label.now c.args.context.now c.args.out.now _ _ refl refl z) _ c.unwrap_or.ensures)

pub returns : goal.returns
returns c =
    let z = passed-is _ _ (sym c.in_default.is ∙ c.add_answer.ensures c.args.store.now c.args.out.now refl refl (tells_damage _ _ _ _ c.judge-judged.ensures _ c.is_none.ensures)) in
    own_add_done_lem c.args.state c.args.store.now c.args.label.now c.args.context.now c.args.out.now _ _ refl refl z _ _ _ c.add_done.ensures
