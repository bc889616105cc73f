-- The message is written with the next dot, the key put, and context and dot are joined; the state is made of them.
use mathlib.Core.Path.{sym, subst}
use Rattle.dots.specs.declared.Dot.{Dot}
use Rattle.steps.specs.Tests.{MayApply}
use Rattle.steps.proofs.Answers.{kept, label-short}
use Rattle.steps.proofs.Adds.{name-length, may-store, may_join_add, apply_leaves}
use Rattle.own.proofs.OwnAdd.{add_done_leaves}
use borrow.Author.Rules.{rules}
use Rattle.own.proofs.add_done.Goals as goal
use Rattle.own.proofs.add_done.Goals.{After-next_dot-dot}

-- the add may be applied with the dot that was made
applies : (c : After-next_dot-dot) → MayApply c.args.state c.args.store.now c.args.label.now c.args.context.now c.next_dot-dot.result
applies c = subst (λ (d : Dot). MayApply c.args.state c.args.store.now c.args.label.now c.args.context.now d) (sym c.next_dot-dot.ensures) c.requires.applies

pub next_dot-dot-requires : goal.next_dot-dot-requires
next_dot-dot-requires c = c.requires.next

pub shared_ref_as_front-write_add : goal.shared_ref_as_front-write_add
shared_ref_as_front-write_add c = (kept c.args.state c.requires.applies.joins.state-ok).short

pub write_add-written-requires : goal.write_add-written-requires
write_add-written-requires c = let p = c.requires.applies in
    rw (name-length c.args.state p.sized p.joins.state-ok)
    ((kept c.args.state p.joins.state-ok).short, label-short _ p.labelled, (p.joins.fits.whole, p.joins.fits.short), c.requires.room_for)

pub store_add-used-requires : goal.store_add-used-requires
store_add-used-requires c = may-store c.args.state c.args.store.now c.args.label.now c.args.context.now c.next_dot-dot.result (applies (goal.at.store_add-used-requires c).After-next_dot-dot) _ c.requires.front

pub join_add-requires : goal.join_add-requires
join_add-requires c =
    may_join_add c.args.state c.args.store.now c.args.label.now c.args.context.now c.next_dot-dot.result (applies (goal.at.join_add-requires c).After-next_dot-dot) (λ j. search rules)

pub returns : goal.returns
returns c = add_done_leaves c.args.state c.args.store.now c.args.label.now c.args.context.now c.args.out.now _ c.next_dot-dot.ensures _ _ _ _
    (apply_leaves c.args.state c.args.store.now c.args.label.now c.args.context.now c.next_dot-dot.result (applies (goal.at.returns c).After-next_dot-dot) _ _ c.store_add-used.ensures _ _ c.join_add.ensures)
    c.write_add-written.ensures
