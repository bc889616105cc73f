-- The first refusal, or the message applied.
use mathlib.Core.Path.{refl, ap}
use native.Mathlib.Omega.{arith}
use mathlib.Core.List.{[]}
use Rattle.messages.specs.Message.{kind_byte}
use Rattle.calls.specs.State.{Sized}
use borrow.Author.Rules.{rules}
use Rattle.judging.proofs.DamageTest.{tells_damage, tells-place}
use Rattle.steps.proofs.Passed.{refused-is, passed-is}
use Rattle.intake.proofs.TakeIn.{not_add, take_in_refused, may_take_in, take-applies, add-taken, take-removes, remove-taken, take_in_done_lem}
use Rattle.intake.proofs.take_in.Goals as goal
use Rattle.intake.proofs.take_in.Goals.{Start}

-- the arrays of the state have their sizes
sizes : (c : Start) → Sized c.args.state
sizes c = record { name-size = search rules; words_size = search rules; tombstone-size = search rules }

pub returns-in-Err : goal.returns-in-Err
returns-in-Err c =
    let r = refused-is _ _ (c.in-Err.ensures.0 c.args.store.now [] refl refl (tells_damage _ _ _ _ c.judge-judged.ensures _ c.is_none.ensures)) in
    take_in_refused c.args.state c.args.store.now c.args.message.now _ c.read_message-read.ensures _ _ r.0 refl r.1

pub part-context-requires : goal.part-context-requires
part-context-requires c =
    let z = passed-is _ _ (c.in-Ok.ensures.0 c.args.store.now [] refl refl (tells_damage _ _ _ _ c.judge-judged.ensures _ c.is_none.ensures)) in
    let is = rw c.in-Ok.ensures.1 at c.read_message-read.ensures in
    let found = (may_take_in c.args.state c.args.store.now c.args.message.now _ is _ _ refl refl z (sizes (goal.at.part-context-requires c).Start)).found in
    let short = found.short in
    let within = found.context-within in
    (omega arith, omega arith)

pub take_add-requires : goal.take_add-requires
take_add-requires c =
    let z = passed-is _ _ (c.in-Ok.ensures.0 c.args.store.now [] refl refl (tells_damage _ _ _ _ c.judge-judged.ensures _ c.is_none.ensures)) in
    let is = rw c.in-Ok.ensures.1 at c.read_message-read.ensures in
    let m = may_take_in c.args.state c.args.store.now c.args.message.now _ is _ _ refl refl z (sizes (goal.at.take_add-requires c).Start) in
    let label = rw c.in-Ok.ensures.1 at c.label_of-label.ensures in (
      take-applies c.args.state c.args.store.now c.args.message.now _ m _ c.part-context.ensures _ (ap kind_byte c.in-Add.is) label,
      tells-place _ _ _ _ c.judge-judged.ensures m.whole _ c.unwrap_or-low.ensures,
    )

pub returns-in-Add : goal.returns-in-Add
returns-in-Add c =
    let z = passed-is _ _ (c.in-Ok.ensures.0 c.args.store.now [] refl refl (tells_damage _ _ _ _ c.judge-judged.ensures _ c.is_none.ensures)) in
    let is = rw c.in-Ok.ensures.1 at c.read_message-read.ensures in
    let m = may_take_in c.args.state c.args.store.now c.args.message.now _ is _ _ refl refl z (sizes (goal.at.returns-in-Add c).Start) in
    let label = rw c.in-Ok.ensures.1 at c.label_of-label.ensures in
    take_in_done_lem c.args.state c.args.store.now c.args.message.now _ is _ _ refl refl z _ _
    (add-taken c.args.state c.args.store.now c.args.message.now _ m _ c.part-context.ensures _ (ap kind_byte c.in-Add.is) label _ _ c.take_add.ensures)

pub take_remove-requires : goal.take_remove-requires
take_remove-requires c =
    let z = passed-is _ _ (c.in-Ok.ensures.0 c.args.store.now [] refl refl (tells_damage _ _ _ _ c.judge-judged.ensures _ c.is_none.ensures)) in
    let is = rw c.in-Ok.ensures.1 at c.read_message-read.ensures in
    take-removes c.args.state c.args.store.now c.args.message.now _ (may_take_in c.args.state c.args.store.now c.args.message.now _ is _ _ refl refl z (sizes (goal.at.take_remove-requires c).Start)) _ c.part-context.ensures (not_add _ c.in-Remove.is)

pub returns-in-Remove : goal.returns-in-Remove
returns-in-Remove c =
    let z = passed-is _ _ (c.in-Ok.ensures.0 c.args.store.now [] refl refl (tells_damage _ _ _ _ c.judge-judged.ensures _ c.is_none.ensures)) in
    let is = rw c.in-Ok.ensures.1 at c.read_message-read.ensures in
    let m = may_take_in c.args.state c.args.store.now c.args.message.now _ is _ _ refl refl z (sizes (goal.at.returns-in-Remove c).Start) in
    take_in_done_lem c.args.state c.args.store.now c.args.message.now _ is _ _ refl refl z _ _
    (remove-taken c.args.state c.args.store.now c.args.message.now _ m _ c.part-context.ensures (not_add _ c.in-Remove.is) _ c.take_remove.ensures)
