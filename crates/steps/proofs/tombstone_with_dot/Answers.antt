-- A dot that was seen is inserted, another changes nothing.
use mathlib.Core.Path.{◌≡◌, sym, ap, ◌∙◌}
use mathlib.Core.Bool.{Bool, true, cond}
use Prim.Native.Nat.{◌≤◌}
use lib.ListN.{length}
use Rattle.wire.specs.Lists.{insert}
use Rattle.dots.specs.Dots.{compare_dots, tombstone_most}
use Rattle.clock.specs.Clock.{sees}
use Rattle.steps.specs.Tests.{held_dots}
use Rattle.steps.proofs.TombstoneBytes.{inserted}
use Rattle.steps.proofs.tombstone_with_dot.Goals as goal
use Rattle.steps.proofs.tombstone_with_dot.Goals.{Start}

-- where the dot was seen, there is room for it
room : (s : Start) → sees s.args.words.now s.args.dot ≡ true → length (insert compare_dots s.args.dot (held_dots s.args.tombstone.now.bytes s.args.tombstone.now.count)) ≤ tombstone_most
room s e = rw e at s.requires.2

pub insert_dot-tombstone-requires : goal.insert_dot-tombstone-requires
insert_dot-tombstone-requires c = record { size = c.requires.0.tomb.size; few = c.requires.0.tomb.few; ascends = c.requires.0.tomb.ascends; dot-ok = c.requires.1; room = room (goal.at.insert_dot-tombstone-requires c).Start (sym c.sees.ensures ∙ c.if-sees.true) }

pub returns-then-sees : goal.returns-then-sees
returns-then-sees c = let t = c.args.tombstone.now in
    let known = sym c.sees.ensures ∙ c.if-sees.true in
    let w = inserted t.bytes t.count c.args.dot c.requires.0 c.requires.1 (room (goal.at.returns-then-sees c).Start known) _ _ c.insert_dot-tombstone.ensures.count-is c.insert_dot-tombstone.ensures.bytes_are in
    (w.0, w.1 ∙ sym (ap (λ (b : Bool). cond b (insert compare_dots c.args.dot (held_dots t.bytes t.count)) (held_dots t.bytes t.count)) known))

pub returns-else-sees : goal.returns-else-sees
returns-else-sees c = let t = c.args.tombstone.now in
    let known = sym c.sees.ensures ∙ c.if-sees.false in
    (c.requires.0, sym (ap (λ (b : Bool). cond b (insert compare_dots c.args.dot (held_dots t.bytes t.count)) (held_dots t.bytes t.count)) known))
