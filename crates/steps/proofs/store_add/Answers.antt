-- The key is put where the dot is unseen; the name is the front of its bytes.
use mathlib.Core.Path.{sym, ◌∙◌}
use Rattle.judging.proofs.Parts.{front-size}
use Rattle.steps.specs.Tests.{EntryFits}
use Rattle.steps.proofs.Adds.{stored-none, stored_one}
use Rattle.steps.proofs.store_add.Goals as goal
use Rattle.steps.proofs.store_add.Goals.{Else-seen}

fits : (c : Else-seen) → EntryFits c.args.state.now c.args.store.now c.args.label.now c.args.low
fits c = c.requires (sym c.sees-seen.ensures ∙ c.if-seen.false)

pub returns-then-seen : goal.returns-then-seen
returns-then-seen c = stored-none _ _ _ _ _ _ c.sees-seen.ensures c.if-seen.true

pub slice_bounds-insert_entry-end : goal.slice_bounds-insert_entry-end
slice_bounds-insert_entry-end c = let f = fits (goal.at.slice_bounds-insert_entry-end c).Else-seen in front-size _ _ f.short

pub insert_entry-requires : goal.insert_entry-requires
insert_entry-requires c = let f = fits (goal.at.insert_entry-requires c).Else-seen in
    let size = front-size c.args.state.now.name.bytes c.args.state.now.name.len f.short in
    (f.named, f.labelled, rw (← size) f.room_for, f.front)

pub returns : goal.returns
returns c = let put = c.insert_entry.ensures in
    stored_one c.args.state.now _ _ c.args.store.now c.args.label.now c.args.dot c.sees-seen.ensures c.if-seen.false _ _ (sym (front-size _ _ (fits (goal.at.returns c).Else-seen).short)) put.0 put.1
