-- Refusal 1 or 13, or the image of the undamaged state.
use mathlib.Core.Path.{◌≡◌, sym, ◌∙◌}
use mathlib.Core.Bool.{false}
use Rattle.calls.specs.State.{Sized}
use Rattle.calls.specs.Damage.{damaged}
use Rattle.image.proofs.Written.{write_damaged, writable, write_short, write_done}
use borrow.Author.Rules.{rules}
use Rattle.image.proofs.write_image.Goals as goal
use Rattle.image.proofs.write_image.Goals.{Else-damaged, Start}

-- the arrays of the state have their sizes
sizes : (c : Start) → Sized c.args.state
sizes c = search rules

-- past the first branch nothing is damaged
whole : (c : Else-damaged) → damaged c.args.state c.args.store.now ≡ false
whole c = sym c.damaged.ensures ∙ c.if-damaged.false

pub returns-then-damaged : goal.returns-then-damaged
returns-then-damaged c = write_damaged c.args.state c.args.store.now _ (sym c.damaged.ensures ∙ c.if-damaged.true)

pub image_size-requires : goal.image_size-requires
image_size-requires c = let w = writable c.args.state c.args.store.now (sizes (goal.at.image_size-requires c).Start) (whole (goal.at.image_size-requires c).Else-damaged) in
    (w.short-name, w.few, search rules)

pub returns-then-out-image_size : goal.returns-then-out-image_size
returns-then-out-image_size c = write_short c.args.state c.args.store.now (sizes (goal.at.returns-then-out-image_size c).Start) (whole (goal.at.returns-then-out-image_size c).Else-damaged) _ c.image_size.ensures _ c.if-out-image_size.true

pub put_image-requires : goal.put_image-requires
put_image-requires c = (writable c.args.state c.args.store.now (sizes (goal.at.put_image-requires c).Start) (whole (goal.at.put_image-requires c).Else-damaged), search rules)

pub returns : goal.returns
returns c = write_done c.args.state c.args.store.now (sizes (goal.at.returns c).Start) (whole (goal.at.returns c).Else-damaged) _ c.image_size.ensures _ _ _ c.if-out-image_size.false c.put_image.ensures
