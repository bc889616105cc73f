-- The one refusal or no dots in the tombstone, and all stays; else the compacted state and store.
use mathlib.Core.Path.{◌≡◌, sym, ◌∙◌}
use mathlib.Core.Bool.{false}
use Rattle.wire.proofs.Tests.{neither_left}
use Rattle.calls.specs.Damage.{damaged}
use Rattle.calls.specs.State.{Sized}
use Rattle.controller.proofs.Compacting.{compact-kept, compact-done}
use borrow.Author.Rules.{rules}
use Rattle.controller.proofs.compact.Goals as goal
use Rattle.controller.proofs.compact.Goals.{Start, Else-damage-state}

-- the arrays of the state have their sizes
sizes : (c : Start) → Sized c.args.state
sizes c = search rules

-- past the first branch nothing is damaged
whole : (c : Else-damage-state) → damaged c.args.state c.args.store.now ≡ false
whole c = sym c.damaged-damage.ensures ∙ neither_left c.damaged-damage.result _ c.if-damage-state.false

pub returns-then-damage-state : goal.returns-then-damage-state
returns-then-damage-state c = compact-kept c.args.state c.args.store.now (sizes (goal.at.returns-then-damage-state c).Start) _ _ c.damaged-damage.ensures c.if-damage-state.true c.first_of.ensures

pub compact_done-requires : goal.compact_done-requires
compact_done-requires c = (whole (goal.at.compact_done-requires c).Else-damage-state, sizes (goal.at.compact_done-requires c).Start)

pub returns : goal.returns
returns c = compact-done c.args.state c.args.store.now _ _ (whole (goal.at.returns c).Else-damage-state) c.compact_done.ensures
