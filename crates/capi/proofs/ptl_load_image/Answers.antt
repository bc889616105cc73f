-- Bytes that are no block, or the state that a load gives, packed.
use mathlib.Core.List.{[]}
use mathlib.Core.Path.{refl}
use Rattle.calls.specs.declared.State.{State}
use Rattle.calls.specs.HandOff.{load_result}
use Rattle.block.specs.Block.{state_in}
use Rattle.capi.proofs.Calls.{not_changed, loaded}
use Rattle.capi.proofs.ptl_load_image.Goals as goal

pub returns-then-state-ne-STATE_SIZE : goal.returns-then-state-ne-STATE_SIZE
returns-then-state-ne-STATE_SIZE c = not_changed c.args.state.now c.if-state-ne-STATE_SIZE.true c.args.store.now [] (λ (st : State). load_result c.args.actor c.args.image.now c.args.store.now)

pub returns : goal.returns
returns c = let block = c.args.state.now in
    loaded block c.if-state-ne-STATE_SIZE.false (state_in block) refl c.args.store.now [] (λ (st : State). load_result c.args.actor c.args.image.now c.args.store.now)
    _ _ _ c.load-done.result c.load-done.ensures c.pack.ensures c.from.ensures
