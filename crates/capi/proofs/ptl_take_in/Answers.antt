-- Bytes that are no block, or what taking in leaves, packed.
use mathlib.Core.List.{[]}
use Rattle.calls.specs.declared.State.{State}
use Rattle.calls.specs.Calls.{take_in_result}
use Rattle.capi.proofs.Calls.{not_changed, changed}
use Rattle.capi.proofs.ptl_take_in.Goals as goal

pub returns-then-state-ne-STATE_SIZE : goal.returns-then-state-ne-STATE_SIZE
returns-then-state-ne-STATE_SIZE c = not_changed c.args.state.now c.if-state-ne-STATE_SIZE.true c.args.store.now [] (λ (st : State). take_in_result st c.args.store.now c.args.message.now)

pub returns : goal.returns
returns c = changed c.args.state.now c.if-state-ne-STATE_SIZE.false c.unpack.result c.unpack.ensures c.args.store.now [] (λ (st : State). take_in_result st c.args.store.now c.args.message.now)
    _ _ _ _ c.take_in-done.result c.take_in-done.ensures c.pack.ensures c.from.ensures
