-- Bytes that are no block, or what own remove leaves, packed.
use Rattle.calls.specs.declared.State.{State}
use Rattle.calls.specs.Calls.{own_remove_result}
use Rattle.capi.proofs.Calls.{not_left, left}
use Rattle.capi.proofs.ptl_own_remove.Goals as goal

pub returns-then-state-ne-STATE_SIZE : goal.returns-then-state-ne-STATE_SIZE
returns-then-state-ne-STATE_SIZE c = not_left c.args.state.now c.if-state-ne-STATE_SIZE.true c.args.store.now c.args.out.now (λ (st : State). own_remove_result st c.args.store.now c.args.context.now c.args.out.now)

pub returns : goal.returns
returns c = left c.args.state.now c.if-state-ne-STATE_SIZE.false c.unpack.result c.unpack.ensures c.args.store.now c.args.out.now (λ (st : State). own_remove_result st c.args.store.now c.args.context.now c.args.out.now)
    _ _ _ _ c.own_remove-done.result c.own_remove-done.ensures c.pack.ensures c.from.ensures
