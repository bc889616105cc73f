-- Bytes that are no block, or what own add leaves, packed.
use Rattle.calls.specs.declared.State.{State}
use Rattle.calls.specs.Calls.{own_add_result}
use Rattle.capi.proofs.Calls.{not_left, left}
use Rattle.capi.proofs.ptl_own_add.Goals as goal

pub returns-then-state-ne-STATE_SIZE : goal.returns-then-state-ne-STATE_SIZE
returns-then-state-ne-STATE_SIZE c = not_left c.args.state.now c.if-state-ne-STATE_SIZE.true c.args.store.now c.args.out.now (λ (st : State). own_add_result st c.args.store.now c.args.label.now c.args.context.now c.args.out.now)

pub returns : goal.returns
returns c = left c.args.state.now c.if-state-ne-STATE_SIZE.false c.unpack.result c.unpack.ensures c.args.store.now c.args.out.now (λ (st : State). own_add_result st c.args.store.now c.args.label.now c.args.context.now c.args.out.now)
    _ _ _ _ c.own_add-done.result c.own_add-done.ensures c.pack.ensures c.from.ensures
