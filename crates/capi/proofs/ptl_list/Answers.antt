-- Bytes that are no block, or the listing.
use Rattle.calls.specs.declared.State.{State}
use Rattle.calls.specs.Calls.{list_result}
use Rattle.capi.proofs.Calls.{not_listed, listed}
use Rattle.capi.proofs.ptl_list.Goals as goal

pub returns-then-state-ne-STATE_SIZE : goal.returns-then-state-ne-STATE_SIZE
returns-then-state-ne-STATE_SIZE c = not_listed c.args.state.now c.if-state-ne-STATE_SIZE.true c.args.store.now c.args.out.now (λ (st : State). list_result st c.args.store.now c.args.out.now)

pub returns : goal.returns
returns c = listed c.args.state.now c.if-state-ne-STATE_SIZE.false c.unpack.result c.unpack.ensures c.args.store.now c.args.out.now (λ (st : State). list_result st c.args.store.now c.args.out.now)
    _ _ c.list-done.result c.list-done.ensures c.from.ensures
