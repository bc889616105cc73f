-- Bytes that are no block, or the image.
use Rattle.calls.specs.declared.State.{State}
use Rattle.calls.specs.HandOff.{image_result}
use Rattle.capi.proofs.Calls.{nothing_put, put, not_put}
use Rattle.capi.proofs.ptl_write_image.Goals as goal

pub returns-then-state-ne-STATE_SIZE : goal.returns-then-state-ne-STATE_SIZE
returns-then-state-ne-STATE_SIZE c = nothing_put c.args.state.now c.if-state-ne-STATE_SIZE.true c.args.store.now c.args.out.now (λ (st : State). image_result st c.args.store.now c.args.out.now)

pub returns-in-Ok : goal.returns-in-Ok
returns-in-Ok c = put c.args.state.now c.if-state-ne-STATE_SIZE.false c.unpack.result c.unpack.ensures c.args.store.now c.args.out.now (λ (st : State). image_result st c.args.store.now c.args.out.now)
    _ c.in-Ok.size (rw c.in-Ok.is at c.write_image.ensures)

pub returns-in-Err : goal.returns-in-Err
returns-in-Err c = not_put c.args.state.now c.if-state-ne-STATE_SIZE.false c.unpack.result c.unpack.ensures c.args.store.now c.args.out.now (λ (st : State). image_result st c.args.store.now c.args.out.now)
    _ c.in-Err.answer (rw c.in-Err.is at c.write_image.ensures) _ c.from.ensures
