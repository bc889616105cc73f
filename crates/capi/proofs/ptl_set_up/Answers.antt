-- Bytes that are no block, or the state that set-up gives, packed.
use Rattle.capi.proofs.Calls.{not_set_up, sets_up}
use Rattle.capi.proofs.ptl_set_up.Goals as goal

pub returns-then-state-ne-STATE_SIZE : goal.returns-then-state-ne-STATE_SIZE
returns-then-state-ne-STATE_SIZE c = not_set_up c.args.state.now c.if-state-ne-STATE_SIZE.true c.args.actor c.args.name.now

pub returns : goal.returns
returns c = sets_up c.args.state.now c.if-state-ne-STATE_SIZE.false c.args.actor c.args.name.now c.set_up-done.result _ _ c.set_up-done.ensures c.pack.ensures c.from.ensures
