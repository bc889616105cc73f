-- Bytes that are no block, with the empty stretch; or what lookup gives.
use Rattle.capi.proofs.Calls.{not_looked_up, looked_up_lem}
use borrow.Author.Rules.{rules}
use Rattle.capi.proofs.ptl_lookup.Goals as goal

pub returns-then-state-ne-STATE_SIZE : goal.returns-then-state-ne-STATE_SIZE
returns-then-state-ne-STATE_SIZE c = not_looked_up c.args.state.now c.if-state-ne-STATE_SIZE.true c.args.store _ c.args.label.now (search rules)

pub returns : goal.returns
returns c = looked_up_lem c.args.state.now c.if-state-ne-STATE_SIZE.false c.unpack.result c.unpack.ensures c.args.store c.lookup.result c.args.label.now _ _ c.lookup.ensures
