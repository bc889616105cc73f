-- Bytes that are no block, or the page.
use Rattle.capi.proofs.Calls.{not_paged, paged}
use Rattle.capi.proofs.ptl_page.Goals as goal

pub returns-then-state-ne-STATE_SIZE : goal.returns-then-state-ne-STATE_SIZE
returns-then-state-ne-STATE_SIZE c = not_paged c.args.state.now c.if-state-ne-STATE_SIZE.true c.args.store.now c.args.start.now c.args.out.now

pub returns : goal.returns
returns c = paged c.args.state.now c.if-state-ne-STATE_SIZE.false c.unpack.result c.unpack.ensures c.args.store.now c.args.start.now c.args.out.now
    _ _ c.page-page.result c.page-page.ensures c.from.ensures
