-- Bytes of which one or the other is no block, or the merged listing.
use Rattle.capi.proofs.Calls.{not_merged, not_merged_second, merged}
use Rattle.capi.proofs.ptl_merge.Goals as goal

pub returns-then-first-ne-STATE_SIZE : goal.returns-then-first-ne-STATE_SIZE
returns-then-first-ne-STATE_SIZE c = not_merged c.args.first.now c.if-first-ne-STATE_SIZE.true c.args.first_store.now c.args.second.now c.args.second_store.now c.args.out.now

pub returns-then-second-ne-STATE_SIZE : goal.returns-then-second-ne-STATE_SIZE
returns-then-second-ne-STATE_SIZE c = not_merged_second c.args.second.now c.if-second-ne-STATE_SIZE.true c.args.first.now c.args.first_store.now c.args.second_store.now c.args.out.now

pub returns : goal.returns
returns c = merged c.args.first.now c.if-first-ne-STATE_SIZE.false c.unpack-state.result c.unpack-state.ensures c.args.second.now c.if-second-ne-STATE_SIZE.false c.unpack.result c.unpack.ensures
    c.args.first_store.now c.args.second_store.now c.args.out.now _ _ c.merge-done.result c.merge-done.ensures c.from.ensures
