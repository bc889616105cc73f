-- The used part compacted, and an empty tombstone.
use native.Mathlib.Omega.{arith}
use Prim.Native.Nat.{◌≤◌}
use lib.ListN.{length, length-take}
use Rattle.controller.proofs.Compacting.{used-within, compact-may, compact_leaves}
use Rattle.controller.proofs.compact_done.Goals as goal

pub slice_bounds-compact-end : goal.slice_bounds-compact-end
slice_bounds-compact-end c = used-within c.args.state c.args.store.now c.requires.0 c.requires.1

pub slice_bounds-compact-end-2 : goal.slice_bounds-compact-end-2
slice_bounds-compact-end-2 c = let h : c.args.state.used ≤ length c.args.store.now = used-within c.args.state c.args.store.now c.requires.0 c.requires.1 in rw length-take (omega arith)

pub compact-left-requires : goal.compact-left-requires
compact-left-requires c = compact-may c.args.state c.args.store.now c.requires.0 c.requires.1

pub returns : goal.returns
returns c = compact_leaves c.args.state c.args.store.now c.requires.0 c.requires.1 _ _ c.compact-left.ensures
