-- The tombstone is the front of what is lent, and its slots are set.
use Prim.Native.Nat.{◌*◌}
use native.Mathlib.Omega.{arith}
use Rattle.dots.specs.Wire.{dot_size}
use Rattle.judging.proofs.Parts.{front-size}
use Rattle.reads.proofs.put_used.Goals as goal

pub slice_bounds-gone-end : goal.slice_bounds-gone-end
slice_bounds-gone-end c = let size = c.requires.tomb.size in let few = c.requires.tomb.few in front-size c.args.tombstone.now.bytes (c.args.tombstone.now.count * dot_size) (omega arith)
