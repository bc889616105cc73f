-- The tombstone is the front of its bytes.
use Prim.Native.Nat.{◌*◌}
use native.Mathlib.Omega.{arith}
use Rattle.judging.proofs.Parts.{front-size}
use Rattle.dots.specs.Wire.{dot_size}
use Rattle.reads.proofs.any_listed.Goals as goal

pub slice_bounds-any_live-end : goal.slice_bounds-any_live-end
slice_bounds-any_live-end c = let t = c.args.tombstone.now in front-size t.bytes (t.count * dot_size) (omega (arith, c.requires.size, c.requires.few))
