-- Each part is the front of what is lent.
use Prim.Native.Nat.{◌*◌, ◌≤◌}
use mathlib.Core.Path.{◌≡◌}
use native.Mathlib.Omega.{arith}
use lib.ListN.{length, take}
use Rattle.dots.specs.Wire.{dot_size}
use Rattle.calls.specs.Image.{image_under}
use Rattle.judging.proofs.Parts.{front-size}
use Rattle.image.proofs.put_image.Goals as goal
use Rattle.image.proofs.put_image.Goals.{Start}

name-fits : (s : Start) → s.args.state.now.name.len ≤ length s.args.state.now.name.bytes
name-fits s = let size = s.requires.0.sized.name-size in omega (arith, s.requires.0.short-name)

name-front : (s : Start) → s.args.state.now.name.len ≡ length (take s.args.state.now.name.len s.args.state.now.name.bytes)
name-front s = front-size s.args.state.now.name.bytes s.args.state.now.name.len (name-fits s)

dots-front : (s : Start) → s.args.state.now.tombstone.count * dot_size ≡ length (take (s.args.state.now.tombstone.count * dot_size) s.args.state.now.tombstone.bytes)
dots-front s = let size = s.requires.0.sized.tombstone-size in
    front-size s.args.state.now.tombstone.bytes (s.args.state.now.tombstone.count * dot_size) (omega (arith, s.requires.0.few))

keys-front : (s : Start) → s.args.state.now.used ≡ length (take s.args.state.now.used s.args.store.now)
keys-front s = front-size s.args.store.now s.args.state.now.used s.requires.0.used-fits

pub put_parts-requires : goal.put_parts-requires
put_parts-requires c = let w = c.requires.0 in
    let room = c.requires.1 in
    let name = name-front (goal.at.put_parts-requires c).Start in
    let dots = dots-front (goal.at.put_parts-requires c).Start in
    let keys = keys-front (goal.at.put_parts-requires c).Start in
    (omega (arith, w.short-name), omega (arith, w.few), omega (arith, w.used-fits, w.store-fits), omega arith)

pub returns : goal.returns
unfolding image_under
returns c = c.put_parts.ensures
