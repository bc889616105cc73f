-- What the tests of a hand-off image say of its fields: a right shape, a right set name, an undamaged tombstone. Assumes nothing.
use Prim.Native.Nat.{ℕ, ◌+◌, ◌*◌, ◌≤◌}
use mathlib.Core.Path.{◌≡◌, refl}
use mathlib.Core.Bool.{true, false}
use native.Mathlib.Omega.{arith}
use lib.ListN.{length}
use borrow.Author.Tests.{eqb-true, leb-true}
use Rattle.wire.specs.Bytes.{Bytes, byte_at, end_of, part_of}
use Rattle.wire.proofs.Tests.{both}
use Rattle.wire.proofs.Fields.{part_length}
use Rattle.dots.specs.Names.{name_most, name_ok, text_ok}
use Rattle.dots.specs.Dots.{tombstone_most}
use Rattle.dots.specs.Wire.{dot_size}
use Rattle.calls.specs.declared.ImageLayout.{ImageLayout}
use Rattle.calls.specs.Damage.{damaged}
use Rattle.calls.specs.Image.{image_kind}
use Rattle.calls.specs.ImageRead.{layout_of, shape_ok, Within, state_at}
use Rattle.calls.proofs.Clauses.{undamaged, dots_most}

-- ---- a right shape

module _ (s : Bytes) (shaped : shape_ok s (layout_of s) ≡ true) where
  pub kind-is : byte_at s 5 ≡ image_kind
  unfolding shape_ok
  kind-is = eqb-true _ _ (search both)

  pub shape-end : end_of (layout_of s).keys + 4 ≡ length s
  unfolding shape_ok
  shape-end = eqb-true _ _ (search both)

  pub shape-within : Within s (layout_of s)
  unfolding layout_of
  shape-within = record { name = omega arith; actor = omega arith; rows = omega arith; dots = omega arith; keys = shape-end }

pub dots-counted : (s : Bytes) → (layout_of s).dots.len ≡ dot_size * (layout_of s).count
unfolding layout_of
dots-counted s = refl

-- ---- the parts of fields that lie within the bytes have their lengths

module _ (s : Bytes) (l : ImageLayout) (w : Within s l) where
  pub name-length : length (part_of s l.name) ≡ l.name.len
  name-length = part_length s l.name.at l.name.len (omega (arith, w.name, w.actor, w.rows, w.dots, w.keys))

  pub dots-length : length (part_of s l.dots) ≡ l.dots.len
  dots-length = part_length s l.dots.at l.dots.len (omega (arith, w.dots, w.keys))

  pub keys_length : length (part_of s l.keys) ≡ l.keys.len
  keys_length = part_length s l.keys.at l.keys.len (omega (arith, w.keys))

  -- a set name that keeps its rule is short
  pub short-name : name_ok (part_of s l.name) ≡ true → l.name.len ≤ name_most
  unfolding text_ok
  short-name ok =
      let most : length (part_of s l.name) ≤ name_most = leb-true _ _ (search both) in
      omega (arith, name-length)

-- ---- an undamaged tombstone has few dots, under any actor

pub few-dots : (actor : ℕ) (s : Bytes) (l : ImageLayout) (keys : Bytes) → damaged (state_at actor s l) keys ≡ false → l.count ≤ tombstone_most
unfolding state_at
few-dots actor s l keys whole = dots_most (state_at actor s l) keys (undamaged (state_at actor s l) keys whole)
