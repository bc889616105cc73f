-- The image of an undamaged state, read: it says that state. Assumes nothing.
use Prim.Native.Nat.{ℕ, ◌-◌, ◌*◌, ◌≤◌, min}
use mathlib.Core.Path.{◌≡◌, ◌∙◌}
use mathlib.Core.Bool.{true}
use mathlib.Core.List.{List}
use native.Mathlib.Nat.{le_trans, pow-le-pow_right}
use native.Mathlib.Omega.{arith}
use lib.Dec.{lit<}
use lib.ListN.{length}
use lib.Seq.{length-take-le}
use Rattle.wire.specs.Bytes.{Bytes}
use Rattle.wire.proofs.Tests.{both}
use Rattle.dots.specs.Names.{name_most}
use Rattle.dots.specs.Dots.{max_counter}
use Rattle.dots.specs.Wire.{dot_size, tombstone_size}
use Rattle.clock.specs.Row.{window_width}
use Rattle.clock.specs.Clock.{row_at, rows_ok}
use Rattle.clock.proofs.Clocks.{rows-well}
use Rattle.calls.specs.declared.State.{State}
use Rattle.calls.specs.State.{Sized, name_of, used_part}
use Rattle.calls.specs.Damage.{state_name_ok, tombstone_ok}
use Rattle.calls.specs.Effect.{padded}
use Rattle.calls.specs.Image.{window_bytes, image_version, tombstone_bytes, image_under, image_bytes}
use Rattle.calls.specs.ImageRead.{layout_of, state_at}
use Rattle.calls.specs.HandedOff.{with_actor}
use Rattle.calls.proofs.Clauses.{Undamaged, name_most_lem, dots_most, rows_ok_lem, used-fits, store-fits}
use Rattle.calls.proofs.Whole.{padded-front}
use Rattle.calls.proofs.ImageRows.{RowsFit}
use Rattle.calls.proofs.ImageTrip.{Written, image-on}

-- rows that keep their rules fit their bytes
rows_fit : (words : List ℕ) → rows_ok window_width words ≡ true → RowsFit (window_bytes image_version) words
rows_fit words ok a =
    let row = rows-well window_width words ok a in
    let base : (row_at words a).base ≤ max_counter = row.small in
    let width : min window_width (max_counter - (row_at words a).base) ≤ window_width = omega arith in
    (omega arith, le_trans row.bound (pow-le-pow_right (lit< tt) width))

module _ (st : State) (store : Bytes) (sized : Sized st) (u : Undamaged st store) where
  -- the lengths of the parts
  pub name-length : length (name_of st) ≡ st.name.len
  name-length = length-take-le st.name.len st.name.bytes (omega (arith, name_most_lem st store u, sized.name-size))

  pub dots-length : length (tombstone_bytes st) ≡ dot_size * st.tombstone.count
  dots-length = length-take-le (st.tombstone.count * dot_size) st.tombstone.bytes (omega (arith, dots_most st store u, sized.tombstone-size)) ∙ omega arith

  pub keys_length : length (used_part st store) ≡ st.used
  keys_length = length-take-le st.used store (used-fits st store u)

  -- the set name and the tombstone are their fronts and zeros
  name_back : padded name_most (name_of st) ≡ st.name.bytes
  unfolding state_name_ok
  name_back = let n = u.name in padded-front name_most st.name.len st.name.bytes sized.name-size (name_most_lem st store u) (search both)

  dots-back : padded tombstone_size (tombstone_bytes st) ≡ st.tombstone.bytes
  unfolding tombstone_ok
  dots-back =
      let t = u.tombstone in
      padded-front tombstone_size (st.tombstone.count * dot_size) st.tombstone.bytes sized.tombstone-size (omega (arith, dots_most st store u)) (search both)

  pub parts-read : Written (image_bytes st store) st.actor.number (name_of st) st.clock.words (tombstone_bytes st) st.tombstone.count (used_part st store)
  unfolding image_under
  parts-read =
      image-on st.actor.number (name_of st) st.clock.words (tombstone_bytes st) st.tombstone.count (used_part st store) sized.words_size (rows_fit st.clock.words (rows_ok_lem st store u)) dots-length
      (omega (arith, keys_length, used-fits st store u, store-fits st store u))

  pub used-read : (layout_of (image_bytes st store)).keys.len ≡ st.used
  used-read = parts-read.keys_len ∙ keys_length

  -- the state under any actor
  pub state-read : (actor : ℕ) → state_at actor (image_bytes st store) (layout_of (image_bytes st store)) ≡ with_actor actor st
  unfolding state_at
  state-read actor =
      let r = parts-read in
      rw (r.name-read, r.name-len, r.words-read, r.dots-read, r.count-read, used-read, name_back, name-length, dots-back)
