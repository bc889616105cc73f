-- Putting an image into a buffer: what the functions behind writing count on, and what they leave. Put into out, which becomes out'; r is the place after.
use Rattle.std.specs.Prelude.{ℕ, ◌+◌, ◌≤◌, ◌≡◌, List, [], ◌∷◌, ◌++◌, length}
use Rattle.wire.specs.Bytes.{Bytes, big_endian, put_at}
use Rattle.dots.specs.Names.{Name, name_most}
use Rattle.dots.specs.Dots.{tombstone_most}
use Rattle.dots.specs.Wire.{tombstone_size}
use Rattle.store.specs.Valid.{store_most}
use Rattle.calls.specs.declared.State.{State}
use Rattle.calls.specs.State.{Sized}
use Rattle.calls.specs.Effect.{put_out}
use Rattle.calls.specs.Image.{image_version, image_front, image_rest, with_crc}
use Rattle.image.specs.Sizes.{actor_fixed, rest_fixed, image_fixed}

-- ---- fields at a place

abbrev pub FrontPut : Name → ℕ → Bytes → Bytes → ℕ → Type 0
FrontPut name actor out out' r = (r ≡ actor_fixed + length name) × (out' ≡ put_at out 0 (image_front image_version name ++ (actor ∷ [])))

abbrev pub KeysPut : Bytes → ℕ → Bytes → Bytes → ℕ → Type 0
KeysPut keys at out out' r = (r ≡ at + 4 + length keys) × (out' ≡ put_at out at (big_endian 4 (length keys) ++ keys))

-- tombstone and keys are such as a state has, and rows, tombstone, used length and keys have room from a place on
abbrev pub RestFits : Bytes → Bytes → ℕ → ℕ → Type 0
RestFits tombstone keys at room = (length tombstone ≤ tombstone_size) × (length keys ≤ store_most) × (at + rest_fixed + length tombstone + length keys ≤ room)

abbrev pub RestPut : List ℕ → Bytes → Bytes → ℕ → Bytes → Bytes → ℕ → Type 0
RestPut words tombstone keys at out out' r =
    (r ≡ at + rest_fixed + length tombstone + length keys) × (out' ≡ put_at out at (image_rest image_version words tombstone keys))

-- ---- a whole image

-- the image of a state's parts: tombstone and keys in bytes
abbrev pub image_of : ℕ → Name → List ℕ → Bytes → Bytes → Bytes
image_of actor name words tombstone keys = with_crc (image_front image_version name ++ (actor ∷ image_rest image_version words tombstone keys))

-- they are such as a state has, and their image has room
abbrev pub PartsFit : Name → Bytes → Bytes → ℕ → Type 0
PartsFit name tombstone keys room =
    (length name ≤ name_most) × (length tombstone ≤ tombstone_size) × (length keys ≤ store_most)
    × (image_fixed + length name + length tombstone + length keys ≤ room)

-- an image at the front of a buffer and the rest as it was; its length is returned
pub record PutsImage (image out out' : Bytes) (r : ℕ) : Type 0 where
  pub size : r ≡ length image
  pub bytes : out' ≡ put_out image out

-- the lengths of an undamaged state, and that of its store
pub record Writable (st : State) (store : ℕ) : Type 0 where
  pub sized : Sized st
  pub short-name : st.name.len ≤ name_most
  pub few : st.tombstone.count ≤ tombstone_most
  pub used-fits : st.used ≤ store
  pub store-fits : store ≤ store_most
