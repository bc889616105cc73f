-- The hand-off image: "the PTL mark, version 1, kind 69, name length and name, writer's actor, 16 rows (base 8 bytes, window 8), tombstone count (one byte) and dots,
-- 4-byte used length, keys, and a 4-byte CRC-32 of everything before it, all high byte first".
use Rattle.std.specs.Prelude.{ℕ, zero, suc, ◌+◌, ◌*◌, ◌/◌, List, [], ◌∷◌, ◌++◌, length, take}
use Rattle.wire.specs.Bytes.{Bytes, big_endian}
use Rattle.crc.specs.Crc.{crc_of}
use Rattle.dots.specs.Names.{Name}
use Rattle.dots.specs.Dots.{actor_most}
use Rattle.dots.specs.Wire.{dot_size}
use Rattle.clock.specs.Row.{Row}
use Rattle.clock.specs.Clock.{row_at}
use Rattle.messages.specs.Message.{counted}
use Rattle.calls.specs.declared.State.{State}
use Rattle.calls.specs.State.{name_of, used_part}

-- the kind byte, 'i', and the version that is written
abbrev pub image_kind : ℕ
image_kind = 0x69

abbrev pub image_version : ℕ
image_version = 1

-- how many bytes a window takes in an image of a version
abbrev pub window_bytes : ℕ → ℕ
window_bytes version = 8

-- a row, with w bytes for the window
abbrev pub row_size : ℕ → ℕ
row_size w = 8 + w

abbrev pub row_bytes : ℕ → Row → Bytes
row_bytes w r = big_endian 8 r.base ++ big_endian w r.window

-- the rows of the actors 1 to n
unfoldable pub rows_bytes : ℕ → ℕ → List ℕ → Bytes
rows_bytes w zero words = []
rows_bytes w (suc n) words = rows_bytes w n words ++ row_bytes w (row_at words (suc n))

-- mark, version, kind, set name
abbrev pub image_front : ℕ → Name → Bytes
image_front version name = 0x50 ∷ 0x54 ∷ 0x4C ∷ 0x00 ∷ version ∷ image_kind ∷ counted name

-- rows, tombstone (its dots in bytes), used length and keys: all that stands between the writer's actor and the CRC
unfoldable pub image_rest : ℕ → List ℕ → Bytes → Bytes → Bytes
image_rest version words dots keys =
    rows_bytes (window_bytes version) actor_most words ++ ((length dots / dot_size ∷ dots) ++ (big_endian 4 (length keys) ++ keys))

-- bytes and their CRC
abbrev pub with_crc : Bytes → Bytes
with_crc body = body ++ big_endian 4 (crc_of body)

-- the dots of a state's tombstone in bytes
abbrev pub tombstone_bytes : State → Bytes
tombstone_bytes st = take (st.tombstone.count * dot_size) st.tombstone.bytes

-- the image of a state and its store under an actor
unfoldable pub image_under : ℕ → State → Bytes → Bytes
image_under actor st store =
    with_crc (image_front image_version (name_of st) ++ (actor ∷ image_rest image_version st.clock.words (tombstone_bytes st) (used_part st store)))

abbrev pub image_bytes : State → Bytes → Bytes
image_bytes st store = image_under st.actor.number st store
