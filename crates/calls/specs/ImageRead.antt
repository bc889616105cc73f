-- What bytes say as a hand-off image: where its fields are by the length fields, the writer's state, and the rules of the fields.
use Rattle.std.specs.Prelude.{ℕ, zero, suc, ◌+◌, ◌-◌, ◌*◌, ◌≤◌, ◌<◌, Bool, not, ◌&&◌, List, [], ◌∷◌, ◌≡◌, eqb, length, take, drop}
use Rattle.std.proofs.Math.Dec.{compare_is_eq}
use Rattle.wire.specs.Bytes.{Bytes, byte_at, big_endian, from_big_endian, number_at, span, end_of, part_of, compare_bytes}
use Rattle.crc.specs.Crc.{crc_of}
use Rattle.dots.specs.Names.{name_most, name_ok}
use Rattle.dots.specs.Dots.{actor_of, actor_ok, actor_most}
use Rattle.dots.specs.Wire.{tombstone_size}
use Rattle.clock.specs.Row.{Row}
use Rattle.clock.specs.Clock.{unused, with_row, zero_clock}
use Rattle.messages.specs.Read.{counted_at, dots_counted_at}
use Rattle.calls.specs.declared.State.{State}
use Rattle.calls.specs.declared.ImageLayout.{ImageLayout}
use Rattle.calls.specs.Effect.{padded}
use Rattle.calls.specs.Image.{image_kind, image_version, window_bytes, row_size}

-- the number in the four bytes at a place; bytes past the end count as 0
abbrev pub four_at : Bytes → ℕ → ℕ
four_at s i = from_big_endian (byte_at s i ∷ byte_at s (i + 1) ∷ byte_at s (i + 2) ∷ byte_at s (i + 3) ∷ [])

-- the version: two bytes
abbrev pub version_in : Bytes → ℕ
version_in s = byte_at s 3 * 256 + byte_at s 4

-- refusal 3 does not hold
unfoldable pub version_ok : Bytes → Bool
version_ok s = eqb (version_in s) image_version

-- name from 6; then actor, rows, tombstone, used length and keys
unfoldable pub layout_of : Bytes → ImageLayout
layout_of s =
    let name = counted_at s 6 in
    let rows = end_of name + 1 in
    let count = rows + actor_most * row_size (window_bytes (version_in s)) in
    let dots = dots_counted_at s count in
    record { name = name; actor = end_of name; rows = rows; count = byte_at s count; dots = dots; keys = span (end_of dots + 4) (four_at s (end_of dots)) }

-- refusal 4 does not hold: the kind is right, and the keys and four bytes more end where the bytes do
unfoldable pub shape_ok : Bytes → ImageLayout → Bool
shape_ok s l = eqb (byte_at s 5) image_kind && eqb (end_of l.keys + 4) (length s)

-- what a right shape says: every field lies within the bytes, and four bytes more end them
pub record Within (s : Bytes) (l : ImageLayout) : Type 0 where
  pub name : end_of l.name ≤ l.actor
  pub actor : l.actor < l.rows
  pub rows : l.rows + actor_most * row_size (window_bytes (version_in s)) < l.dots.at
  pub dots : end_of l.dots + 4 ≡ l.keys.at
  pub keys : end_of l.keys + 4 ≡ length s

-- refusal 14 does not hold: the last four bytes are the CRC of those before them
unfoldable pub crc_ok : Bytes → Bool
crc_ok s = compare_is_eq (compare_bytes (drop (length s - 4) s) (big_endian 4 (crc_of (take (length s - 4) s))))

-- a row at a place, and the clock with the rows of the actors 1 to n from a place on
abbrev pub row_in : ℕ → Bytes → ℕ → Row
row_in w s at = record { base = number_at 8 s at; window = number_at w s (at + 8) }

unfoldable pub clock_in : ℕ → ℕ → Bytes → ℕ → List ℕ
clock_in w zero s at = zero_clock
clock_in w (suc n) s at = with_row (clock_in w n s at) (suc n) (row_in w s (at + n * row_size w))

-- the state under an actor with its fields at these places
unfoldable pub state_at : ℕ → Bytes → ImageLayout → State
state_at actor s l = record {
  actor = actor_of actor;
  name = record { bytes = padded name_most (part_of s l.name); len = l.name.len };
  clock = record { words = clock_in (window_bytes (version_in s)) actor_most s l.rows };
  tombstone = record { bytes = padded tombstone_size (part_of s l.dots); count = l.count };
  used = l.keys.len;
}

-- the writer's actor, and its state
abbrev pub writer_at : Bytes → ImageLayout → ℕ
writer_at s l = byte_at s l.actor

abbrev pub written_at : Bytes → ImageLayout → State
written_at s l = state_at (writer_at s l) s l

-- refusal 15 does not hold: "an actor from 1 to 16, not the writer's, whose row is empty (base and window 0)"
unfoldable pub free_of : ℕ → ℕ → List ℕ → Bool
free_of actor writer words = actor_ok actor && (not (eqb actor writer) && unused words actor)

abbrev pub actor_free : ℕ → Bytes → ImageLayout → Bool
actor_free actor s l = free_of actor (writer_at s l) (state_at actor s l).clock.words

-- refusal 5 does not hold: "A bad set name or writer's actor is 5"
abbrev pub writer_ok : Bytes → ImageLayout → Bool
writer_ok s l = name_ok (part_of s l.name) && actor_ok (writer_at s l)
