-- Loading: bounds of a layout, what the functions behind loading count on, and the rows of the table that each answers.
use Rattle.std.specs.Prelude.{ℕ, ◌*◌, ◌≤◌, ◌<◌, ◌^◌, not, ◌≡◌, [], ◌∷◌, ltb, length}
use Rattle.wire.specs.Bytes.{Bytes}
use Rattle.dots.specs.declared.Answer.TheVariants.{Damaged, NoMark, BadVersion, BadShape, BadName, BadDot, BadChecksum, ActorTaken}
use Rattle.dots.specs.Answer.{Refusals}
use Rattle.dots.specs.Names.{name_most}
use Rattle.dots.specs.Dots.{tombstone_most}
use Rattle.dots.specs.Wire.{dot_size}
use Rattle.messages.specs.Message.{front_fixed}
use Rattle.messages.specs.Read.{mark_ok}
use Rattle.store.specs.Valid.{store_most}
use Rattle.calls.specs.declared.ImageLayout.{ImageLayout}
use Rattle.calls.specs.Calls.{Result, decided, fresh_state}
use Rattle.calls.specs.ImageRead.{version_ok, layout_of, shape_ok, Within, crc_ok, actor_free, writer_ok}
use Rattle.calls.specs.HandOff.{content_refusals, actor_refusals, loaded_at}

-- each length field is bounded, so no sum of places overflows
pub record Small (l : ImageLayout) : Type 0 where
  pub name-at : l.name.at ≡ front_fixed
  pub name-len : l.name.len ≤ 255
  pub actor : l.actor ≤ 262
  pub rows : l.rows ≤ 263
  pub count : l.count ≤ 255
  pub dots-at : l.dots.at ≤ 520
  pub dots-len : l.dots.len ≡ dot_size * l.count
  pub keys-at : l.keys.at ≤ 2819
  pub keys_len : l.keys.len < 2 ^ 32

-- the fields lie within the bytes, and the set name is no longer than one may be: what judging the contents counts on
pub record Named (s : Bytes) (l : ImageLayout) : Type 0 where
  pub small : Small l
  pub within : Within s l
  pub short-name : l.name.len ≤ name_most

-- what loading counts on where it is not refused, for a store of so many bytes
pub record Loadable (l : ImageLayout) (room : ℕ) : Type 0 where
  pub few : l.count ≤ tombstone_most
  pub fits : l.keys.len ≤ room

-- the last rows of the table, whatever the new actor is
abbrev pub late_refusals : ℕ → Bytes → ImageLayout → Refusals
late_refusals room s l = content_refusals 0 room s l

-- the rows after the shape
abbrev pub checked_refusals : ℕ → ℕ → Bytes → ImageLayout → Refusals
checked_refusals actor room s l = (not (crc_ok s), BadChecksum) ∷ actor_refusals actor room s l

-- those of them that are told from the fields as they stand, and 6 of more dots than a tombstone may have: no state holds them
abbrev pub field_refusals : ℕ → Bytes → ImageLayout → Refusals
field_refusals actor s l =
    (not (crc_ok s), BadChecksum) ∷ (not (actor_free actor s l), ActorTaken) ∷ (not (writer_ok s l), BadName) ∷ (ltb tombstone_most l.count, BadDot) ∷ []

-- what is answered before the state is made of the fields
abbrev pub early_refusals : ℕ → Bytes → Bytes → Refusals
early_refusals actor s store =
    (ltb store_most (length store), Damaged)
    ∷ (not (mark_ok s), NoMark)
    ∷ (not (version_ok s), BadVersion)
    ∷ (not (shape_ok s (layout_of s)), BadShape)
    ∷ field_refusals actor s (layout_of s)

-- what loading leaves where none of these holds
abbrev pub fields_result : ℕ → Bytes → Bytes → ImageLayout → Result
fields_result actor s store l = decided (fresh_state 0 []) store [] (late_refusals (length store) s l) (loaded_at actor s store l)
