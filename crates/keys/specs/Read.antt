-- Reading a key: "exactly these forms with nothing left over; any other bytes answer 4".
use Rattle.std.specs.Prelude.{ℕ, ◌+◌, Bool, cond, ◌&&◌, drop, Result, Ok, Err}
use Rattle.std.proofs.Math.Dec.{compare_is_eq}
use Rattle.wire.specs.declared.Span.{Span}
use Rattle.wire.specs.Bytes.{Bytes, byte_at, part_at, span, number_at, zero_at, compare_bytes}
use Rattle.dots.specs.declared.Answer.{Answer}
use Rattle.dots.specs.declared.Answer.TheVariants.{Done, BadShape}
use Rattle.keys.specs.declared.KeyKind.{KeyKind}
use Rattle.keys.specs.declared.KeyKind.TheVariants.{ClockKey, TombstoneKey, LabelKey, EndKey}
use Rattle.keys.specs.declared.KeyFields.{KeyFields}
use Rattle.keys.specs.Key.{Key, key_of, type_byte, has_label, names_ok, key_counter_ok, key_bytes, prefix_fixed}

-- the name stands from byte 2 to the first 00 after it, the label from the byte after the type byte to the first 00 after that
abbrev pub name_length : Bytes → ℕ
name_length s = zero_at (drop 2 s)

abbrev pub label_length : Bytes → ℕ
label_length s = zero_at (drop (name_length s + prefix_fixed) s)

-- the fields of a key of a type, at their places; bytes past the end count as 0
unfoldable pub fields_as : KeyKind → Bytes → Key
fields_as kind s =
    let n = name_length s in
    let l = label_length s in
    key_of kind (part_at s 2 n) (part_at s (n + prefix_fixed) l) (byte_at s (n + l + 5)) (number_at 8 s (n + l + 7))

-- bytes are a key of a type if its fields keep their rules and their key is these very bytes
unfoldable pub is_key : KeyKind → Bytes → Bool
is_key kind s = let k = fields_as kind s in names_ok k && (key_counter_ok k && compare_is_eq (compare_bytes (key_bytes k) s))

-- a key as it was read: its type byte, where name and label stand, actor and counter
pub record KeyRead : Type 0 where
  pub answer : Answer
  pub kind : ℕ
  pub name : Span
  pub label : Span
  pub actor : ℕ
  pub counter : ℕ

abbrev pub found_key : KeyKind → Bytes → KeyRead
found_key kind s = record {
  answer = Done;
  kind = type_byte kind;
  name = span 2 (name_length s);
  label = cond (has_label kind) (span (name_length s + prefix_fixed) (label_length s)) (span 0 0);
  actor = (fields_as kind s).actor;
  counter = (fields_as kind s).counter;
}

-- "refused: all fields 0"
abbrev pub no_key : KeyRead
no_key = record { answer = BadShape; kind = 0; name = span 0 0; label = span 0 0; actor = 0; counter = 0 }

-- what reading gave, as the answer and the fields
abbrev pub read_as : Result KeyFields Answer → KeyRead
read_as (Ok k) = record { answer = Done; kind = type_byte k.kind; name = k.name; label = k.label; actor = k.actor; counter = k.counter }
read_as (Err a) = record { answer = a; kind = 0; name = span 0 0; label = span 0 0; actor = 0; counter = 0 }

abbrev pub or_key : Bytes → KeyKind → KeyRead → KeyRead
or_key s kind other = cond (is_key kind s) (found_key kind s) other

unfoldable pub read_key : Bytes → KeyRead
read_key s = or_key s ClockKey (or_key s TombstoneKey (or_key s LabelKey (or_key s EndKey no_key)))
