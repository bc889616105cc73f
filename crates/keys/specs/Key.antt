-- "magic byte, version byte, set name, 00, type byte, label, 00, actor, 00, counter in 8 bytes, highest first"
use Prim.Native.Nat.{ℕ, ◌+◌, compare, Ordering}
use Rattle.std.specs.Prelude.{Bool, true, false, cond, ◌&&◌, [], ◌∷◌, ◌++◌}
use Rattle.wire.specs.Lists.{then}
use Rattle.wire.specs.Bytes.{Bytes, big_endian, compare_bytes}
use Rattle.dots.specs.Names.{Name, Label, name_ok, label_ok}
use Rattle.dots.specs.Dots.{actor_ok, counter_ok}
use Rattle.keys.specs.declared.KeyKind.{KeyKind}
use Rattle.keys.specs.declared.KeyKind.TheVariants.{ClockKey, TombstoneKey, LabelKey, EndKey}

-- "Types are c, d, e, z for clock, tombstone, label and end."
abbrev pub type_byte : KeyKind → ℕ
type_byte ClockKey = 0x63
type_byte TombstoneKey = 0x64
type_byte LabelKey = 0x65
type_byte EndKey = 0x7A

-- label and counter stand "in label keys only"
abbrev pub has_label : KeyKind → Bool
has_label ClockKey = false
has_label TombstoneKey = false
has_label LabelKey = true
has_label EndKey = false

-- "Clock and tombstone keys carry an actor, end keys don't."
abbrev pub has_actor : KeyKind → Bool
has_actor ClockKey = true
has_actor TombstoneKey = true
has_actor LabelKey = true
has_actor EndKey = false

-- what a key says
pub record Key : Type 0 where
  pub kind : KeyKind
  pub name : Name
  pub label : Label
  pub actor : ℕ
  pub counter : ℕ

-- "A field that the type lacks is not looked at in writing and is empty or 0 in reading."
abbrev pub key_of : KeyKind → Name → Label → ℕ → ℕ → Key
key_of kind name label actor counter = record {
  kind = kind;
  name = name;
  label = cond (has_label kind) label [];
  actor = cond (has_actor kind) actor 0;
  counter = cond (has_label kind) counter 0;
}

-- the rules of set name, label and actor (refusal 5), and of the counter (refusal 6), where the type has them
unfoldable pub names_ok : Key → Bool
names_ok k = name_ok k.name && (cond (has_label k.kind) (label_ok k.label) true && cond (has_actor k.kind) (actor_ok k.actor) true)

unfoldable pub key_counter_ok : Key → Bool
key_counter_ok k = cond (has_label k.kind) (counter_ok k.counter) true

-- what stands after the type byte: "Where a field is absent its 00 stays"
unfoldable pub after_type : Key → Bytes
after_type k =
    k.label ++ (0 ∷ (cond (has_actor k.kind) (k.actor ∷ []) [] ++ (0 ∷ cond (has_label k.kind) (big_endian 8 k.counter) [])))

-- magic byte 02 and version byte 01
unfoldable pub key_bytes : Key → Bytes
key_bytes k = 0x02 ∷ 0x01 ∷ (k.name ++ (0 ∷ type_byte k.kind ∷ after_type k))

-- bytes of a label key before its label, beside the name: magic byte, version byte, 00, type byte
abbrev pub prefix_fixed : ℕ
prefix_fixed = 4

-- and after its label: 00, actor, 00, counter
abbrev pub suffix_size : ℕ
suffix_size = 11

-- "A label key is name length + label length + 15 bytes."
abbrev pub label_key_fixed : ℕ
label_key_fixed = prefix_fixed + suffix_size

-- "the order of set name, type, label, actor, counter"
abbrev pub compare_keys : Key → Key → Ordering
compare_keys k j =
    then (compare_bytes k.name j.name)
    (then (compare (type_byte k.kind) (type_byte j.kind))
    (then (compare_bytes k.label j.label)
    (then (compare k.actor j.actor) (compare k.counter j.counter))))
