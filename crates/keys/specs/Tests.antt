-- What a reader tests, byte by byte. That these tests are `is_key` and `key_entry` is proved in proofs/KeyTests and proofs/EntryTests.
use Rattle.std.specs.Prelude.{ℕ, ◌+◌, ◌≡◌, Bool, cond, ◌&&◌, leb, eqb, length, take, drop, Result, MatchResult}
use Rattle.std.proofs.Math.Option.{Option, none, some}
use Rattle.wire.specs.Bytes.{Bytes, between, byte_at, number_at, zero_at, starts_with}
use Rattle.dots.specs.declared.Answer.{Answer}
use Rattle.dots.specs.declared.Answer.TheVariants.{BadShape}
use Rattle.dots.specs.Names.{Name, name_most, label_most}
use Rattle.dots.specs.Dots.{actor_of, dot_of, actor_ok}
use Rattle.dots.specs.Entries.{Entry, entry}
use Rattle.keys.specs.declared.KeyKind.{KeyKind}
use Rattle.keys.specs.declared.KeyKind.TheVariants.{ClockKey, TombstoneKey, LabelKey, EndKey}
use Rattle.keys.specs.Key.{type_byte, suffix_size, prefix_fixed}
use Rattle.keys.specs.Read.{name_length}
use Rattle.keys.specs.Entry.{prefix}

-- the type of a type byte; whether it is one at all is tested apart
abbrev pub kind_of : ℕ → KeyKind
kind_of b = cond (eqb b 0x63) ClockKey (cond (eqb b 0x64) TombstoneKey (cond (eqb b 0x65) LabelKey EndKey))

-- the type of a type byte, and a refusal of a byte that is none
abbrev pub Typed : ℕ → Result KeyKind Answer → Type 0
Typed b r = MatchResult r (λ kind. (kind ≡ kind_of b) × (type_byte kind ≡ b)) (λ answer. (answer ≡ BadShape) × (type_byte (kind_of b) ≡ b → ⊥))

-- magic byte, version byte, a name of 1 to 16 bytes, and the type byte
unfoldable pub front_ok : KeyKind → Bytes → Bool
front_ok kind s = let n = name_length s in eqb (byte_at s 0) 0x02 && eqb (byte_at s 1) 0x01 && between 1 name_most n && eqb (byte_at s (n + 3)) (type_byte kind)

-- what follows the type byte of a label key: a label of 1 to 32 bytes, 00, actor, 00, counter, and nothing left over
unfoldable pub label_after : Bytes → Bool
label_after t =
    let n = zero_at t in
    eqb (length t) (n + suffix_size) && (between 1 label_most n && actor_ok (byte_at t (n + 1)) && eqb (byte_at t (n + 2)) 0 && leb 1 (number_at 8 t (n + 3)))

-- of a clock or tombstone key: 00, actor, 00
unfoldable pub actor_after : Bytes → Bool
actor_after t = eqb (length t) 3 && eqb (byte_at t 0) 0 && actor_ok (byte_at t 1) && eqb (byte_at t 2) 0

-- of an end key: 00, 00
unfoldable pub end_after : Bytes → Bool
end_after t = eqb (length t) 2 && eqb (byte_at t 0) 0 && eqb (byte_at t 1) 0

abbrev pub after_ok : KeyKind → Bytes → Bool
after_ok ClockKey t = actor_after t
after_ok TombstoneKey t = actor_after t
after_ok LabelKey t = label_after t
after_ok EndKey t = end_after t

-- the entry of what follows the type byte of a label key
abbrev pub entry_after : Bytes → Entry
entry_after t = let n = zero_at t in entry (take n t) (dot_of (actor_of (byte_at t (n + 1))) (number_at 8 t (n + 3)))

-- the entry that bytes are the key of in a set, by its tests
unfoldable pub entry_by : Name → Bytes → Option Entry
entry_by name s = let t = drop (length name + prefix_fixed) s in cond (starts_with (prefix name) s && label_after t) (some (entry_after t)) none
