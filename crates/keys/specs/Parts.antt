-- The parts of a key's bytes: what stands before its label, and what after it.
use Rattle.std.specs.Prelude.{ℕ, ◌+◌, cond, [], ◌∷◌, ◌++◌, ◌≡◌, length}
use Rattle.wire.specs.Bytes.{Bytes, big_endian, put_at}
use Rattle.dots.specs.Names.{Name}
use Rattle.keys.specs.declared.KeyKind.{KeyKind}
use Rattle.keys.specs.declared.KeyKind.TheVariants.{ClockKey, TombstoneKey, LabelKey, EndKey}
use Rattle.keys.specs.Key.{has_label, has_actor, suffix_size, prefix_fixed}

-- magic byte, version byte, name, 00, type byte
abbrev pub front_bytes : Name → ℕ → Bytes
front_bytes name type = 0x02 ∷ 0x01 ∷ (name ++ (0 ∷ type ∷ []))

-- these put at the front of out, which becomes out'; r is their number
abbrev pub FrontPut : Name → ℕ → Bytes → Bytes → ℕ → Type 0
FrontPut name type out out' r = (r ≡ length name + prefix_fixed) × (out' ≡ put_at out 0 (front_bytes name type))

-- actor, 00, counter, where the type has them
abbrev pub actor_counter : KeyKind → ℕ → ℕ → Bytes
actor_counter kind actor counter = cond (has_actor kind) (actor ∷ []) [] ++ (0 ∷ cond (has_label kind) (big_endian 8 counter) [])

-- the bytes after the label: its 00, and these
abbrev pub tail_bytes : KeyKind → ℕ → ℕ → Bytes
tail_bytes kind actor counter = 0 ∷ actor_counter kind actor counter

-- their number
abbrev pub tail_length : KeyKind → ℕ
tail_length ClockKey = 3
tail_length TombstoneKey = 3
tail_length LabelKey = suffix_size
tail_length EndKey = 2
