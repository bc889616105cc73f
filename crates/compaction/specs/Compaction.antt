-- "Compaction drops every key whose dot is in the tombstone", of keys end to end. "Freed bytes at the end of the old used part become 0".
-- The test of what is dropped is a parameter.
use Rattle.std.specs.Prelude.{ℕ, ◌-◌, ◌*◌, ◌≤◌, Bool, true, not, List, ◌++◌, ◌≡◌, length, take, replicate}
use Rattle.wire.specs.Lists.{keep, member}
use Rattle.wire.specs.Bytes.{Bytes}
use Rattle.dots.specs.declared.Dot.{Dot}
use Rattle.dots.specs.Names.{name_most}
use Rattle.dots.specs.Dots.{compare_dots, ascending_dots, tombstone_most}
use Rattle.dots.specs.Wire.{dots_of, dot_size, tombstone_size}
use Rattle.store.specs.Cut.{end_to_end, keys_of, key_dot}
use Rattle.store.specs.Valid.{keys_fit}

-- a dot is one of the dots in bytes
abbrev pub is_in : Bytes → Dot → Bool
is_in bytes = λ d. member compare_dots d (dots_of bytes)

-- the dots of a tombstone with `count` of them
abbrev pub is_among : Bytes → ℕ → Dot → Bool
is_among tombstone count = is_in (take (count * dot_size) tombstone)

-- what compacting counts on: room in every key, and ascending dots
abbrev pub CanCompact : ℕ → Bytes → Bytes → ℕ → Type 0
CanCompact n keys tombstone count =
    (n ≤ name_most) × (keys_fit n keys ≡ true) × (count ≤ tombstone_most) × (length tombstone ≡ tombstone_size)
    × (ascending_dots (dots_of (take (count * dot_size) tombstone)) ≡ true)

-- the keys that stay where a test drops keys by their dots
abbrev pub kept_keys : (Dot → Bool) → List Bytes → List Bytes
kept_keys dead ks = keep (λ (k : Bytes). not (dead (key_dot k))) ks

-- those of the keys in s, of a set whose name has n bytes, end to end
abbrev pub kept_bytes : (Dot → Bool) → ℕ → Bytes → Bytes
kept_bytes dead n s = end_to_end (kept_keys dead (keys_of n s))

-- what is left of s: the keys that stay, r bytes, and 0 in place of the freed ones
pub record Drops (dead : Dot → Bool) (n r : ℕ) (s s' : Bytes) : Type 0 where
  pub keys-left : s' ≡ kept_bytes dead n s ++ replicate (length s - length (kept_bytes dead n s)) 0
  pub used-left : r ≡ length (kept_bytes dead n s)
