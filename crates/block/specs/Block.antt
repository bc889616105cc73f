-- The block: a controller's state in bytes, every field at its full width and place, so that a state has one block and a block one state.
use Rattle.std.specs.Prelude.{ℕ, zero, suc, ◌+◌, ◌*◌, ◌^◌, ◌<◌, List, [], ◌∷◌, ◌++◌, ◌≡◌, length, get_or}
use Rattle.wire.specs.Bytes.{Bytes, byte_at, part_at, number_at, big_endian, put_at}
use Rattle.dots.specs.Dots.{actor_of}
use Rattle.calls.specs.declared.SetName.{SetName}
use Rattle.calls.specs.declared.Tombstone.{Tombstone}
use Rattle.calls.specs.declared.State.{State}
use Rattle.dots.specs.Wire.{tombstone_size}
use Rattle.clock.specs.Clock.{clock_words}
use Rattle.dots.specs.Names.{name_most}

-- where the fields begin: actor, set name, its length, clock, tombstone, its number of dots, used length; and the size. Numbers have 8 bytes.
abbrev pub name_at : ℕ
name_at = 1

abbrev pub name_length_at : ℕ
name_length_at = name_at + name_most

abbrev pub clock_at : ℕ
clock_at = name_length_at + 8

abbrev pub tombstone_at : ℕ
tombstone_at = clock_at + clock_words * 8

abbrev pub count_at : ℕ
count_at = tombstone_at + tombstone_size

abbrev pub used_at : ℕ
used_at = count_at + 8

abbrev pub block_size : ℕ
block_size = used_at + 8

-- every number fits 64 bits: what is known of each lent slice of words
abbrev pub AreWords : List ℕ → Type 0
AreWords ws = (i : ℕ) → get_or ws i 0 < 2 ^ 64

-- words in eight bytes each, and so many words from a place on
unfoldable pub words_bytes : List ℕ → Bytes
words_bytes [] = []
words_bytes (w ∷ ws) = big_endian 8 w ++ words_bytes ws

unfoldable pub words_at : ℕ → Bytes → ℕ → List ℕ
words_at zero s at = []
words_at (suc n) s at = number_at 8 s at ∷ words_at n s (at + 8)

-- actor, set name and its length, clock, tombstone and the number of its dots, used length
unfoldable pub state_bytes : State → Bytes
state_bytes st =
    st.actor.number
    ∷ (st.name.bytes
    ++ (big_endian 8 st.name.len
    ++ (words_bytes st.clock.words ++ (st.tombstone.bytes ++ (big_endian 8 st.tombstone.count ++ big_endian 8 st.used)))))

-- x stands in a block from one place to the next, the rest as it was
pub record Fills (at next : ℕ) (x before after : Bytes) : Type 0 where
  pub ends : at + length x ≡ next
  pub put : after ≡ put_at before at x

-- the fields of a block at their places
abbrev pub name_in : Bytes → SetName
name_in s = record { bytes = part_at s name_at name_most; len = number_at 8 s name_length_at }

abbrev pub tombstone_in : Bytes → Tombstone
tombstone_in s = record { bytes = part_at s tombstone_at tombstone_size; count = number_at 8 s count_at }

unfoldable pub state_in : Bytes → State
state_in s = record {
  actor = actor_of (byte_at s 0);
  name = name_in s;
  clock = record { words = words_at clock_words s clock_at };
  tombstone = tombstone_in s;
  used = number_at 8 s used_at;
}
