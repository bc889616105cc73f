-- A machine's state written back into a controller's state and lent store.
use Rattle.std.specs.Prelude.{ℕ, ◌-◌, max, List, ◌++◌, length, drop, replicate}
use Rattle.wire.specs.Bytes.{Bytes}
use Rattle.dots.specs.declared.Dot.{Dot}
use Rattle.dots.specs.Wire.{dots_bytes, tombstone_size}
use Rattle.store.specs.Cut.{store_bytes}
use Rattle.calls.specs.declared.State.{State}
use Rattle.calls.specs.declared.Tombstone.{Tombstone}
use Rattle.calls.specs.State.{Machine, name_of}

-- bytes at the front of n bytes, the others 0
abbrev pub padded : ℕ → Bytes → Bytes
padded n bytes = bytes ++ replicate (n - length bytes) 0

abbrev pub tombstone_of : List Dot → Tombstone
tombstone_of ds = record { bytes = padded tombstone_size (dots_bytes ds); count = length ds }

-- the keys of the machine's entries, end to end
abbrev pub keys_part : State → Machine → Bytes
keys_part st m = store_bytes (name_of st) m.keys

-- the state that stands for m, for the same actor and set
unfoldable pub state_of : State → Machine → State
state_of st m = record {
  actor = st.actor;
  name = st.name;
  clock = record { words = m.clock };
  tombstone = tombstone_of m.tombstone;
  used = length (keys_part st m);
}

-- The store with m's keys. "Freed bytes at the end of the old used part become 0", and
-- "store past the larger of the old and new used lengths" keeps its values.
unfoldable pub store_of : State → Bytes → Machine → Bytes
store_of st store m = padded st.used (keys_part st m) ++ drop (max st.used (length (keys_part st m))) store

-- bytes at the front of an output buffer; "Output past the bytes written" keeps its values
abbrev pub put_out : Bytes → Bytes → Bytes
put_out bytes out = bytes ++ drop (length bytes) out
