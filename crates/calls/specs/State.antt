-- What a controller's state and its lent store stand for: a machine's state, on lists.
use Rattle.std.specs.Prelude.{◌*◌, List, ◌≡◌, length, take}
use Rattle.wire.specs.Bytes.{Bytes}
use Rattle.dots.specs.declared.Dot.{Dot}
use Rattle.dots.specs.Names.{Name, name_most}
use Rattle.dots.specs.Wire.{dots_of, dot_size, tombstone_size}
use Rattle.dots.specs.Entries.{Entry}
use Rattle.clock.specs.Row.{window_width}
use Rattle.store.specs.Cut.{entries_in}
use Rattle.replica.specs.Clock.{ClockModel}
use Rattle.replica.specs.Machine.{State as MachineState}
use Rattle.replica.specs.RowClock.{row_clock}
use Rattle.calls.specs.declared.State.{State}
use Rattle.clock.specs.Clock.{clock_words}

-- the machine over the clock of 16 rows
abbrev pub clock_model : ClockModel
clock_model = row_clock window_width

abbrev pub Machine : Type 0
Machine = MachineState clock_model

-- the sizes of a state's arrays: what every state by value has
pub record Sized (st : State) : Type 0 where
  pub name-size : length st.name.bytes ≡ name_most
  pub words_size : length st.clock.words ≡ clock_words
  pub tombstone-size : length st.tombstone.bytes ≡ tombstone_size

abbrev pub name_of : State → Name
name_of st = take st.name.len st.name.bytes

abbrev pub tombstone_dots : State → List Dot
tombstone_dots st = dots_of (take (st.tombstone.count * dot_size) st.tombstone.bytes)

abbrev pub used_part : State → Bytes → Bytes
used_part st store = take st.used store

-- label and dot of each stored key
abbrev pub entries : State → Bytes → List Entry
entries st store = entries_in (length (name_of st)) (used_part st store)

unfoldable pub view : State → Bytes → Machine
view st store = record { actor = st.actor; clock = st.clock.words; tombstone = tombstone_dots st; keys = entries st store }
