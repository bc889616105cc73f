-- What judging tells: whether a state and its store are undamaged, and then how many used bytes come before all keys of a label.
use Rattle.std.specs.Prelude.{ℕ, ◌*◌, Bool, not, ◌&&◌, Option, List, ◌++◌, leb, length, take}
use Rattle.wire.specs.Lists.{all}
use Rattle.wire.specs.Bytes.{Bytes}
use Rattle.dots.specs.Names.{Label, name_most, name_ok}
use Rattle.dots.specs.Dots.{actor_ok, ascending_dots, tombstone_most}
use Rattle.dots.specs.Wire.{dots_of, dot_size}
use Rattle.clock.specs.Row.{window_width}
use Rattle.clock.specs.Clock.{sees, clock_ok}
use Rattle.keys.specs.Entry.{prefix}
use Rattle.store.specs.Place.{LabelPassed, Judged, StoreJudged}
use Rattle.calls.specs.declared.SetName.{SetName}
use Rattle.calls.specs.declared.State.{State}
use Rattle.calls.specs.State.{name_of}
use Rattle.calls.specs.Damage.{zero_from, state_name_ok, tombstone_ok, damaged}

-- the first len bytes are a set name, and the others 0
abbrev pub is_set_name : Bytes → ℕ → Bool
is_set_name bytes len = leb len name_most && (name_ok (take len bytes) && zero_from len bytes)

-- the first count dots are a tombstone of the clock, and the other bytes 0
abbrev pub is_tombstone : List ℕ → Bytes → ℕ → Bool
is_tombstone words bytes count =
    leb count tombstone_most
    && (ascending_dots (dots_of (take (count * dot_size) bytes)) && (all (sees words) (dots_of (take (count * dot_size) bytes)) && zero_from (count * dot_size) bytes))

-- what is undamaged whatever the store is
unfoldable pub state_ok : State → Bool
state_ok st = actor_ok st.actor.number && (state_name_ok st && (clock_ok window_width st.actor.number st.clock.words && tombstone_ok st))

-- the first `low` used bytes come before all keys of a label
abbrev pub LowPart : State → Bytes → Label → ℕ → Type 0
LowPart st store label low = LabelPassed (name_of st) label (take st.used store) low

-- what the pass over a store tells
abbrev pub JudgesStore : SetName → List ℕ → Bytes → ℕ → Label → Option ℕ → Type 0
JudgesStore name words store used label r = StoreJudged (take name.len name.bytes) words store used label r

-- what judging a state and its store tells
abbrev pub Judges : State → Bytes → Label → Option ℕ → Type 0
Judges st store label r = Judged (not (damaged st store)) (length (name_of st)) (prefix (name_of st) ++ label) (take st.used store) r
