-- Document 01's slips that would light the wrong bin (slip 4 is the clock's: `clock/specs`), compactions and hand-offs, as runs of the machine; merges of two.
use Rattle.std.specs.Prelude.{ℕ, true, false, cond, List, [], ◌∷◌, ◌++◌, map, ◌≡◌}
use Rattle.dots.specs.declared.Dot.{Dot}
use Rattle.dots.specs.Names.{Label}
use Rattle.dots.specs.Dots.{actor_of, dot_of}
use Rattle.dots.specs.Entries.{Entry, entry, Line, line}
use Rattle.dots.specs.Message.{add, remove}
use Rattle.clock.specs.Row.{window_width}
use Rattle.replica.specs.Clock.{ClockModel}
use Rattle.replica.specs.Machine.{Call, own_add, own_remove, take_in, compact, hand_off, State, set_up, listing, effect, allowed}
use Rattle.replica.specs.Rule.{Event, no_history, history_from}
use Rattle.replica.specs.Read.{read_of, merged_lines}
use Rattle.replica.specs.RowClock.{row_clock}

abbrev pub clock : ClockModel
clock = row_clock window_width

abbrev pub B7 : Label
B7 = 0x42 ∷ 0x37 ∷ []

abbrev pub B8 : Label
B8 = 0x42 ∷ 0x38 ∷ []

abbrev pub dot : ℕ → ℕ → Dot
dot a n = dot_of (actor_of a) n

-- a call that is not allowed changes nothing
abbrev pub stepped : State clock → Call → State clock
stepped s c = cond (allowed clock s c) (effect clock s c) s

-- calls, one after the other
unfoldable pub run : State clock → List Call → State clock
run s [] = s
run s (c ∷ cs) = run (stepped s c) cs

-- all that the rule reads of them
unfoldable pub events : State clock → List Call → List Event
events s [] = []
events s (c ∷ cs) = record { call = c; accepted = allowed clock s c } ∷ events (stepped s c) cs

-- what is held and listed in the end
pub record Shown : Type 0 where
  pub keys : List Entry
  pub tombstone : List Dot
  pub listing : List Line

-- calls of a fresh controller of actor a
abbrev pub shown : ℕ → List Call → Shown
shown a cs = let s = run (set_up clock (actor_of a)) cs in record { keys = s.keys; tombstone = s.tombstone; listing = listing clock s }

pub record SlipCases : Type 0 where
  -- an add that comes again after its key was compacted away is not stored
  pub slip_1 : shown 2 (take_in (add B7 (dot 1 1) []) ∷ take_in (remove (dot 1 1 ∷ [])) ∷ compact ∷ take_in (add B7 (dot 1 1) []) ∷ [])
      ≡ record { keys = []; tombstone = []; listing = [] }
  -- a context removes the dots that it lists, and none below them
  pub slip_2 : shown 1 (own_add B7 [] ∷ own_add B8 [] ∷ own_remove (dot 1 2 ∷ []) ∷ [])
      ≡ record { keys = entry B7 (dot 1 1) ∷ entry B8 (dot 1 2) ∷ []; tombstone = dot 1 2 ∷ []; listing = line B7 (dot 1 1 ∷ []) ∷ [] }
  -- a removed dot that was not seen joins the clock, so that its add is not stored, and not the tombstone
  pub slip_3 : shown 2 (take_in (remove (dot 1 1 ∷ [])) ∷ take_in (add B7 (dot 1 1) []) ∷ [])
      ≡ record { keys = []; tombstone = []; listing = [] }
  -- a label stays while one of its dots does
  pub slip_5 : shown 1 (own_add B7 [] ∷ take_in (add B7 (dot 2 1) []) ∷ own_remove (dot 1 1 ∷ []) ∷ [])
      ≡ record { keys = entry B7 (dot 1 1) ∷ entry B7 (dot 2 1) ∷ []; tombstone = dot 1 1 ∷ []; listing = line B7 (dot 2 1 ∷ []) ∷ [] }

-- a fresh controller takes in the remove of a dot that it has not seen, twice
abbrev pub removed_twice : List Call
removed_twice = take_in (remove (dot 1 1 ∷ [])) ∷ take_in (remove (dot 1 1 ∷ [])) ∷ []

pub record CompactionCases : Type 0 where
  -- "R1's remove taken in twice and then compacted: tombstone {(1,1)}, then empty"
  pub twice : shown 2 removed_twice ≡ record { keys = []; tombstone = dot 1 1 ∷ []; listing = [] }
  pub twice-compacted : shown 2 (removed_twice ++ (compact ∷ [])) ≡ record { keys = []; tombstone = []; listing = [] }
  -- "the clock already keeps such adds out"
  pub add-after : shown 2 (removed_twice ++ (compact ∷ take_in (add B7 (dot 1 1) []) ∷ [])) ≡ record { keys = []; tombstone = []; listing = [] }
  -- a key whose dot is not in the tombstone stays
  pub live-stays : shown 1 (own_add B7 [] ∷ own_add B8 [] ∷ own_remove (dot 1 1 ∷ []) ∷ compact ∷ [])
      ≡ record { keys = entry B8 (dot 1 2) ∷ []; tombstone = []; listing = line B8 (dot 1 2 ∷ []) ∷ [] }

-- a hand-off, one to an actor of which an add was seen, and one more; each box that is in use makes an own add
abbrev pub hand_offs : List Call
hand_offs = own_add B7 [] ∷ hand_off (actor_of 2) ∷ own_add B8 [] ∷ hand_off (actor_of 1) ∷ hand_off (actor_of 3) ∷ own_add B8 (dot 2 1 ∷ []) ∷ []

abbrev pub hand_off_events : List Event
hand_off_events = events (set_up clock (actor_of 1)) hand_offs

pub record HandOffCases : Type 0 where
  -- an actor "whose row is empty (base and window 0)", else the hand-off is refused
  pub answered : map (λ (e : Event). e.accepted) hand_off_events ≡ true ∷ true ∷ true ∷ false ∷ true ∷ true ∷ []
  -- the box loaded last removes what the one before it added
  pub goes_on : shown 1 hand_offs
      ≡ record { keys = entry B7 (dot 1 1) ∷ entry B8 (dot 2 1) ∷ entry B8 (dot 3 1) ∷ []; tombstone = dot 2 1 ∷ []; listing = line B7 (dot 1 1 ∷ []) ∷ line B8 (dot 3 1 ∷ []) ∷ [] }
  -- by the rule, each of the three own adds is the first of its actor
  pub counted : (history_from (no_history (actor_of 1)) hand_off_events).messages ≡ add B8 (dot 3 1) (dot 2 1 ∷ []) ∷ add B8 (dot 2 1) [] ∷ add B7 (dot 1 1) [] ∷ []

-- ---- two racks: the first added B7 and B8; the second took in B7's add and its remove, in one case compacted, and has not seen B8's

abbrev first : State clock
first = run (set_up clock (actor_of 1)) (own_add B7 [] ∷ own_add B8 [] ∷ [])

abbrev second : State clock
second = run (set_up clock (actor_of 2)) (take_in (add B7 (dot 1 1) []) ∷ take_in (remove (dot 1 1 ∷ [])) ∷ [])

abbrev dropped : State clock
dropped = run second (compact ∷ [])

abbrev merge : State clock → State clock → List Line
merge s t = merged_lines clock (read_of clock s) (read_of clock t)

pub record MergeCases : Type 0 where
  -- what the second has removed is not listed, be its key still stored or dropped; what it has not seen is
  pub removed : merge first second ≡ line B8 (dot 1 2 ∷ []) ∷ []
  pub compacted : merge first dropped ≡ line B8 (dot 1 2 ∷ []) ∷ []
  pub other_way : merge dropped first ≡ line B8 (dot 1 2 ∷ []) ∷ []
  -- what both list is listed once
  pub itself : merge first first ≡ line B7 (dot 1 1 ∷ []) ∷ line B8 (dot 1 2 ∷ []) ∷ []
