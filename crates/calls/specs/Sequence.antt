-- Calls in a row: "Each call in the sequence has any arguments of its own. The first gets the state that set-up gave, used length 0;
-- each later one ... gets state and used store bytes from the call before, be it refused or not".
use Rattle.std.specs.Prelude.{ℕ, Bool, cond, List, [], ◌∷◌, ◌++◌, eqb, take}
use Rattle.wire.specs.Bytes.{Bytes}
use Rattle.dots.specs.Answer.{number_of}
use Rattle.dots.specs.Names.{Name}
use Rattle.dots.specs.Dots.{actor_of}
use Rattle.dots.specs.Wire.{dots_of}
use Rattle.dots.specs.Message.{Message}
use Rattle.messages.specs.Read.{message_of}
use Rattle.replica.specs.Machine.{Call, own_add, own_remove, take_in, reads, compact, hand_off}
use Rattle.replica.specs.Rule.{Event, no_history, history_from}
use Rattle.calls.specs.declared.State.{State}
use Rattle.calls.specs.Calls.{set_up, Result, refused, own_add_result, own_remove_result, take_in_result, list_result, page_result, merge_result, lookup_result, compact_result}
use Rattle.calls.specs.HandOff.{hand_off_result}

-- A call that only reads, with its arguments and the output that is lent to it. A merged read is none of these: it reads two controllers, leaves what both
-- hold and changes neither set of either, so it is no call of a sequence but `merge_of` below.
pub data Reading : Type 0 where
  list_reading : (out : Bytes) → Reading
  page_reading : (start out : Bytes) → Reading
  lookup_reading : (label : Bytes) → Reading

-- a call with its arguments and lent buffers: `out`, and the store's buffer `past` the used bytes, which "may differ from call to call, in length and in content"
pub data Input : Type 0 where
  add_input : (label context past out : Bytes) → Input
  remove_input : (context past out : Bytes) → Input
  message_input : (message past : Bytes) → Input
  read_input : (reading : Reading) (past : Bytes) → Input
  compact_input : (past : Bytes) → Input
  -- an image is written to `out` and loaded under `actor` into another box's store, `room`
  hand_off_input : (past out : Bytes) (actor : ℕ) (room : Bytes) → Input

abbrev pub list_input : Bytes → Bytes → Input
list_input past out = read_input (list_reading out) past

abbrev pub page_input : Bytes → Bytes → Bytes → Input
page_input start past out = read_input (page_reading start out) past

abbrev pub lookup_input : Bytes → Bytes → Input
lookup_input label past = read_input (lookup_reading label) past

-- what passes from call to call
pub record Held : Type 0 where
  pub state : State
  pub used : Bytes

abbrev pub started : ℕ → Name → Held
started actor name = record { state = (set_up actor name).state; used = [] }

abbrev pub reading_result : State → Bytes → Reading → Result
reading_result st store (list_reading out) = list_result st store out
reading_result st store (page_reading start out) = page_result st store start out
reading_result st store (lookup_reading label) = refused st store [] (lookup_result st store label).answer

unfoldable pub result_of : Held → Input → Result
result_of h (add_input label context past out) = own_add_result h.state (h.used ++ past) label context out
result_of h (remove_input context past out) = own_remove_result h.state (h.used ++ past) context out
result_of h (message_input message past) = take_in_result h.state (h.used ++ past) message
result_of h (read_input reading past) = reading_result h.state (h.used ++ past) reading
result_of h (compact_input past) = compact_result h.state (h.used ++ past)
result_of h (hand_off_input past out actor room) = hand_off_result h.state (h.used ++ past) out actor room

abbrev pub answer_of : Held → Input → ℕ
answer_of h i = number_of (result_of h i).answer

-- "A call is accepted when it answers 0."
abbrev pub accepts : Held → Input → Bool
accepts h i = eqb (answer_of h i) 0

abbrev pub held_after : Result → Held
held_after r = record { state = r.state; used = take r.state.used r.store }

abbrev pub step : Held → Input → Held
step h i = held_after (result_of h i)

unfoldable pub run : Held → List Input → Held
run h [] = h
run h (i ∷ is) = run (step h i) is

-- The call that the rule reads. "A message's label, dot and context are those in its bytes. An own add's label and context are its arguments."
unfoldable pub call_of : Input → Call
call_of (add_input label context past out) = own_add label (dots_of context)
call_of (remove_input context past out) = own_remove (dots_of context)
call_of (message_input message past) = take_in (message_of message)
call_of (read_input reading past) = reads
call_of (compact_input past) = compact
call_of (hand_off_input past out actor room) = hand_off (actor_of actor)

-- "The rule reads the calls' arguments and which calls were accepted, nothing from clock, tombstone or store."
unfoldable pub events : Held → List Input → List Event
events h [] = []
events h (i ∷ is) = record { call = call_of i; accepted = accepts h i } ∷ events (step h i) is

-- label, dot and context of every accepted add, context of every accepted remove; an own add's dot is the actor then with the number of own adds accepted under it
abbrev pub accepted_messages : ℕ → Name → List Input → List Message
accepted_messages actor name is = (history_from (no_history (actor_of actor)) (events (started actor name) is)).messages

-- a merged read of two controllers, each with a buffer past its used bytes
abbrev pub merge_of : Held → Held → Bytes → Bytes → Bytes → Result
merge_of h k past past' out = merge_result h.state (h.used ++ past) k.state (k.used ++ past') out

-- the bytes put out
abbrev pub output : Result → Bytes
output r = take r.written r.out

-- "The message of an own call is the one it writes."
unfoldable pub message_bytes_of : Held → Input → List Bytes
message_bytes_of h (add_input label context past out) = output (result_of h (add_input label context past out)) ∷ []
message_bytes_of h (remove_input context past out) = output (result_of h (remove_input context past out)) ∷ []
message_bytes_of h (message_input message past) = message ∷ []
message_bytes_of h (read_input reading past) = []
message_bytes_of h (compact_input past) = []
message_bytes_of h (hand_off_input past out actor room) = []

-- each message that was "taken in or written in an accepted call"
unfoldable pub traffic : Held → List Input → List Bytes
traffic h [] = []
traffic h (i ∷ is) = cond (accepts h i) (message_bytes_of h i) [] ++ traffic (step h i) is
