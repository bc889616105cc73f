-- The settled cases of document 01 (marked * there), with the case that document 02 adds to them, as one table: set "R1", label "B7".
use Rattle.std.specs.Prelude.{ℕ, true, List, [], ◌∷◌, ◌++◌, ◌≡◌, replicate}
use Rattle.std.proofs.Math.Option.{some}
use Rattle.wire.specs.Lists.{ascends}
use Rattle.wire.specs.Bytes.{Bytes, compare_bytes}
use Rattle.dots.specs.declared.Dot.{Dot}
use Rattle.dots.specs.Dots.{Context, actor_of, dot_of, consecutive}
use Rattle.dots.specs.Wire.{dots_bytes}
use Rattle.dots.specs.Entries.{entry}
use Rattle.dots.specs.Message.{Message, add, remove}
use Rattle.clock.specs.Row.{Row}
use Rattle.clock.specs.Clock.{row_at}
use Rattle.keys.specs.Entry.{entry_key, key_entry}
use Rattle.keys.specs.Cases.{R1 as set_r1, B7, B70, B8, k1_entry, K1 as k1}
use Rattle.messages.specs.Message.{message_bytes}
use Rattle.messages.specs.Cases.{Holds, m1, a1}
use Rattle.calls.specs.State.{tombstone_dots}
use Rattle.calls.specs.Sequence.{Input, add_input, remove_input, message_input, list_input, compact_input, Held, started, result_of, answer_of, output, step, run}

abbrev pub dot : ℕ → ℕ → Dot
dot a n = dot_of (actor_of a) n

-- k dots of an actor, from counter n on
abbrev pub dots_from : ℕ → ℕ → ℕ → List Dot
dots_from a n k = consecutive (actor_of a) n k

-- ---- calls, each with 64 bytes past the used store and for the output

abbrev pub room : Bytes
room = replicate 64 0

abbrev pub adds : Context → Input
adds context = add_input B7 (dots_bytes context) room room

abbrev pub removes : Context → Input
removes context = remove_input (dots_bytes context) room room

abbrev pub takes_in : Message → Input
takes_in m = message_input (message_bytes set_r1 m) room

abbrev pub compacts : Input
compacts = compact_input room

-- ---- what is seen of a run

unfoldable pub answers_of : Held → List Input → List ℕ
answers_of h [] = []
answers_of h (i ∷ is) = answer_of h i ∷ answers_of (step h i) is

unfoldable pub last_output : Held → List Input → Bytes
last_output h [] = []
last_output h (i ∷ []) = output (result_of h i)
last_output h (i ∷ j ∷ is) = last_output (step h i) (j ∷ is)

-- every answer, what the last call put out, and what is held and listed at the end
pub record Shown : Type 0 where
  pub answers : List ℕ
  pub put-out : Bytes
  pub row_3 : Row
  pub tombstone : List Dot
  pub used : ℕ
  pub listing : Bytes
  pub labels : ℕ

unfoldable pub shown : Held → List Input → Shown
shown h is =
    let end = run h is in
    let listed = result_of end (list_input room room) in
    record {
      answers = answers_of h is;
      put-out = last_output h is;
      row_3 = row_at end.state.clock.words 3;
      tombstone = tombstone_dots end.state;
      used = end.state.used;
      listing = output listed;
      labels = listed.labels;
    }

-- ---- expected bytes

abbrev pub row : ℕ → ℕ → Row
row base window = record { base = base; window = window }

-- nine bytes of a dot whose counter is below 256
abbrev pub nine : ℕ → ℕ → Bytes
nine a n = a ∷ 0x00 ∷ 0x00 ∷ 0x00 ∷ 0x00 ∷ 0x00 ∷ 0x00 ∷ 0x00 ∷ n ∷ []

-- the listing of B7 with one dot, and of B8
abbrev pub only_b7 : ℕ → ℕ → Bytes
only_b7 a n = 0x02 ∷ 0x42 ∷ 0x37 ∷ 0x00 ∷ 0x01 ∷ nine a n

abbrev pub only_b8 : ℕ → ℕ → Bytes
only_b8 a n = 0x02 ∷ 0x42 ∷ 0x38 ∷ 0x00 ∷ 0x01 ∷ nine a n

-- the messages of A2's second add and of C1's remove
abbrev pub a2 : Bytes
a2 = 0x50 ∷ 0x54 ∷ 0x4C ∷ 0x00 ∷ 0x01 ∷ 0x61 ∷ 0x02 ∷ 0x52 ∷ 0x31 ∷ 0x02 ∷ 0x42 ∷ 0x37 ∷ 0x01 ∷ 0x00 ∷ 0x00 ∷ 0x00 ∷ 0x00 ∷ 0x00 ∷ 0x00 ∷ 0x00 ∷ 0x02 ∷ 0x01 ∷ nine 1 1

abbrev c1 : Bytes
c1 = 0x50 ∷ 0x54 ∷ 0x4C ∷ 0x00 ∷ 0x01 ∷ 0x72 ∷ 0x02 ∷ 0x52 ∷ 0x31 ∷ 0x01 ∷ nine 1 1

-- four removes whose contexts are events 2 to 64 of actor 3
abbrev see2to64 : List Input
see2to64 = takes_in (remove (dots_from 3 2 16)) ∷ takes_in (remove (dots_from 3 18 16)) ∷ takes_in (remove (dots_from 3 34 16)) ∷ takes_in (remove (dots_from 3 50 15)) ∷ []

-- R1's remove, taken in twice
abbrev removed_twice : List Input
removed_twice = takes_in (remove (dot 1 1 ∷ [])) ∷ takes_in (remove (dot 1 1 ∷ [])) ∷ []

pub record StarredCases : Type 0 where
  -- "key of actor 3, counter 258: 02 01 52 31 00 65 42 37 00 03 00 00 00 00 00 00 00 01 02 (19 bytes)", written and read
  pub K1 : (entry_key set_r1 k1_entry ≡ k1) × (key_entry set_r1 k1 ≡ some k1_entry)
  -- "remove with context {(3,258)}: 50 54 4C 00 01 72 02 52 31 01 03 00 00 00 00 00 00 01 02", written and read
  pub M1 : Holds m1
  -- "fresh actor 1 adds B7, empty context: .. Whole listing, no header: 02 42 37 00 01 01 00 00 00 00 00 00 00 01, one label"
  pub A1 : shown (started 1 set_r1) (adds [] ∷ [])
      ≡ record { answers = 0 ∷ []; put-out = a1.bytes; row_3 = row 0 0; tombstone = []; used = 19; listing = only_b7 1 1; labels = 1 }
  -- "then adds B7 with {(1,1)}: dot (1,2), tombstone {(1,1)}, 38 bytes used"
  pub A2 : shown (started 1 set_r1) (adds [] ∷ adds (dot 1 1 ∷ []) ∷ [])
      ≡ record { answers = 0 ∷ 0 ∷ []; put-out = a2; row_3 = row 0 0; tombstone = dot 1 1 ∷ []; used = 38; listing = only_b7 1 2; labels = 1 }
  -- "after compaction 19 used, tombstone empty"
  pub A2-compacted : shown (started 1 set_r1) (adds [] ∷ adds (dot 1 1 ∷ []) ∷ compacts ∷ [])
      ≡ record { answers = 0 ∷ 0 ∷ 0 ∷ []; put-out = []; row_3 = row 0 0; tombstone = []; used = 19; listing = only_b7 1 2; labels = 1 }
  -- "fresh actor 2 takes in remove {(1,1)}, then A1's message: both answer 0, nothing stored, listing empty"
  pub R1 : shown (started 2 set_r1) (takes_in (remove (dot 1 1 ∷ [])) ∷ message_input a1.bytes room ∷ [])
      ≡ record { answers = 0 ∷ 0 ∷ []; put-out = []; row_3 = row 0 0; tombstone = []; used = 0; listing = []; labels = 0 }
  -- "a case with R1's remove taken in twice and then compacted: tombstone {(1,1)}, then empty" (document 02)
  pub R1-twice : shown (started 2 set_r1) removed_twice
      ≡ record { answers = 0 ∷ 0 ∷ []; put-out = []; row_3 = row 0 0; tombstone = dot 1 1 ∷ []; used = 0; listing = []; labels = 0 }
  pub R1-compacted : shown (started 2 set_r1) (removed_twice ++ (compacts ∷ []))
      ≡ record { answers = 0 ∷ 0 ∷ 0 ∷ []; put-out = []; row_3 = row 0 0; tombstone = []; used = 0; listing = []; labels = 0 }
  -- "B7 has dots (1,1) and (2,1); remove {(1,1)}: B7 stays with (2,1)"
  pub C1 : shown (started 1 set_r1) (adds [] ∷ takes_in (add B7 (dot 2 1) []) ∷ removes (dot 1 1 ∷ []) ∷ [])
      ≡ record { answers = 0 ∷ 0 ∷ 0 ∷ []; put-out = c1; row_3 = row 0 0; tombstone = dot 1 1 ∷ []; used = 38; listing = only_b7 2 1; labels = 1 }
  -- "row 3 empty, dot (3,64): accepted, base 0, bit 63"
  pub W1 : shown (started 1 set_r1) (takes_in (add B7 (dot 3 64) []) ∷ [])
      ≡ record { answers = 0 ∷ []; put-out = []; row_3 = row 0 0x8000000000000000; tombstone = []; used = 19; listing = only_b7 3 64; labels = 1 }
  -- "dot (3,65) instead: 10"
  pub W2 : shown (started 1 set_r1) (takes_in (add B7 (dot 3 65) []) ∷ [])
      ≡ record { answers = 10 ∷ []; put-out = []; row_3 = row 0 0; tombstone = []; used = 0; listing = []; labels = 0 }
  -- "dot (3,1) with context {(3,65)}: accepted, base 1, bit 63"
  pub W3 : shown (started 1 set_r1) (takes_in (add B7 (dot 3 1) (dot 3 65 ∷ [])) ∷ [])
      ≡ record { answers = 0 ∷ []; put-out = []; row_3 = row 1 0x8000000000000000; tombstone = []; used = 19; listing = only_b7 3 1; labels = 1 }
  -- "events 2 to 64 seen, event 1 arrives: base 64, window 0"
  pub W4 : shown (run (started 1 set_r1) see2to64) (takes_in (add B7 (dot 3 1) []) ∷ [])
      ≡ record { answers = 0 ∷ []; put-out = []; row_3 = row 64 0; tombstone = []; used = 19; listing = only_b7 3 1; labels = 1 }
  -- "actor 1 with own base 1 gets an add with dot (1,2): 8"
  pub N1 : shown (started 1 set_r1) (adds [] ∷ takes_in (add B7 (dot 1 2) []) ∷ [])
      ≡ record { answers = 0 ∷ 8 ∷ []; put-out = []; row_3 = row 0 0; tombstone = []; used = 19; listing = only_b7 1 1; labels = 1 }
  -- "keys of B7, B70, B8 of one actor ascend in that order"
  pub O1 : (a b c : ℕ) → ascends compare_bytes (entry_key set_r1 (entry B7 (dot 1 a)) ∷ entry_key set_r1 (entry B70 (dot 1 b)) ∷ entry_key set_r1 (entry B8 (dot 1 c)) ∷ []) ≡ true
