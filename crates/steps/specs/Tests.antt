-- What the steps test and count on: tests of the table as the code groups them, and the changes that they make.
use Rattle.std.specs.Prelude.{ℕ, ◌+◌, ◌*◌, ◌%◌, ◌≤◌, Bool, true, false, not, cond, ◌&&◌, List, [], ◌∷◌, ◌≡◌, eqb, leb, ltb, length, take, Result, Ok, Err}
use Rattle.std.proofs.Math.Dec.{compare_is_eq}
use Rattle.wire.specs.Lists.{keep, member, insert, insert_all}
use Rattle.wire.specs.Bytes.{Bytes}
use Rattle.dots.specs.Answer.{number_of, Refusals, first_of}
use Rattle.dots.specs.declared.Answer.{Answer}
use Rattle.dots.specs.declared.Answer.TheVariants.{Done, Damaged, BadName, BadDot, OwnAhead, CounterEnd, TooFar, TombstoneFull, StoreFull, OutputShort}
use Rattle.dots.specs.Wire.{dots_bytes, dots_of, dot_size, tombstone_size}
use Rattle.dots.specs.declared.Actor.{Actor}
use Rattle.dots.specs.declared.Dot.{Dot}
use Rattle.dots.specs.Names.{Label, name_ok, label_ok}
use Rattle.dots.specs.Entries.{entry}
use Rattle.dots.specs.Dots.{Context, dot_of, dot_ok, compare_actors, compare_dots, ascending_dots, context_most, tombstone_most}
use Rattle.clock.specs.Row.{window_width}
use Rattle.clock.specs.Clock.{sees, row_at, join_all, near}
use Rattle.store.specs.Place.{inserted_entry, LabelPassed}
use Rattle.replica.specs.Machine.{apply, if_unseen}
use Rattle.store.specs.Valid.{store_most}
use Rattle.calls.specs.declared.State.{State}
use Rattle.steps.specs.declared.Lent.{Lent}
use Rattle.calls.specs.declared.Tombstone.{Tombstone}
use Rattle.calls.specs.declared.Outcome.{Outcome}
use Rattle.calls.specs.State.{clock_model, Machine, name_of, tombstone_dots, view, Sized}
use Rattle.calls.specs.Damage.{damaged}
use Rattle.calls.specs.Effect.{padded, tombstone_of, state_of, store_of}
use Rattle.keys.specs.Key.{label_key_fixed}
use Rattle.judging.specs.Judging.{state_ok}

-- what a table's answer lets a call do: to go on, or to answer it
abbrev pub passed : Answer → Result Unit Answer
passed a = cond (eqb (number_of a) 0) (Ok tt) (Err a)

-- a dot of the own actor above the own base
abbrev pub ahead_of : Actor → ℕ → Dot → Bool
ahead_of own base d = compare_is_eq (compare_actors d.actor own) && not (leb d.counter.number base)

-- a dot that was seen and is not in the tombstone
abbrev pub joins_tombstone : List ℕ → List Dot → Dot → Bool
joins_tombstone words tombstone d = sees words d && not (member compare_dots d tombstone)

-- the first dots in a tombstone's bytes
abbrev pub held_dots : Bytes → ℕ → List Dot
held_dots bytes count = dots_of (take (count * dot_size) bytes)

-- a tombstone with a dot, and with the dots of a context, that were seen
abbrev pub with_dot : List ℕ → Dot → List Dot → List Dot
with_dot words d tombstone = cond (sees words d) (insert compare_dots d tombstone) tombstone

abbrev pub with_seen : List ℕ → Context → List Dot → List Dot
with_seen words context tombstone = insert_all compare_dots (keep (sees words) context) tombstone

-- how many dots of a context join a tombstone
abbrev pub Grows : List ℕ → List Dot → Bytes → ℕ → Type 0
Grows words tombstone context r = (r ≡ length (keep (joins_tombstone words tombstone) (dots_of context))) × (r * dot_size ≤ length context)

-- the dot that an own add takes, and a state's tombstone with the dots of a context that were seen
abbrev pub own_next : State → Dot
own_next st = dot_of st.actor ((row_at st.clock.words st.actor.number).base + 1)

abbrev pub next_tombstone : State → Context → List Dot
next_tombstone st context = with_seen st.clock.words context (tombstone_dots st)

-- what the code counts on: the tombstone of an undamaged state, and a context
pub record Tombstoned (bytes : Bytes) (count : ℕ) : Type 0 where
  pub size : length bytes ≡ tombstone_size
  pub few : count ≤ tombstone_most
  pub ascends : ascending_dots (dots_of (take (count * dot_size) bytes)) ≡ true

-- the same, with nothing but zeros past its dots
pub record Padded (bytes : Bytes) (count : ℕ) : Type 0 where
  pub tomb : Tombstoned bytes count
  pub zeros : bytes ≡ padded tombstone_size (dots_bytes (dots_of (take (count * dot_size) bytes)))

pub record ContextFits (context : Bytes) : Type 0 where
  pub whole : length context % dot_size ≡ 0
  pub short : length context ≤ dot_size * context_most
  pub ascends : ascending_dots (dots_of context) ≡ true

-- the refusals that are tested on any arguments, and those that are tested where none of these holds
abbrev pub early_refusals : Bool → Bool → Bool → Bool → Bool → Refusals
early_refusals damage name dot ahead end = (damage, Damaged) ∷ (name, BadName) ∷ (dot, BadDot) ∷ (ahead, OwnAhead) ∷ (end, CounterEnd) ∷ []

abbrev pub late_refusals : Bool → Bool → Bool → Bool → Refusals
late_refusals far tombstone store output = (far, TooFar) ∷ (tombstone, TombstoneFull) ∷ (store, StoreFull) ∷ (output, OutputShort) ∷ []

-- the later ones of an add and of a remove, own or taken in, over the clock's words and the tombstone's dots; short says whether the output is shorter than
-- the message
abbrev pub add_tests : List ℕ → List Dot → Dot → Context → Bool → Bool → Refusals
add_tests words tombstone d context crowded short =
    late_refusals (not (near window_width words (d ∷ context))) (ltb tombstone_most (length (with_seen words context tombstone))) (not (sees words d) && crowded) short

abbrev pub remove_tests : List ℕ → List Dot → Context → Bool → Refusals
remove_tests words tombstone context short = late_refusals (not (near window_width words context)) (ltb tombstone_most (length (with_seen words context tombstone))) false short

-- those of a state, for a store of so many bytes
abbrev pub add_late : State → ℕ → Label → Dot → Context → Bool → Refusals
add_late st size label d context short =
    add_tests st.clock.words (tombstone_dots st) d context (ltb size (st.used + (st.name.len + length label + label_key_fixed))) short

abbrev pub remove_late : State → Context → Bool → Refusals
remove_late st context short = remove_tests st.clock.words (tombstone_dots st) context short

-- the answer of a call that is lent a store and an output of these lengths, where it is told whether refusal 1 holds
abbrev pub Answers : State → Lent → (Bytes → Bytes → Refusals) → Result Unit Answer → Type 0
Answers st lent refusals r = (store out : Bytes) → length store ≡ lent.store → length out ≡ lent.out → lent.damage ≡ damaged st store → r ≡ passed (first_of (refusals store out))

-- some store is lent of which this holds
pub record Told (st : State) (lent : Lent) : Type 0 where
  pub store : Bytes
  pub sized : Sized st
  pub size : length store ≡ lent.store
  pub tells : lent.damage ≡ damaged st store

-- a state with another clock, tombstone and used length
abbrev pub state_with : State → List ℕ → Tombstone → ℕ → State
state_with st words tombstone used = record { actor = st.actor; name = st.name; clock = record { words = words }; tombstone = tombstone; used = used }

-- ---- adds

-- what the later refusals of an add count on
pub record MayOffer (st : State) (label context : Bytes) (d : Dot) : Type 0 where
  pub state-ok : state_ok st ≡ true
  pub small : st.used ≤ store_most
  pub labelled : label_ok label ≡ true
  pub fits : ContextFits context
  pub dot-ok : dot_ok d ≡ true
  pub new : member compare_dots d (dots_of context) ≡ false

-- what joining a context and one more dot counts on
pub record MayJoin (st : State) (context : Bytes) (d : Dot) : Type 0 where
  pub state-ok : state_ok st ≡ true
  pub fits : ContextFits context
  pub dot-ok : dot_ok d ≡ true
  pub new : member compare_dots d (dots_of context) ≡ false
  pub close : near window_width st.clock.words (d ∷ dots_of context) ≡ true
  pub few : length (next_tombstone st (dots_of context)) ≤ tombstone_most

-- what applying an add counts on
pub record MayApply (st : State) (store label context : Bytes) (d : Dot) : Type 0 where
  pub whole : damaged st store ≡ false
  pub joins : MayJoin st context d
  pub labelled : label_ok label ≡ true
  pub room_for : sees st.clock.words d ≡ false → st.used + (st.name.len + length label + label_key_fixed) ≤ length store
  pub sized : Sized st

-- what applying a context alone counts on
pub record MayRemove (st : State) (context : Bytes) : Type 0 where
  pub state-ok : state_ok st ≡ true
  pub fits : ContextFits context
  pub close : near window_width st.clock.words (dots_of context) ≡ true
  pub few : length (next_tombstone st (dots_of context)) ≤ tombstone_most
  pub sized : Sized st

-- ---- what applying changes

-- these bytes are a tombstone of these dots
abbrev pub TombstoneIs : Bytes → ℕ → List Dot → Type 0
TombstoneIs bytes count ds = Padded bytes count × (held_dots bytes count ≡ ds)

-- what a tombstone counts on where it takes a context
abbrev pub TombstoneTakes : List ℕ → Bytes → ℕ → Bytes → Type 0
TombstoneTakes words bytes count context = Padded bytes count × ContextFits context × (length (with_seen words (dots_of context) (held_dots bytes count)) ≤ tombstone_most)

-- the clock has joined these dots, and the tombstone has those of the context that the clock had seen
pub record Joined (words : List ℕ) (tombstone : Tombstone) (context : Bytes) (ds : List Dot) (words' : List ℕ) (tombstone' : Tombstone) : Type 0 where
  pub clock-is : words' ≡ join_all window_width words ds
  pub tombstone-is : TombstoneIs tombstone'.bytes tombstone'.count (with_seen words (dots_of context) (held_dots tombstone.bytes tombstone.count))

-- what the key of a label counts on that is put into a store; the keys of the label do not stand in its first `low` bytes
pub record EntryFits (st : State) (store label : Bytes) (low : ℕ) : Type 0 where
  pub short : st.name.len ≤ length st.name.bytes
  pub named : name_ok (name_of st) ≡ true
  pub labelled : label_ok label ≡ true
  pub room_for : st.used + (st.name.len + length label + label_key_fixed) ≤ length store
  pub front : LabelPassed (name_of st) label (take st.used store) low

abbrev pub MayStore : State → Bool → Bytes → Bytes → ℕ → Type 0
MayStore st seen store label low = seen ≡ false → EntryFits st store label low

-- the key of an add was put in its place, unless its dot was seen
pub record Stored (st : State) (seen : Bool) (store label : Bytes) (d : Dot) (store' : Bytes) (used' : ℕ) : Type 0 where
  pub used-is : used' ≡ cond seen st.used (st.used + (st.name.len + length label + label_key_fixed))
  pub store_is : store' ≡ cond seen store (inserted_entry (name_of st) store st.used (entry label d))

-- the state after a context alone
abbrev pub removed_state : State → Context → State
removed_state st context = state_with st (join_all window_width st.clock.words context) (tombstone_of (next_tombstone st context)) st.used

-- the machine's state after an add
abbrev pub applied : State → Bytes → Label → Context → Dot → Machine
applied st store label context d = apply clock_model (view st store) (if_unseen clock_model (view st store) label d) context

-- state and store are what a machine's state is written back as
abbrev pub WrittenBack : State → Bytes → Machine → Bytes → State → Type 0
WrittenBack st store m store' r = (r ≡ state_of st m) × (store' ≡ store_of st store m)

abbrev pub Applied : State → Bytes → Label → Bytes → Dot → Bytes → State → Type 0
Applied st store label context d store' r = WrittenBack st store (applied st store label (dots_of context) d) store' r

-- the outcome of a call that left this state and put nothing out
abbrev pub done_with : State → Outcome
done_with st = record { answer = Done; state = st; written = 0 }
