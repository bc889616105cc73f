-- The calls on bytes: the first refusal that holds; else the machine's effect on the entries read from the store, written back.
use Rattle.std.specs.Prelude.{ℕ, ◌+◌, Bool, false, not, cond, ◌&&◌, ◌||◌, List, [], ◌∷◌, ◌++◌, eqb, length}
use Rattle.std.proofs.Math.Dec.{compare_is_eq}
use Rattle.wire.specs.Lists.{is_lt, keep}
use Rattle.wire.specs.Bytes.{Bytes, compare_bytes}
use Rattle.dots.specs.Answer.{number_of, Refusals, first_of}
use Rattle.dots.specs.declared.Answer.{Answer}
use Rattle.dots.specs.declared.Answer.TheVariants.{Done, Damaged, BadName, BadDot, OtherSet, OwnAhead, CounterEnd, TooFar, TombstoneFull, StoreFull, OutputShort}
use Rattle.dots.specs.declared.Dot.{Dot}
use Rattle.dots.specs.Names.{Name, name_most}
use Rattle.dots.specs.Dots.{actor_of}
use Rattle.dots.specs.Wire.{dots_of}
use Rattle.dots.specs.Entries.{Entry, entry, Line}
use Rattle.dots.specs.Message.{Message, add, remove, offered_of}
use Rattle.messages.specs.Message.{message_bytes}
use Rattle.messages.specs.Read.{name_of as message_name, message_of, read_refusals}
use Rattle.store.specs.Cut.{store_bytes}
use Rattle.listing.specs.Listing.{line_size, listing_bytes}
use Rattle.replica.specs.Page.{page_after, page_fits, page_more}
use Rattle.replica.specs.Read.{read_of, merged_lines}
use Rattle.replica.specs.Machine.{Call, own_add, own_remove, take_in, compact, effect, next_dot, if_unseen, listing, found}
use Rattle.calls.specs.declared.State.{State}
use Rattle.calls.specs.declared.SetUp.{SetUp}
use Rattle.calls.specs.State.{clock_model, Machine, name_of, entries, view}
use Rattle.calls.specs.Damage.{damaged}
use Rattle.calls.specs.Effect.{padded, tombstone_of, state_of, store_of, put_out}
use Rattle.calls.specs.Refusals.{bad_actor, bad_name, bad_label, bad_add_label, bad_start, bad_context, has_dot, output_short, other_set, own_ahead, counter_end, too_far, tombstone_full, store_full}
use Rattle.clock.specs.Clock.{zero_clock}

-- ---- set-up

abbrev pub set_up_refusals : ℕ → Name → Refusals
set_up_refusals actor name = (bad_actor actor || bad_name name, BadName) ∷ []

-- "an all-zero clock, empty tombstone and used length 0"
abbrev pub fresh_state : ℕ → Name → State
fresh_state actor name = record {
  actor = actor_of actor;
  name = record { bytes = padded name_most name; len = length name };
  clock = record { words = zero_clock };
  tombstone = tombstone_of [];
  used = 0;
}

-- "A refused set-up gives a state that is zero throughout, actor 0 included"
unfoldable pub set_up : ℕ → Name → SetUp
set_up actor name =
    let answer = first_of (set_up_refusals actor name) in
    record { answer = answer; state = cond (eqb (number_of answer) 0) (fresh_state actor name) (fresh_state 0 []) }

-- ---- what a call leaves

pub record Result : Type 0 where
  pub answer : Answer
  pub state : State
  -- the lent store and the output buffer, whole
  pub store : Bytes
  pub out : Bytes
  -- bytes written, labels listed
  pub written : ℕ
  pub labels : ℕ

-- "Every refusal changes no state and no lent byte; its counts ... are 0"
abbrev pub refused : State → Bytes → Bytes → Answer → Result
refused st store out answer = record { answer = answer; state = st; store = store; out = out; written = 0; labels = 0 }

-- the first refusal that holds, else what the call does
abbrev pub decided : State → Bytes → Bytes → Refusals → Result → Result
decided st store out rs done = cond (eqb (number_of (first_of rs)) 0) done (refused st store out (first_of rs))

-- the machine's effect, written back, and a message put out
abbrev pub performed : State → Bytes → Bytes → Call → Bytes → Result
performed st store out call message =
    let m = effect clock_model (view st store) call in
    record { answer = Done; state = state_of st m; store = store_of st store m; out = put_out message out; written = length message; labels = 0 }

-- ---- own add

module _ (st : State) (store label context out : Bytes) where
  -- "take own base + 1 as the dot"
  abbrev pub add_dot : Dot
  add_dot = next_dot clock_model (view st store)

  abbrev pub add_written : Bytes
  add_written = message_bytes (name_of st) (add label add_dot (dots_of context))

  abbrev pub own_add_refusals : Refusals
  own_add_refusals =
      (damaged st store, Damaged)
      ∷ (bad_add_label label, BadName)
      ∷ (bad_context context || has_dot add_dot (dots_of context), BadDot)
      ∷ (own_ahead st store (dots_of context), OwnAhead)
      ∷ (counter_end st store, CounterEnd)
      ∷ (too_far st store (add_dot ∷ dots_of context), TooFar)
      ∷ (tombstone_full st store (own_add label (dots_of context)), TombstoneFull)
      ∷ (store_full st store (entry label add_dot ∷ []), StoreFull)
      ∷ (output_short out add_written, OutputShort)
      ∷ []

  abbrev pub own_add_done : Result
  own_add_done = performed st store out (own_add label (dots_of context)) add_written

  unfoldable pub own_add_result : Result
  own_add_result = decided st store out own_add_refusals own_add_done

-- ---- own remove

module _ (st : State) (store context out : Bytes) where
  abbrev pub remove_written : Bytes
  remove_written = message_bytes (name_of st) (remove (dots_of context))

  abbrev pub own_remove_refusals : Refusals
  own_remove_refusals =
      (damaged st store, Damaged)
      ∷ (bad_context context, BadDot)
      ∷ (own_ahead st store (dots_of context), OwnAhead)
      ∷ (too_far st store (dots_of context), TooFar)
      ∷ (tombstone_full st store (own_remove (dots_of context)), TombstoneFull)
      ∷ (output_short out remove_written, OutputShort)
      ∷ []

  abbrev pub own_remove_done : Result
  own_remove_done = performed st store out (own_remove (dots_of context)) remove_written

  unfoldable pub own_remove_result : Result
  own_remove_result = decided st store out own_remove_refusals own_remove_done

-- ---- taking in

-- the entry that must be stored: that of "an add whose dot was not seen when the call began"
abbrev pub to_store : Machine → Message → List Entry
to_store m (add label dot context) = if_unseen clock_model m label dot
to_store m (remove context) = []

module _ (st : State) (store message : Bytes) where
  abbrev pub take_in_refusals : Refusals
  take_in_refusals =
      (damaged st store, Damaged)
      ∷ read_refusals message
      ++ ((other_set st store (message_name message), OtherSet)
      ∷ (own_ahead st store (offered_of (message_of message)), OwnAhead)
      ∷ (too_far st store (offered_of (message_of message)), TooFar)
      ∷ (tombstone_full st store (take_in (message_of message)), TombstoneFull)
      ∷ (store_full st store (to_store (view st store) (message_of message)), StoreFull)
      ∷ [])

  abbrev pub take_in_done : Result
  take_in_done = performed st store [] (take_in (message_of message)) []

  unfoldable pub take_in_result : Result
  take_in_result = decided st store [] take_in_refusals take_in_done

-- ---- listing

-- lines put out, nothing else changed
abbrev pub lines_put : State → Bytes → Bytes → List Line → Result
lines_put st store out ls = record { answer = Done; state = st; store = store; out = put_out (listing_bytes ls) out; written = length (listing_bytes ls); labels = length ls }

module _ (st : State) (store out : Bytes) where
  abbrev pub listed : List Line
  listed = listing clock_model (view st store)

  abbrev pub list_refusals : Refusals
  list_refusals = (damaged st store, Damaged) ∷ (output_short out (listing_bytes listed), OutputShort) ∷ []

  abbrev pub list_done : Result
  list_done = lines_put st store out listed

  unfoldable pub list_result : Result
  list_result = decided st store out list_refusals list_done

-- ---- page: "starting after a named label (an empty one means the front), write as many whole entries as fit and say whether more follow"

module _ (st : State) (store start out : Bytes) where
  abbrev pub page_lines : List Line
  page_lines = page_after line_size (listing clock_model (view st store)) start (length out)

  -- "Any other starting label that breaks its rule is 5", "If the first entry doesn't fit, answer 13."
  abbrev pub page_refusals : Refusals
  page_refusals =
      (damaged st store, Damaged)
      ∷ (bad_start start, BadName)
      ∷ (not (page_fits line_size (listing clock_model (view st store)) start (length out)), OutputShort)
      ∷ []

  abbrev pub page_done : Result
  page_done = lines_put st store out page_lines

  unfoldable pub page_result : Result
  page_result = decided st store out page_refusals page_done

  -- whether more follow; a refused page says no
  unfoldable pub more_follow : Bool
  more_follow = eqb (number_of (first_of page_refusals)) 0 && page_more line_size (listing clock_model (view st store)) start (length out)

-- ---- merged read: "A terminal asks two racks and wants one listing"

-- "A label's dot is kept if both list it under that label, or if one lists it and the other's clock hasn't seen it."
abbrev pub merge_lines : State → Bytes → State → Bytes → List Line
merge_lines st store st' store' = merged_lines clock_model (read_of clock_model (view st store)) (read_of clock_model (view st' store'))

module _ (st : State) (store : Bytes) (st' : State) (store' out : Bytes) where
  -- "Either state damaged: 1, then different sets: 7, then 13."
  abbrev pub merge_refusals : Refusals
  merge_refusals =
      (damaged st store || damaged st' store', Damaged)
      ∷ (other_set st store (name_of st'), OtherSet)
      ∷ (output_short out (listing_bytes (merge_lines st store st' store')), OutputShort)
      ∷ []

  abbrev pub merge_done : Result
  merge_done = lines_put st store out (merge_lines st store st' store')

  -- "No controller's state changes.": the first one's state and store stand in the result as they are, the second's are only lent for reading
  unfoldable pub merge_result : Result
  merge_result = decided st store out merge_refusals merge_done

-- ---- lookup

-- a stretch of the lent store, and whether the listing has the label
pub record Looked : Type 0 where
  pub answer : Answer
  pub start : ℕ
  pub end : ℕ
  pub listed : Bool

-- a refusal's stretch is "the empty one at the store's front"
abbrev pub not_looked : Answer → Looked
not_looked answer = record { answer = answer; start = 0; end = 0; listed = false }

module _ (st : State) (store label : Bytes) where
  -- the entries of lower labels and of this one, "dead ones included", and how many bytes their keys take
  abbrev pub lower_labels : List Entry
  lower_labels = keep (λ (e : Entry). is_lt (compare_bytes e.label label)) (entries st store)

  abbrev pub same_label : List Entry
  same_label = keep (λ (e : Entry). compare_is_eq (compare_bytes e.label label)) (entries st store)

  abbrev pub bytes_of : List Entry → ℕ
  bytes_of es = length (store_bytes (name_of st) es)

  abbrev pub lookup_refusals : Refusals
  lookup_refusals = (damaged st store, Damaged) ∷ (bad_label label, BadName) ∷ []

  abbrev pub lookup_done : Looked
  lookup_done = record {
    answer = Done;
    start = bytes_of lower_labels;
    end = bytes_of lower_labels + bytes_of same_label;
    listed = found clock_model (view st store) label;
  }

  unfoldable pub lookup_result : Looked
  lookup_result = cond (eqb (number_of (first_of lookup_refusals)) 0) lookup_done (not_looked (first_of lookup_refusals))

-- ---- compaction

module _ (st : State) (store : Bytes) where
  abbrev pub compact_refusals : Refusals
  compact_refusals = (damaged st store, Damaged) ∷ []

  abbrev pub compact_done : Result
  compact_done = performed st store [] compact []

  unfoldable pub compact_result : Result
  compact_result = decided st store [] compact_refusals compact_done
