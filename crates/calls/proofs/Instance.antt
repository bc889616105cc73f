-- The calls on bytes are a controller of the machine over the clock of 16 rows. Assumes nothing.
use Prim.Native.Nat.{ℕ}
use mathlib.Core.Path.{◌≡◌, refl, sym, ap, ◌∙◌, subst}
use mathlib.Core.Bool.{Bool, true, false, not}
use mathlib.Core.List.Memᴰ
use mathlib.Core.List.{List, [], ◌∷◌, ◌++◌, map}
use native.Mathlib.Omega.{arith}
use lib.Dec.{T, eqb}
use lib.ListN.{length, take, drop}
use lib.Seq.{take_at, take-append_seam}
use borrow.Author.Tests.{eqb-true, eqb-false}
use Rattle.wire.specs.Lists.{◌∈◌}
use Rattle.wire.specs.Bytes.{Bytes}
use Rattle.wire.proofs.Tests.{both_right, pass}
use Rattle.dots.specs.Answer.{number_of, Refusals}
use Rattle.dots.specs.Dots.{actor_ok}
use Rattle.dots.specs.Entries.{Line}
use Rattle.dots.specs.Message.{Message, add}
use Rattle.dots.specs.Wire.{dots_of}
use Rattle.clock.specs.Clock.{unused}
use Rattle.messages.specs.Read.{name_of as message_name, message_of}
use Rattle.messages.proofs.RoundTrip.{read-written}
use Rattle.listing.specs.Listing.{listing_bytes}
use Rattle.replica.specs.Machine.{Controller, next_dot, effect, exchanged, allowed, messages_of, reads, compact, compacted, handed_off}
use Rattle.calls.specs.declared.State.{State}
use Rattle.calls.specs.State.{clock_model, name_of, used_part, view}
use Rattle.calls.specs.Effect.{state_of, put_out}
use Rattle.calls.specs.Calls.{Result, decided, lines_put, performed, add_written, add_dot, remove_written}
use Rattle.calls.specs.ImageRead.{free_of}
use Rattle.calls.specs.HandedOff.{with_actor}
use Rattle.calls.specs.Sequence.{Input, add_input, remove_input, message_input, read_input, compact_input, hand_off_input, Held, result_of, answer_of, held_after, step, output, call_of, message_bytes_of}
use Rattle.calls.proofs.Reading.{view-past, view_of, performed-sized, performed-view}
use Rattle.calls.proofs.Decided.{decided-done, OnlyReads, only_reads, Sized, reading_keeps, refused_keeps}
use Rattle.calls.proofs.Validity.{compacted-rules}
use Rattle.calls.proofs.Clauses.{view-rules}
use Rattle.calls.proofs.Applied.{applied-view, applied-sized}
use Rattle.calls.proofs.Accepted.{add-accepted, remove-accepted, compact-accepted}
use Rattle.calls.proofs.TakenIn.{take_in_accepted}
use Rattle.calls.proofs.TakingOver.{hand_off_accepted}

-- the messages that a call takes in or writes, as the machine has them
abbrev pub messages : Held → Input → List Message
messages h i = map message_of (message_bytes_of h i)

pub record IsMachine (h : Held) (i : Input) : Type 0 where
  pub does : view_of (step h i) ≡ effect clock_model (view_of h) (call_of i)
  pub sized-after : Sized (step h i)
  pub name-after : name_of (step h i).state ≡ name_of h.state
  pub exchanges : messages h i ≡ exchanged clock_model (view_of h) (call_of i)
  pub guarded : T (allowed clock_model (view_of h) (call_of i))
  -- its messages are of this set
  pub named : (s : Bytes) → s ∈ message_bytes_of h i → message_name s ≡ name_of h.state

-- what is put out is the message
pub put-out : (message out : Bytes) → take (length message) (message ++ drop (length message) out) ≡ message
put-out message out = take-append_seam message (drop (length message) out)

-- of a call that puts lines out, their bytes and their number
pub lines-put : (st : State) (store out : Bytes) (rs : Refusals) (ls : List Line) → number_of (decided st store out rs (lines_put st store out ls)).answer ≡ 0
    → (output (decided st store out rs (lines_put st store out ls)) ≡ listing_bytes ls) × ((decided st store out rs (lines_put st store out ls)).labels ≡ length ls)
lines-put st store out rs ls acc =
    let d = (decided-done st store out rs (lines_put st store out ls) refl acc).0 in
    (ap output d ∙ put-out (listing_bytes ls) out, ap (λ (r : Result). r.labels) d)

module _ (h : Held) (sized : Sized h) (past : Bytes) where
  pub same_view : view h.state (h.used ++ past) ≡ view_of h
  same_view = view-past h.state h.used past sized.used-size

  -- a call that did its work
  works : (i : Input) (out message : Bytes) → result_of h i ≡ performed h.state (h.used ++ past) out (call_of i) message
      → view_of (held_after (performed h.state (h.used ++ past) out (call_of i) message)) ≡ effect clock_model (view h.state (h.used ++ past)) (call_of i)
      → Sized (held_after (performed h.state (h.used ++ past) out (call_of i) message))
      → T (allowed clock_model (view h.state (h.used ++ past)) (call_of i))
      → messages h i ≡ exchanged clock_model (view_of h) (call_of i)
      → ((s : Bytes) → s ∈ message_bytes_of h i → message_name s ≡ name_of h.state)
      → IsMachine h i
  unfolding state_of
  works i out message done viewed sizes allows exchanges named = record {
    does = ap (λ r. view_of (held_after r)) done ∙ viewed ∙ ap (λ m. effect clock_model m (call_of i)) same_view;
    sized-after = subst (λ r. Sized (held_after r)) (sym done) sizes;
    name-after = ap (λ (r : Result). name_of r.state) done;
    exchanges = exchanges;
    guarded = subst (λ m. T (allowed clock_model m (call_of i))) same_view allows;
    named = named;
  }

  add_is : (label context out : Bytes) → answer_of h (add_input label context past out) ≡ 0 → IsMachine h (add_input label context past out)
  unfolding result_of call_of message_bytes_of messages_of
  add_is label context out acc =
      let store : Bytes = h.used ++ past in
      let w = add-accepted h.state store label context out acc in
      let message : Bytes = add_written h.state store label context out in
      let sent : Message = add label (add_dot h.state store label context out) (dots_of context) in
      let read = read-written (name_of h.state) sent w.message-ok in
      let put = ap output w.result_is ∙ put-out message out in
      works (add_input label context past out) out message w.result_is (applied-view h.state store _ w.applies out message)
      (applied-sized h.state store _ w.applies sized.arrays out message) w.applies.allows
      (ap (λ s. message_of s ∷ []) put ∙ ap (λ m. m ∷ []) read.2 ∙ ap (λ v. add label (next_dot clock_model v) (dots_of context) ∷ []) same_view)
      (λ s k. ap message_name (Memᴰ.eq_of_singleton k ∙ put) ∙ read.1)

  remove-is : (context out : Bytes) → answer_of h (remove_input context past out) ≡ 0 → IsMachine h (remove_input context past out)
  unfolding result_of call_of message_bytes_of messages_of
  remove-is context out acc =
      let store : Bytes = h.used ++ past in
      let w = remove-accepted h.state store context out acc in
      let message : Bytes = remove_written h.state store context out in
      let read = read-written (name_of h.state) _ w.message-ok in
      let put = ap output w.result_is ∙ put-out message out in
      works (remove_input context past out) out message w.result_is (applied-view h.state store _ w.applies out message)
      (applied-sized h.state store _ w.applies sized.arrays out message) w.applies.allows
      (ap (λ s. message_of s ∷ []) put ∙ ap (λ m. m ∷ []) read.2)
      (λ s k. ap message_name (Memᴰ.eq_of_singleton k ∙ put) ∙ read.1)

  take_in_is : (message : Bytes) → answer_of h (message_input message past) ≡ 0 → IsMachine h (message_input message past)
  unfolding result_of call_of message_bytes_of messages_of
  take_in_is message acc =
      let store : Bytes = h.used ++ past in
      let w = take_in_accepted h.state store message acc in
      works (message_input message past) [] [] w.result_is (applied-view h.state store _ w.applies [] []) (applied-sized h.state store _ w.applies sized.arrays [] []) w.applies.allows refl
      (λ s k. ap message_name (Memᴰ.eq_of_singleton k) ∙ w.named)

  compact-is : answer_of h (compact_input past) ≡ 0 → IsMachine h (compact_input past)
  unfolding result_of call_of message_bytes_of messages_of effect allowed compacted view
  compact-is acc =
      let store : Bytes = h.used ++ past in
      let w = compact-accepted h.state store acc in
      let rules = compacted-rules (view h.state store) (view-rules h.state store w.whole) in
      works (compact_input past) [] [] w.result_is (performed-view h.state store [] compact [] refl rules)
      (performed-sized h.state store [] compact [] sized.arrays sized.arrays.words_size (omega arith)) tt refl (λ s k. absurd (Memᴰ.not-nil k))

  -- the loaded box holds what the writer held, under its own actor
  hand_off_is : (out : Bytes) (actor : ℕ) (room : Bytes) → answer_of h (hand_off_input past out actor room) ≡ 0 → IsMachine h (hand_off_input past out actor room)
  unfolding result_of call_of message_bytes_of messages_of effect allowed handed_off view free_of
  hand_off_is out actor room acc =
      let st : State = h.state in
      let w = hand_off_accepted st (h.used ++ past) out actor room sized.arrays acc in
      let used : used_part st (h.used ++ past) ≡ h.used = take_at h.used past st.used sized.used-size in
      let after : step h (hand_off_input past out actor room) ≡ record { state = with_actor actor st; used = h.used } =
      ap held_after w.result_is ∙ ap (λ s. record { state = with_actor actor st; used = take st.used (put_out s room) }) used
      ∙ ap (λ s. record { state = with_actor actor st; used = s }) (take_at h.used (drop (length h.used) room) st.used sized.used-size) in
      record {
        does = ap view_of after;
        sized-after = subst Sized (sym after) (record { used-size = sized.used-size; arrays = record { name-size = sized.arrays.name-size; words_size = sized.arrays.words_size; tombstone-size = sized.arrays.tombstone-size } });
        name-after = ap (λ (k : Held). name_of k.state) after;
        exchanges = refl;
        guarded = pass (both_right (not (eqb actor st.actor.number)) (unused st.clock.words actor) (both_right (actor_ok actor) _ w.free));
        named = λ s k. absurd (Memᴰ.not-nil k);
      }

-- a call that only reads leaves all as it was, and exchanges nothing
reading_is : (h : Held) → Sized h → (i : Input) → OnlyReads h i → call_of i ≡ reads → message_bytes_of h i ≡ [] → IsMachine h i
unfolding effect messages_of allowed
reading_is h sized i r call none =
    let same = reading_keeps h sized i r in
    record {
      does = ap view_of same ∙ ap (effect clock_model (view_of h)) (sym call);
      sized-after = subst Sized (sym same) sized;
      name-after = ap (λ (k : Held). name_of k.state) same;
      exchanges = ap (map message_of) none ∙ ap (exchanged clock_model (view_of h)) (sym call);
      guarded = subst (λ c. T (allowed clock_model (view_of h) c)) (sym call) tt;
      named = λ s k. absurd (Memᴰ.not-nil (subst (λ ss. s ∈ ss) none k));
    }

pub is-machine : (h : Held) → Sized h → (i : Input) → answer_of h i ≡ 0 → IsMachine h i
unfolding call_of message_bytes_of
is-machine h sized (add_input label context past out) acc = add_is h sized past label context out acc
is-machine h sized (remove_input context past out) acc = remove-is h sized past context out acc
is-machine h sized (message_input message past) acc = take_in_is h sized past message acc
is-machine h sized (read_input reading past) acc = reading_is h sized (read_input reading past) (only_reads h reading past) refl refl
is-machine h sized (compact_input past) acc = compact-is h sized past acc
is-machine h sized (hand_off_input past out actor room) acc = hand_off_is h sized past out actor room acc

pub step-sized : (h : Held) → Sized h → (i : Input) → Sized (step h i)
step-sized h sized i = by (eqb (answer_of h i) 0) refl
  where
    by : (b : Bool) → eqb (answer_of h i) 0 ≡ b → Sized (step h i)
    by true e = (is-machine h sized i (eqb-true _ 0 e)).sized-after
    by false e = subst Sized (sym (refused_keeps h sized i (eqb-false _ 0 e))) sized

abbrev pub SizedHeld : Type 0
SizedHeld = (h : Held) × Sized h

abbrev pub stepped : SizedHeld → Input → SizedHeld
stepped x i = (step x.0 i, step-sized x.0 x.1 i)

abbrev pub controller : Controller clock_model
controller = record {
  Held = SizedHeld;
  Input = Input;
  answer = λ x i. answer_of x.0 i;
  step = stepped;
  message = λ x i. messages x.0 i;
  view = λ x. view_of x.0;
  call_of = call_of;
  does = λ x i acc. (is-machine x.0 x.1 i acc).does;
  exchanges = λ x i acc. (is-machine x.0 x.1 i acc).exchanges;
  refuses = λ x i ref. ap view_of (refused_keeps x.0 x.1 i ref);
  guarded = λ x i acc. (is-machine x.0 x.1 i acc).guarded;
}
