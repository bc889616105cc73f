-- Refused calls change nothing, and neither do removes with no dots. Assumes nothing.
use Prim.Native.Nat.{ℕ, ◌-◌, ◌*◌, ◌≤◌, max}
use mathlib.Core.Path.{◌≡◌, refl, ap, ◌∙◌}
use mathlib.Core.Bool.{Bool, true, false, cond}
use mathlib.Core.List.{[], append-nil}
use native.Mathlib.Omega.{arith}
use lib.Dec.{eqb}
use lib.ListN.{length, take, length-take, take-append-drop}
use lib.Seq.{length-take-le}
use borrow.Author.Tests.{eqb-true, ne_eqb, le-ltb}
use Rattle.wire.specs.Lists.{keep, any, all, ascends, insert_all}
use Rattle.wire.specs.Bytes.{Bytes}
use Rattle.wire.proofs.Tests.{both}
use Rattle.wire.proofs.Fields.{bytes_take}
use Rattle.dots.specs.Answer.{number_of, Refusals, first_of}
use Rattle.dots.specs.declared.Answer.{Answer}
use Rattle.dots.specs.declared.Answer.TheVariants.{Done}
use Rattle.dots.specs.Dots.{ascending_dots, tombstone_most}
use Rattle.dots.specs.Wire.{dots_bytes, dots_of, dots_at, tombstone_size, dot_size}
use Rattle.dots.specs.Message.{Message, remove}
use Rattle.dots.proofs.Loops.{length-dots_of}
use Rattle.dots.proofs.RoundTrip.{dots-read}
use Rattle.clock.specs.Row.{window_width}
use Rattle.clock.specs.Offered.{all_in_reach}
use Rattle.clock.specs.Clock.{join_each, join_all, counters_of, near}
use Rattle.clock.proofs.Clocks.{rows-well, reach_all_near}
use Rattle.messages.specs.Message.{message_ok, message_bytes}
use Rattle.messages.specs.Read.{message_of}
use Rattle.replica.specs.Machine.{Call, own_remove, take_in, apply, effect}
use Rattle.calls.specs.declared.State.{State}
use Rattle.calls.specs.State.{clock_model, name_of, tombstone_dots, view}
use Rattle.calls.specs.Damage.{tombstone_ok, damaged}
use Rattle.calls.specs.Effect.{padded, keys_part, state_of, store_of, put_out}
use Rattle.calls.specs.Calls.{set_up, fresh_state, Result, Looked, refused, decided, performed, own_add_refusals, own_add_done, own_add_result, own_remove_refusals, own_remove_done, own_remove_result, take_in_refusals, take_in_done, take_in_result, list_refusals, list_done, list_result, page_refusals, page_done, page_result, more_follow, merge_refusals, merge_done, merge_result, not_looked, lookup_refusals, lookup_done, lookup_result, compact_refusals, compact_done, compact_result}
use Rattle.calls.specs.ImageRead.{layout_of}
use Rattle.calls.specs.HandOff.{image_refusals, image_done, image_result, load_refusals, loaded_at, load_result}
use Rattle.calls.specs.Exchange.{receiver_refusals}
use Rattle.calls.specs.Unchanged.{Refused, Unchanged, NothingFound, zero_state, RefusalsLeave, TombstoneFits, EmptyRemoves}
use Rattle.calls.proofs.Decided.{decided-refused}
use Rattle.calls.proofs.Clauses.{Undamaged, undamaged, name-ok, rows_ok_lem, dots_most, used-fits, entries_of_lem}
use Rattle.calls.proofs.Accepted.{remove-accepted}
use Rattle.calls.proofs.TakenIn.{take_in_accepted}
use Rattle.calls.proofs.Whole.{padded-front}
use Rattle.calls.proofs.Exchange.{exchanged}

-- ---- refusals

unchanged : (st : State) (store out : Bytes) (answer : Answer) → Unchanged st store out (refused st store out answer)
unchanged st store out answer = record { state-is = refl; store_is = refl; out-is = refl; written_is = refl; labels_are = refl }

module _ (st : State) (store out : Bytes) (rs : Refusals) (done : Result) (is-done : done.answer ≡ Done) where
  refusal_leaves : Refused (decided st store out rs done).answer → Unchanged st store out (decided st store out rs done)
  refusal_leaves ref = rw (decided-refused st store out rs done is-done ref) (unchanged st store out (first_of rs))

  refusal_first : Refused (decided st store out rs done).answer → eqb (number_of (first_of rs)) 0 ≡ false
  refusal_first ref = ne_eqb (number_of (first_of rs)) 0 (λ e. ref (ap (λ (r : Result). number_of r.answer) (decided-refused st store out rs done is-done ref) ∙ e))

-- a lookup's
lookup_leaves : (a : Answer) (b : Bool) (done : Looked) → done.answer ≡ Done → Refused (cond b done (not_looked a)).answer → NothingFound (cond b done (not_looked a))
lookup_leaves a true done is-done ref = absurd (ref (ap number_of is-done))
lookup_leaves a false done is-done ref = record { start_is = refl; end_is = refl; listed-is = refl }

-- a set-up's
set_up_leaves : (a : Answer) (b : Bool) (done : State) → eqb (number_of a) 0 ≡ b → Refused a → cond b done (fresh_state 0 []) ≡ zero_state
unfolding dots_bytes
set_up_leaves a true done e ref = absurd (ref (eqb-true _ 0 e))
set_up_leaves a false done e ref = refl

pub refusals_leave : RefusalsLeave
unfolding set_up own_add_result own_remove_result take_in_result list_result page_result more_follow merge_result lookup_result compact_result image_result load_result dots_bytes damaged
refusals_leave = record {
  own-add = λ st store label context out. refusal_leaves st store out (own_add_refusals st store label context out) (own_add_done st store label context out) refl;
  own-remove = λ st store context out. refusal_leaves st store out (own_remove_refusals st store context out) (own_remove_done st store context out) refl;
  take_in = λ st store message. refusal_leaves st store [] (take_in_refusals st store message) (take_in_done st store message) refl;
  list = λ st store out. refusal_leaves st store out (list_refusals st store out) (list_done st store out) refl;
  page = λ st store start out ref. (
    refusal_leaves st store out (page_refusals st store start out) (page_done st store start out) refl ref,
    rw (refusal_first st store out (page_refusals st store start out) (page_done st store start out) refl ref),
  );
  merge = λ st store st' store' out. refusal_leaves st store out (merge_refusals st store st' store' out) (merge_done st store st' store' out) refl;
  lookup = λ st store label. lookup_leaves (first_of (lookup_refusals st store label)) (eqb (number_of (first_of (lookup_refusals st store label))) 0) (lookup_done st store label) refl;
  compact = λ st store. refusal_leaves st store [] (compact_refusals st store) (compact_done st store) refl;
  image = λ st store out. refusal_leaves st store out (image_refusals st store out) (image_done st store out) refl;
  load = λ actor image store. refusal_leaves (fresh_state 0 []) store [] (load_refusals actor image store) (loaded_at actor image store (layout_of image)) refl;
  sets_up = λ actor name. set_up_leaves (set_up actor name).answer (eqb (number_of (set_up actor name).answer) 0) (fresh_state actor name) refl;
  zero-damaged = λ store. refl;
}

-- ---- an undamaged state and store, read and written back, are as they were

module _ (st : State) (store : Bytes) (u : Undamaged st store) where
  keys_kept : keys_part st (view st store) ≡ take st.used store
  unfolding view
  keys_kept = (entries_of_lem st store u).written

  used-kept : length (keys_part st (view st store)) ≡ st.used
  used-kept = ap length keys_kept ∙ length-take-le st.used store (used-fits st store u)

  store_kept : store_of st store (view st store) ≡ store
  unfolding store_of
  store_kept =
      let none : st.used - length (keys_part st (view st store)) ≡ 0 = omega (arith, used-kept) in
      let most : max st.used (length (keys_part st (view st store))) ≡ st.used = omega (arith, used-kept) in
      rw (none, most, keys_kept, append-nil) (take-append-drop st.used store)

  module _ (fits : TombstoneFits st) where
    front : length (take (st.tombstone.count * dot_size) st.tombstone.bytes) ≡ st.tombstone.count * dot_size
    front = let size = fits.size in length-take-le (st.tombstone.count * dot_size) st.tombstone.bytes (omega (arith, dots_most st store u))

    count_kept : length (tombstone_dots st) ≡ st.tombstone.count
    count_kept = length-dots_of (take (st.tombstone.count * dot_size) st.tombstone.bytes) ∙ rw front (omega arith)

    bytes-kept : padded tombstone_size (dots_bytes (tombstone_dots st)) ≡ st.tombstone.bytes
    unfolding tombstone_ok
    bytes-kept =
        let t = u.tombstone in
        let bytes : Bytes = st.tombstone.bytes in
        let n : ℕ = st.tombstone.count * dot_size in
        let read : dots_bytes (dots_of (take n bytes)) ≡ take n bytes = dots-read (take n bytes) (bytes_take bytes n fits.bytes) (omega (arith, front)) in
        rw read (padded-front tombstone_size n bytes fits.size (omega (arith, dots_most st store u)) (search both))

    state-kept : state_of st (view st store) ≡ st
    unfolding state_of view
    state-kept = λ i. record { actor = st.actor; name = st.name; clock = st.clock; tombstone = record { bytes = bytes-kept i; count = count_kept i }; used = used-kept i }

    -- a call whose effect is none, with its message
    nothing-done : (out message : Bytes) (call : Call) → effect clock_model (view st store) call ≡ view st store
        → performed st store out call message ≡ record { answer = Done; state = st; store = store; out = put_out message out; written = length message; labels = 0 }
    nothing-done out message call none = rw (none, state-kept, store_kept)

-- ---- removes with no dots

none-applied : (st : State) (store : Bytes) → apply clock_model (view st store) [] [] ≡ view st store
unfolding apply keep insert_all join_all join_each
none-applied st store = refl

-- no refusal that speaks of the receiver holds
none-refused : (st : State) (store : Bytes) → damaged st store ≡ false → first_of (receiver_refusals st store (remove [])) ≡ Done
unfolding view effect apply keep any all insert_all counters_of all_in_reach
none-refused st store h =
    let u = undamaged st store h in
    let rows = rows-well window_width st.clock.words (rows_ok_lem st store u) in
    let close : near window_width st.clock.words [] ≡ true = reach_all_near window_width (omega arith) st.clock.words [] rows refl tt (λ a. refl) in
    let fit : length (tombstone_dots st) ≤ tombstone_most = omega (arith, length-dots_of (take (st.tombstone.count * dot_size) st.tombstone.bytes), length-take (st.tombstone.count * dot_size) st.tombstone.bytes, dots_most st store u) in
    rw (h, close, le-ltb tombstone_most (length (tombstone_dots st)) fit)

empty-ok : (st : State) (store : Bytes) → Undamaged st store → message_ok (name_of st) (remove []) ≡ true
unfolding message_ok ascending_dots all ascends
empty-ok st store u = rw (name-ok st store u)

pub empty-removes : EmptyRemoves
unfolding effect dots_of dots_at
empty-removes = record {
  accepted = λ st store h.
      let bytes : Bytes = message_bytes (name_of st) (remove []) in
      let taken = (exchanged st (remove []) (empty-ok st store (undamaged st store h)) bytes refl).taken st store refl in
      ap (λ (r : Result). r.answer) taken ∙ rw (none-refused st store h);
  taken_in = λ st store message fits is acc.
      let a = take_in_accepted st store message acc in
      let done = a.result_is ∙ nothing-done st store a.applies.whole fits [] [] (take_in (message_of message)) (ap (λ (m : Message). effect clock_model (view st store) (take_in m)) is ∙ none-applied st store) in
      rw done (unchanged st store [] Done);
  written = λ st store out fits acc.
      let a = remove-accepted st store [] out acc in
      a.result_is ∙ nothing-done st store a.applies.whole fits out (message_bytes (name_of st) (remove [])) (own_remove []) (none-applied st store);
}
