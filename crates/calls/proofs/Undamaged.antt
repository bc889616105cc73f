-- An accepted call leaves an undamaged state; so every state that calls reach from an accepted set-up is undamaged. Assumes nothing.
use Prim.Native.Nat.{ℕ, ◌+◌, ◌-◌, ◌≤◌}
use mathlib.Core.Path.{◌≡◌, refl, sym, ap, ◌∙◌, subst}
use mathlib.Core.Bool.{Bool, true, false}
use mathlib.Core.List.{List, [], ◌∷◌, ◌++◌}
use native.Mathlib.Omega.{arith}
use lib.Dec.{leb, eqb}
use lib.ListN.{length, replicate}
use lib.Seq.{length-take-le, take-append_seam, drop-append_seam}
use borrow.Author.Tests.{ltb-false, le-leb, eqb-true, eqb-false}
use Rattle.wire.specs.Lists.{any, all, ascends, insert_all}
use Rattle.wire.specs.Bytes.{Bytes}
use Rattle.wire.proofs.Tests.{both, neither}
use Rattle.dots.specs.Names.{Name, name_most, name_ok, text_ok}
use Rattle.dots.specs.Dots.{actor_ok, ascending_dots}
use Rattle.dots.specs.Wire.{dots_bytes, dots_at, dots_of}
use Rattle.dots.specs.Entries.{Entry, compare_entries}
use Rattle.clock.specs.Row.{window_width}
use Rattle.clock.specs.Clock.{clock_ok, zero_clock, clock_words}
use Rattle.clock.proofs.Clocks.{row-empty, zero-formed, rows-tested}
use Rattle.keys.specs.Entry.{entry_key}
use Rattle.store.specs.Cut.{store_bytes, keys_after}
use Rattle.store.specs.Valid.{store_most, store_ok, used_ok}
use Rattle.replica.specs.Machine.{Call, live, apply, compact, compacted, effect}
use Rattle.calls.specs.declared.State.{State}
use Rattle.calls.specs.State.{clock_model, Machine, name_of, entries, view}
use Rattle.calls.specs.Damage.{tombstone_ok, state_name_ok, damaged}
use Rattle.calls.specs.Effect.{keys_part, state_of}
use Rattle.calls.specs.Refusals.{store_full}
use Rattle.calls.specs.Calls.{fresh_state, Result, performed, add_written, remove_written}
use Rattle.calls.specs.Sequence.{Input, add_input, remove_input, message_input, read_input, compact_input, hand_off_input, Held, started, result_of, answer_of, step, run}
use Rattle.calls.specs.Demand3.{Accepted, Controlled, end_of}
use Rattle.calls.proofs.Decided.{hand_off_done, OnlyReads, only_reads, Sized, refused_keeps}
use Rattle.calls.proofs.Clauses.{Undamaged, undamaged, not_damaged, used-fits, other_buffer, entries_of_lem}
use Rattle.calls.proofs.Applied.{Applies, applied-actor}
use Rattle.calls.proofs.Accepted.{add-accepted, remove-accepted, compact-accepted}
use Rattle.calls.proofs.TakenIn.{take_in_accepted}
use Rattle.calls.proofs.Loading.{loaded-undamaged}
use Rattle.calls.proofs.Instance.{step-sized}
use Rattle.calls.proofs.Sequences.{set_up_passed, fresh-state, start-sized}
use Rattle.calls.proofs.Whole.{Whole, view-whole, apply-whole, compacted-whole, insert-size, keep-size, all-zero, whole-undamaged}

-- ---- a call's work

-- what a call leaves is not damaged
abbrev Left : Result → Type 0
Left r = Undamaged r.state r.store

module _ (st : State) (store : Bytes) (u : Undamaged st store) where
  -- the keys of an undamaged store take the used length
  keys-size : length (store_bytes (name_of st) (entries st store)) ≡ st.used
  keys-size = ap length (entries_of_lem st store u).written ∙ length-take-le st.used store (used-fits st store u)

  insert-fits : (fresh : List Entry) → length fresh ≤ 1 → store_full st store fresh ≡ false → length (store_bytes (name_of st) (insert_all compare_entries fresh (entries st store))) ≤ length store
  unfolding insert_all any
  insert-fits [] few room = omega (arith, keys-size, used-fits st store u)
  insert-fits (e ∷ []) few room =
      let fits = ltb-false (length store) (st.used + length (entry_key (name_of st) e)) (search neither) in
      omega (arith, insert-size (name_of st) e (entries st store), keys-size)
  insert-fits (e ∷ f ∷ es) few room = absurd (omega arith)

  module _ (words : length st.clock.words ≡ clock_words) (out message : Bytes) where
    applied_leaves : (call : Call) → Applies st store call → Left (performed st store out call message)
    unfolding view apply state_of
    applied_leaves call a =
        let m : Machine = view st store in
        let after : Machine = effect clock_model m call in
        let whole : Whole after = subst Whole (sym a.effect_is) (apply-whole m (view-whole st store u words) a.fresh a.context a.fresh_ok a.context-ok a.fits a.own-next) in
        let keys : after.keys ≡ insert_all compare_entries a.fresh (entries st store) = ap (λ (s : Machine). s.keys) a.effect_is in
        let room : length (keys_part st after) ≤ length store = rw keys (insert-fits a.fresh a.at_most_one a.store_has_room) in
        whole-undamaged st store u after whole (applied-actor st store call a) (ltb-false _ _ a.tombstone_has_room) room

    compacted_leaves : Left (performed st store out compact message)
    unfolding effect compacted view state_of
    compacted_leaves =
        let m : Machine = view st store in
        whole-undamaged st store u (compacted clock_model m) (compacted-whole m (view-whole st store u words)) refl (omega arith)
        (omega (arith, keep-size (name_of st) (live clock_model m) (entries st store), keys-size, used-fits st store u))

-- ---- every call

reading_leaves : (h : Held) (i : Input) → OnlyReads h i → Accepted h i → Left (result_of h i)
reading_leaves h i r acc = rw (r.state-is, r.store_is) (undamaged h.state (h.used ++ r.past) (r.judged acc))

accepted_leaves : (h : Held) (i : Input) → length h.state.clock.words ≡ clock_words → Accepted h i → Left (result_of h i)
unfolding result_of
accepted_leaves h (add_input label context past out) words acc =
    let store : Bytes = h.used ++ past in
    let w = add-accepted h.state store label context out acc in
    subst Left (sym w.result_is) (applied_leaves h.state store w.applies.whole words out (add_written h.state store label context out) _ w.applies)
accepted_leaves h (remove_input context past out) words acc =
    let store : Bytes = h.used ++ past in
    let w = remove-accepted h.state store context out acc in
    subst Left (sym w.result_is) (applied_leaves h.state store w.applies.whole words out (remove_written h.state store context out) _ w.applies)
accepted_leaves h (message_input message past) words acc =
    let w = take_in_accepted h.state (h.used ++ past) message acc in
    subst Left (sym w.result_is) (applied_leaves h.state (h.used ++ past) w.applies.whole words [] [] _ w.applies)
accepted_leaves h (read_input reading past) words acc = reading_leaves h (read_input reading past) (only_reads h reading past) acc
accepted_leaves h (compact_input past) words acc =
    let w = compact-accepted h.state (h.used ++ past) acc in
    subst Left (sym w.result_is) (compacted_leaves h.state (h.used ++ past) w.whole words [] [])
accepted_leaves h (hand_off_input past out actor room) words acc =
    let w = hand_off_done h.state (h.used ++ past) out actor room acc in
    subst Left (sym w.0) (undamaged _ _ (loaded-undamaged actor _ room w.2))

-- of any state whose clock has 32 words, and any store
pub accepted-undamaged : (h : Held) (i : Input) → length h.state.clock.words ≡ clock_words → Accepted h i → damaged (result_of h i).state (result_of h i).store ≡ false
accepted-undamaged h i words acc = not_damaged _ _ (accepted_leaves h i words acc)

-- ---- every state reached

-- what is held is undamaged in any buffer that is not too long
pub record Sound (h : Held) : Type 0 where
  pub sized : Sized h
  pub whole : (past : Bytes) → length (h.used ++ past) ≤ store_most → Undamaged h.state (h.used ++ past)

step-sound : (h : Held) → Sound h → (i : Input) → Sound (step h i)
step-sound h sound i = by (eqb (answer_of h i) 0) refl
  where
    by : (b : Bool) → eqb (answer_of h i) 0 ≡ b → Sound (step h i)
    by true e = record {
      sized = step-sized h sound.sized i;
      whole = λ past. other_buffer (result_of h i).state (result_of h i).store past (accepted_leaves h i sound.sized.arrays.words_size (eqb-true _ 0 e));
    }
    by false e = subst Sound (sym (refused_keeps h sound.sized i (eqb-false _ 0 e))) sound

run_sound : (h : Held) → Sound h → (is : List Input) → Sound (run h is)
unfolding run
run_sound h sound [] = sound
run_sound h sound (i ∷ is) = run_sound (step h i) (step-sound h sound i) is

module _ (actor : ℕ) (name : Name) (past : Bytes) (ok : actor_ok actor ≡ true) (named : name_ok name ≡ true) (short : length past ≤ store_most) where
  name-short : leb (length name) name_most ≡ true
  unfolding text_ok
  name-short = search both

  fresh-name : state_name_ok (fresh_state actor name) ≡ true
  unfolding state_name_ok
  fresh-name =
      let rest : Bytes = replicate (name_most - length name) 0 in
      rw (name-short, take-append_seam name rest, named, drop-append_seam name rest) (all-zero (name_most - length name))

  fresh-clock : clock_ok window_width actor zero_clock ≡ true
  unfolding clock_ok
  fresh-clock = rw (rows-tested window_width zero_clock (λ a. rw (row-empty a) (zero-formed window_width)), row-empty actor)

  fresh-undamaged : Undamaged (fresh_state actor name) past
  unfolding tombstone_ok ascending_dots dots_of dots_at dots_bytes store_ok used_ok keys_after all ascends
  fresh-undamaged = record { actor = ok; name = fresh-name; clock = fresh-clock; tombstone = refl; stored = rw (le-leb (length past) store_most short, le-leb 0 (length past) (omega arith)) }

start-sound : (c : Controlled) → Sound (started c.actor c.name)
start-sound c = record {
  sized = start-sized c;
  whole = λ past short. rw (fresh-state c) (fresh-undamaged c.actor c.name past (set_up_passed c).0 (set_up_passed c).1 short);
}

-- every state that calls reach from an accepted set-up, in any buffer of at most 65,536 bytes that begins with the used ones
pub reached-undamaged : (c : Controlled) (past : Bytes) → length ((end_of c).used ++ past) ≤ store_most → damaged (end_of c).state ((end_of c).used ++ past) ≡ false
reached-undamaged c past short = not_damaged _ _ ((run_sound (started c.actor c.name) (start-sound c) c.calls).whole past short)
