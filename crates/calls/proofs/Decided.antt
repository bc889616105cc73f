-- A call that is refused or only reads leaves what is held; one that is accepted did its work and passed every test. Assumes nothing.
use Prim.Native.Nat.{ℕ}
use mathlib.Core.Path.{◌≡◌, refl, sym, ap, ◌∙◌}
use mathlib.Core.Bool.{Bool, true, false, cond, false≢true}
use mathlib.Core.List.{List, [], ◌++◌}
use lib.Dec.{eqb}
use lib.ListN.{length}
use lib.Seq.{take_at}
use borrow.Author.Rules.{rules}
use borrow.Author.Tests.{eqb-true, eq-eqb}
use Rattle.wire.specs.Bytes.{Bytes}
use Rattle.dots.specs.Answer.{number_of, Refusals, first_of}
use Rattle.dots.specs.declared.Answer.{Answer}
use Rattle.dots.specs.declared.Answer.TheVariants.{Done}
use Rattle.dots.specs.Entries.{Line}
use Rattle.dots.proofs.Table.{none-holds}
use Rattle.calls.specs.declared.State.{State}
use Rattle.calls.specs.State.{Sized as Arrays}
use Rattle.calls.specs.Damage.{damaged}
use Rattle.calls.specs.Calls.{Result, Looked, refused, decided, own_add_result, own_remove_result, take_in_result, lines_put, list_result, page_result, lookup_result, compact_result, own_add_refusals, own_add_done, own_remove_refusals, own_remove_done, take_in_refusals, take_in_done, listed, list_refusals, page_lines, page_refusals, not_looked, lookup_refusals, lookup_done, compact_refusals, compact_done}
use Rattle.calls.specs.HandOff.{image_result, load_result, handed_image, hand_off_answer, hand_off_result}
use Rattle.calls.specs.Sequence.{Reading, list_reading, page_reading, lookup_reading, Input, add_input, remove_input, message_input, read_input, list_input, page_input, lookup_input, compact_input, hand_off_input, Held, result_of, answer_of, held_after, step}

-- a part of the result that the call's work leaves as a refusal does
pub decided-either : {A : Type 0} (st : State) (store out : Bytes) (rs : Refusals) (done : Result) (part : Result → A)
    → part done ≡ part (refused st store out (first_of rs)) → part (decided st store out rs done) ≡ part (refused st store out (first_of rs))
decided-either st store out rs done part e = by (eqb (number_of (first_of rs)) 0)
  where
    by : (b : Bool) → part (cond b done (refused st store out (first_of rs))) ≡ part (refused st store out (first_of rs))
    by true = e
    by false = refl

-- done where an answer is 0, else another, which has that answer
module _ {R : Type 0} (answer_in : R → Answer) (a : Answer) (done other : R) where
  abbrev chosen : R
  chosen = cond (eqb (number_of a) 0) done other

  pub chosen-done : answer_in other ≡ a → number_of (answer_in chosen) ≡ 0 → (chosen ≡ done) × (number_of a ≡ 0)
  chosen-done is = by (eqb (number_of a) 0) refl
    where
      by : (b : Bool) → eqb (number_of a) 0 ≡ b → number_of (answer_in (cond b done other)) ≡ 0 → (cond b done other ≡ done) × (number_of a ≡ 0)
      by true e h = (refl, eqb-true _ 0 e)
      by false e h = absurd (false≢true (sym e ∙ eq-eqb _ 0 (sym (ap number_of is) ∙ h)))

  pub chosen-other : (number_of a ≡ 0 → number_of (answer_in done) ≡ 0) → (number_of (answer_in chosen) ≡ 0 → ⊥) → chosen ≡ other
  chosen-other is = by (eqb (number_of a) 0) refl
    where
      by : (b : Bool) → eqb (number_of a) 0 ≡ b → (number_of (answer_in (cond b done other)) ≡ 0 → ⊥) → cond b done other ≡ other
      by true e h = absurd (h (is (eqb-true _ 0 e)))
      by false e h = refl

abbrev answer_in : Result → Answer
answer_in r = r.answer

module _ (st : State) (store out : Bytes) (rs : Refusals) (done : Result) (is-done : done.answer ≡ Done) where
  pub decided-done : number_of (decided st store out rs done).answer ≡ 0 → (decided st store out rs done ≡ done) × (number_of (first_of rs) ≡ 0)
  decided-done = chosen-done answer_in (first_of rs) done (refused st store out (first_of rs)) refl

  pub decided-refused : (number_of (decided st store out rs done).answer ≡ 0 → ⊥) → decided st store out rs done ≡ refused st store out (first_of rs)
  decided-refused = chosen-other answer_in (first_of rs) done (refused st store out (first_of rs)) (λ e. ap number_of is-done)

-- the same of a lookup
pub looked-done : (st : State) (store label : Bytes) → number_of (lookup_result st store label).answer ≡ 0
    → (lookup_result st store label ≡ lookup_done st store label) × (number_of (first_of (lookup_refusals st store label)) ≡ 0)
unfolding lookup_result
looked-done st store label =
    let answer : Answer = first_of (lookup_refusals st store label) in
    chosen-done (λ (r : Looked). r.answer) answer (lookup_done st store label) (not_looked answer) refl

-- of a hand-off, which is done where the image is written and then loads
module _ (st : State) (store out : Bytes) (actor : ℕ) (room : Bytes) where
  abbrev written : Answer
  written = (image_result st store out).answer

  abbrev load : Result
  load = load_result actor (handed_image st store out actor room) room

  abbrev answer : Answer
  answer = hand_off_answer st store out actor room

  both-done : number_of answer ≡ 0 → (number_of written ≡ 0) × (number_of load.answer ≡ 0)
  both-done e = let w = chosen-done (λ (a : Answer). a) written load.answer written refl e in (w.1, ap number_of (sym w.0) ∙ e)

  pub hand_off_done : number_of (hand_off_result st store out actor room).answer ≡ 0
      → (hand_off_result st store out actor room ≡ load) × (number_of written ≡ 0) × (number_of load.answer ≡ 0)
  unfolding hand_off_result
  hand_off_done acc =
      let w = chosen-done answer_in answer load (refused st store [] answer) refl acc in
      let b = both-done w.1 in
      (w.0, b.0, b.1)

  pub hand_off_refused : (number_of (hand_off_result st store out actor room).answer ≡ 0 → ⊥) → hand_off_result st store out actor room ≡ refused st store [] answer
  unfolding hand_off_result
  hand_off_refused = chosen-other answer_in answer load (refused st store [] answer) (λ e. (both-done e).1)

-- ---- calls that only read: "a listing, a lookup ... changes neither", accepted or not

-- the buffer lent past the used bytes, what the call leaves, and that an accepted one found no damage
pub record OnlyReads (h : Held) (i : Input) : Type 0 where
  pub past : Bytes
  pub state-is : (result_of h i).state ≡ h.state
  pub store_is : (result_of h i).store ≡ h.used ++ past
  pub judged : answer_of h i ≡ 0 → damaged h.state (h.used ++ past) ≡ false

-- one that puts lines out
module _ (h : Held) (i : Input) (past out : Bytes) (rs : Refusals) (ls : List Line) where
  abbrev store : Bytes
  store = h.used ++ past

  abbrev done : Result
  done = lines_put h.state store out ls

  lines-read : result_of h i ≡ decided h.state store out rs done → (number_of (first_of rs) ≡ 0 → damaged h.state store ≡ false) → OnlyReads h i
  lines-read is judged = record {
    past = past;
    state-is = ap (λ (r : Result). r.state) is ∙ decided-either h.state store out rs done (λ r. r.state) refl;
    store_is = ap (λ (r : Result). r.store) is ∙ decided-either h.state store out rs done (λ r. r.store) refl;
    judged = λ acc. judged (decided-done h.state store out rs done refl (sym (ap (λ (r : Result). number_of r.answer) is) ∙ acc)).1;
  }

list-reads : (h : Held) (past out : Bytes) → OnlyReads h (list_input past out)
unfolding result_of list_result
list-reads h past out =
    let rs : Refusals = list_refusals h.state (h.used ++ past) out in
    lines-read h (list_input past out) past out rs (listed h.state (h.used ++ past) out) refl (λ none. (none-holds rs (search rules) none).0)

page-reads : (h : Held) (start past out : Bytes) → OnlyReads h (page_input start past out)
unfolding result_of page_result
page-reads h start past out =
    let rs : Refusals = page_refusals h.state (h.used ++ past) start out in
    lines-read h (page_input start past out) past out rs (page_lines h.state (h.used ++ past) start out) refl (λ none. (none-holds rs (search rules) none).0)

lookup-reads : (h : Held) (label past : Bytes) → OnlyReads h (lookup_input label past)
unfolding result_of
lookup-reads h label past =
    let store : Bytes = h.used ++ past in
    record {
      past = past;
      state-is = refl;
      store_is = refl;
      judged = λ acc. (none-holds (lookup_refusals h.state store label) (search rules) (looked-done h.state store label acc).1).0;
    }

-- each of them
pub only_reads : (h : Held) (reading : Reading) (past : Bytes) → OnlyReads h (read_input reading past)
only_reads h (list_reading out) past = list-reads h past out
only_reads h (page_reading start out) past = page-reads h start past out
only_reads h (lookup_reading label) past = lookup-reads h label past

-- ---- what is held

-- what is held: the used bytes, no more and no less, and arrays of their sizes
pub record Sized (h : Held) : Type 0 where
  pub used-size : length h.used ≡ h.state.used
  pub arrays : Arrays h.state

module _ (h : Held) (sized : Sized h) where
  -- state and store are as they were
  kept : (past : Bytes) (r : Result) → r.state ≡ h.state → r.store ≡ h.used ++ past → held_after r ≡ h
  kept past r e f = rw (e, f) (ap (λ used. record { state = h.state; used = used }) (take_at h.used past h.state.used sized.used-size))

  kept_by : (past out : Bytes) (rs : Refusals) (done : Result) → done.answer ≡ Done
      → (number_of (decided h.state (h.used ++ past) out rs done).answer ≡ 0 → ⊥)
      → held_after (decided h.state (h.used ++ past) out rs done) ≡ h
  kept_by past out rs done d ref = ap held_after (decided-refused h.state (h.used ++ past) out rs done d ref) ∙ kept past (refused h.state (h.used ++ past) out (first_of rs)) refl refl

  pub reading_keeps : (i : Input) → OnlyReads h i → step h i ≡ h
  reading_keeps i r = kept r.past (result_of h i) r.state-is r.store_is

  -- "Every refusal changes no state": of each of the calls
  pub refused_keeps : (i : Input) → (answer_of h i ≡ 0 → ⊥) → step h i ≡ h
  unfolding result_of own_add_result own_remove_result take_in_result compact_result
  refused_keeps (add_input label context past out) ref =
      let store : Bytes = h.used ++ past in
      kept_by past out (own_add_refusals h.state store label context out) (own_add_done h.state store label context out) refl ref
  refused_keeps (remove_input context past out) ref =
      let store : Bytes = h.used ++ past in
      kept_by past out (own_remove_refusals h.state store context out) (own_remove_done h.state store context out) refl ref
  refused_keeps (message_input message past) ref =
      let store : Bytes = h.used ++ past in
      kept_by past [] (take_in_refusals h.state store message) (take_in_done h.state store message) refl ref
  refused_keeps (read_input reading past) ref = reading_keeps (read_input reading past) (only_reads h reading past)
  refused_keeps (compact_input past) ref =
      let store : Bytes = h.used ++ past in
      kept_by past [] (compact_refusals h.state store) (compact_done h.state store) refl ref
  refused_keeps (hand_off_input past out actor room) ref =
      let store : Bytes = h.used ++ past in
      let answer : Answer = hand_off_answer h.state store out actor room in
      ap held_after (hand_off_refused h.state store out actor room ref) ∙ kept past (refused h.state store [] answer) refl refl
