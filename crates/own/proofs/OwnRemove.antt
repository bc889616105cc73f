-- Own remove: its refusals as the code groups them, and what its acceptance gives the code to go on with. Assumes nothing.
use Prim.Native.Nat.{ℕ, ◌+◌, ◌≤◌}
use mathlib.Core.Path.{◌≡◌, refl, sym, ap, ◌∙◌}
use mathlib.Core.Bool.{true, false}
use mathlib.Core.List.{◌++◌}
use native.Mathlib.Omega.{arith}
use lib.Dec.{ltb}
use lib.ListN.{length, drop}
use lib.Seq.{length-take-le}
use borrow.Author.Rules.{rules}
use borrow.Author.Tests.{not-false, ltb-false}
use Rattle.wire.specs.Bytes.{Bytes}
use Rattle.dots.specs.declared.Answer.{Answer}
use Rattle.dots.specs.Answer.{number_of, Refusals, first_of}
use Rattle.dots.specs.Wire.{dots_of}
use Rattle.dots.specs.Message.{remove}
use Rattle.dots.proofs.Table.{NoneHolds, none-holds}
use Rattle.dots.proofs.Rules.{ascending-valid}
use Rattle.messages.specs.Message.{message_bytes, remove_fixed}
use Rattle.messages.proofs.Lengths.{length-remove}
use Rattle.replica.specs.Machine.{own_remove, apply, effect}
use Rattle.calls.specs.declared.State.{State}
use Rattle.calls.specs.declared.Outcome.{Outcome}
use Rattle.calls.specs.State.{name_of, view, Sized}
use Rattle.calls.specs.Damage.{damaged}
use Rattle.calls.specs.Refusals.{too_far, tombstone_full, output_short}
use Rattle.calls.specs.Calls.{own_remove_refusals, remove_written, own_remove_done, own_remove_result}
use Rattle.calls.specs.Promise.{Leaves}
use Rattle.std.specs.Prelude.{Result, Ok, Err}
use Rattle.steps.proofs.Passed.{passed-refused, refused-is, passed-is}
use Rattle.steps.specs.Tests.{passed, Told, ContextFits, late_refusals, remove_late}
use Rattle.judging.specs.Judging.{state_ok}
use Rattle.own.specs.Work.{remove_early, RemoveAnswers, MayWriteRemove, Removed}
use Rattle.calls.proofs.Clauses.{undamaged}
use Rattle.steps.proofs.Performed.{removed-state, removed-store}
use Rattle.steps.proofs.Answers.{stops, none_of, passes, leaves_refused, leaves_done, state-kept, dots_many, context-fits, kept}
use Rattle.steps.specs.declared.Lent.{Lent}

-- ---- own remove

-- how long the message is
remove-size : (st : State) (context : Bytes) → Sized st → state_ok st ≡ true → ContextFits context
    → length (message_bytes (name_of st) (remove (dots_of context))) ≡ st.name.len + length context + remove_fixed
remove-size st context size ok fits =
    let short = (kept st ok).short in
    let named : length (name_of st) ≡ st.name.len = length-take-le st.name.len st.name.bytes (omega arith) in
    let whole = fits.whole in
    let many = dots_many context in
    omega (arith, length-remove (name_of st) (dots_of context))

module _ (st : State) (context : Bytes) (lent : Lent) (size : Sized st) (r : Answer) (k : ℕ) (answered : r ≡ first_of (remove_early lent.damage st.actor st.clock.words context)) (g : k ≡ number_of r) where
  module _ (store : Bytes) (told : lent.damage ≡ damaged st store) where
    abbrev early : Refusals
    early = remove_early (damaged st store) st.actor st.clock.words context

    abbrev late : Bytes → Refusals
    late out = late_refusals (too_far st store (dots_of context)) (tombstone_full st store (own_remove (dots_of context))) false (output_short out (remove_written st store context out))

    is-early : r ≡ first_of early
    is-early = answered ∙ rw told

    pub remove-kept : k ≡ 0 → (state_ok st ≡ true) × ContextFits context
    remove-kept t =
        let none = none_of early r k is-early g (search rules) t in
        (state-kept st store none.0, context-fits context none.1.1.0)

    stopped : (k ≡ 0 → ⊥) → (out : Bytes) → r ≡ first_of (own_remove_refusals st store context out)
    unfolding view
    stopped t out = stops early r k is-early g (late out) t

    passed_on : k ≡ 0 → (q : Answer) (out : Bytes) → q ≡ first_of (remove_late st (dots_of context) (ltb (length out) (st.name.len + length context + remove_fixed))) → q ≡ first_of (own_remove_refusals st store context out)
    unfolding effect apply view
    passed_on t q out h =
        passes early r k is-early g (late out) q (search rules) t (h ∙ rw (remove-size st context size (remove-kept t).0 (remove-kept t).1))

  pub remove-refused : (k ≡ 0 → ⊥) → RemoveAnswers st context lent (Err r)
  remove-refused t store out e f d = passed-refused _ _ (stopped store d t out) (λ z. t (g ∙ z))

  pub remove-passed : k ≡ 0 → (q : Result Unit Answer) → q ≡ passed (first_of (remove_late st (dots_of context) (ltb lent.out (st.name.len + length context + remove_fixed)))) → RemoveAnswers st context lent q
  remove-passed t q h store out e f d =
      let same : q ≡ passed (first_of (remove_late st (dots_of context) (ltb (length out) (st.name.len + length context + remove_fixed)))) = rw f h in
      same ∙ ap passed (passed_on store d t _ out refl)

-- what the earlier refusals tell, as the code passes them up
module _ (st : State) (context : Bytes) (lent : Lent) (told : Told st lent) (q : Result Unit Answer) (tested : q ≡ passed (first_of (remove_early lent.damage st.actor st.clock.words context))) where
  pub early-refused : (a : Answer) → q ≡ Err a → RemoveAnswers st context lent (Err a)
  early-refused a e = let r = refused-is a (first_of (remove_early lent.damage st.actor st.clock.words context)) (sym e ∙ tested) in remove-refused st context lent told.sized a (number_of a) r.0 refl r.1

  module _ (u : Unit {0}) (e : q ≡ Ok u) where
    none-early-holds : number_of (first_of (remove_early lent.damage st.actor st.clock.words context)) ≡ 0
    none-early-holds = passed-is _ u (sym e ∙ tested)

    pub early-kept : (state_ok st ≡ true) × ContextFits context
    early-kept = remove-kept st context lent told.sized _ _ refl refl told.store told.tells none-early-holds

    pub early-passed : (r : Result Unit Answer) → r ≡ passed (first_of (remove_late st (dots_of context) (ltb lent.out (st.name.len + length context + remove_fixed)))) → RemoveAnswers st context lent r
    early-passed = remove-passed st context lent told.sized _ _ refl refl none-early-holds

module _ (st : State) (store context out : Bytes) (a : Answer) (k : ℕ) (answered : a ≡ first_of (own_remove_refusals st store context out)) (numbered : k ≡ number_of a) where
  pub own_remove_refused : (k ≡ 0 → ⊥) → Leaves (own_remove_result st store context out) store out (record { answer = a; state = st; written = 0 })
  unfolding own_remove_result
  own_remove_refused h = leaves_refused st store out (own_remove_refusals st store context out) (own_remove_done st store context out) a k answered numbered h

  module _ (z : k ≡ 0) where
    passed-all : NoneHolds (own_remove_refusals st store context out)
    passed-all = none-holds (own_remove_refusals st store context out) (search rules) (sym (numbered ∙ ap number_of answered) ∙ z)

    pub may-remove : Sized st → MayWriteRemove st context (length out)
    unfolding effect apply view
    may-remove size =
        let n = passed-all in
        let ok = state-kept st store n.0 in
        let fits = context-fits context n.1.0 in
        let room : length (remove_written st store context out) ≤ length out = ltb-false _ _ n.1.1.1.1.1.0 in
        record {
          applies = record { state-ok = ok; fits = fits; close = not-false _ n.1.1.1.0; few = ltb-false _ _ n.1.1.1.1.0; sized = size };
          room_for = omega (arith, room, remove-size st context size ok fits);
        }

    pub own_remove_done_lem : Sized st → (out' : Bytes) (r : Outcome) → Removed st context out out' r
        → Leaves (own_remove_result st store context out) store out' r
    unfolding own_remove_result
    own_remove_done_lem size out' r left =
        let words = size.words_size in
        let may = (may-remove size).applies in
        let u = undamaged st store passed-all.0 in
        let ok = ascending-valid (dots_of context) may.fits.ascends in
        leaves_done st store out (own_remove_refusals st store context out) (own_remove_done st store context out) a k answered numbered z store out' r
        (record {
          answered = left.answered;
          state-is = left.state-is ∙ removed-state st store u words (dots_of context) ok may.close;
          written_is = left.wrote.size;
          store_is = sym (removed-store st store u words (dots_of context) ok may.close);
          out-is = left.wrote.bytes ∙ ap (λ (n : ℕ). message_bytes (name_of st) (remove (dots_of context)) ++ drop n out) left.wrote.size;
        })
