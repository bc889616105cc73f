-- Own add: its refusals as the code groups them, and what its acceptance gives the code to go on with. Assumes nothing.
use Prim.Native.Nat.{ℕ, ◌*◌, ◌+◌, ◌≤◌}
use mathlib.Core.Path.{◌≡◌, refl, sym, ap, subst, ◌∙◌}
use mathlib.Core.Bool.{true, false}
use mathlib.Core.List.{[], ◌∷◌, ◌++◌}
use native.Mathlib.Omega.{arith}
use lib.Dec.{eqb, ltb}
use lib.ListN.{length, drop}
use borrow.Author.Rules.{rules}
use borrow.Author.Tests.{not-false, ltb-false, eqb-false}
use Rattle.wire.specs.Bytes.{Bytes}
use Rattle.wire.proofs.Tests.{neither_left, neither_right}
use Rattle.dots.specs.declared.Answer.{Answer}
use Rattle.dots.specs.declared.Dot.{Dot}
use Rattle.dots.specs.Answer.{number_of, Refusals, first_of}
use Rattle.dots.specs.Dots.{max_counter, context_most}
use Rattle.dots.specs.Wire.{dots_of, dot_size}
use Rattle.dots.specs.Entries.{entry}
use Rattle.dots.specs.Message.{add}
use Rattle.dots.proofs.Table.{NoneHolds, none-holds}
use Rattle.dots.proofs.Rules.{prints-ok}
use Rattle.clock.specs.Row.{window_width}
use Rattle.clock.specs.Clock.{sees, row_at}
use Rattle.clock.proofs.Clocks.{rows-well}
use Rattle.messages.specs.Message.{message_bytes, add_fixed}
use Rattle.messages.proofs.Lengths.{length-add}
use Rattle.replica.specs.Machine.{own_add, if_unseen, apply, effect}
use Rattle.calls.specs.declared.State.{State}
use Rattle.calls.specs.declared.Outcome.{Outcome}
use Rattle.calls.specs.State.{clock_model, name_of, view, Sized}
use Rattle.calls.specs.Damage.{damaged}
use Rattle.calls.specs.Refusals.{bad_context, has_dot, too_far, tombstone_full, store_full, output_short}
use Rattle.calls.specs.Calls.{add_written, own_add_refusals, own_add_done, own_add_result}
use Rattle.calls.specs.Promise.{Leaves}
use Rattle.std.specs.Prelude.{Result, Ok, Err}
use Rattle.steps.proofs.Passed.{passed-refused, refused-is, passed-is}
use Rattle.steps.specs.Tests.{passed, ContextFits, own_next, Told, late_refusals, add_late, MayOffer, applied}
use Rattle.judging.specs.Judging.{state_ok, LowPart}
use Rattle.own.specs.Work.{add_early, AddAnswers, MayAdd, Added}
use Rattle.calls.proofs.Clauses.{Undamaged, undamaged, rows_ok_lem, used-fits, store-fits}
use Rattle.calls.proofs.Guard.{next-ok, next-unseen}
use Rattle.store.specs.Valid.{store_most}
use Rattle.steps.proofs.Answers.{kept, label-short, stops, none_of, passes, leaves_refused, leaves_done, state-kept, dots_many, context-fits}
use Rattle.steps.proofs.Adds.{name-length, store-full}
use Rattle.dots.specs.declared.Answer.TheVariants.{Done}
use Rattle.messages.specs.Write.{Wrote}
use Rattle.calls.specs.Effect.{state_of, store_of}
use Rattle.dots.specs.Names.{label_most, name_most}
use Rattle.keys.specs.Key.{label_key_fixed}
use Rattle.steps.specs.declared.Lent.{Lent}

-- how long the message is
add-size : (st : State) (label context : Bytes) (d : Dot) → Sized st → state_ok st ≡ true → ContextFits context
    → length (message_bytes (name_of st) (add label d (dots_of context))) ≡ st.name.len + length label + length context + add_fixed
add-size st label context d size ok fits =
    let named = name-length st size ok in
    let whole = fits.whole in
    let many = dots_many context in
    omega (arith, length-add (name_of st) label d (dots_of context))

module _ (st : State) (store : Bytes) (u : Undamaged st store) where
  -- there is a next dot, refusal 9 aside
  next_fits : eqb (row_at st.clock.words st.actor.number).base max_counter ≡ false → (row_at st.clock.words st.actor.number).base + 1 ≤ max_counter
  next_fits h =
      let small : (row_at st.clock.words st.actor.number).base ≤ max_counter = (rows-well window_width st.clock.words (rows_ok_lem st store u) st.actor.number).small in
      let other = eqb-false (row_at st.clock.words st.actor.number).base max_counter h in
      omega arith

  pub own-unseen : sees st.clock.words (own_next st) ≡ false
  unfolding view
  own-unseen = next-unseen st store u

  -- the entry that is stored is that of an add whose dot was not seen
  fresh-is : (label : Bytes) → if_unseen clock_model (view st store) label (own_next st) ≡ entry label (own_next st) ∷ []
  unfolding view
  fresh-is label = rw own-unseen

  applied-is : (label context : Bytes) → applied st store label (dots_of context) (own_next st) ≡ effect clock_model (view st store) (own_add label (dots_of context))
  unfolding effect view
  applied-is label context = rw own-unseen

module _ (st : State) (label context : Bytes) (lent : Lent) (size : Sized st) (r : Answer) (k : ℕ) (answered : r ≡ first_of (add_early lent.damage st.actor st.clock.words label context)) (g : k ≡ number_of r) where
  module _ (store : Bytes) (told : lent.damage ≡ damaged st store) where
    abbrev late : Bytes → Refusals
    late out =
        late_refusals (too_far st store (own_next st ∷ dots_of context)) (tombstone_full st store (own_add label (dots_of context))) (store_full st store (entry label (own_next st) ∷ []))
        (output_short out (add_written st store label context out))

    abbrev early : Refusals
    early = add_early (damaged st store) st.actor st.clock.words label context

    is-early : r ≡ first_of early
    is-early = answered ∙ rw told

    stopped : (k ≡ 0 → ⊥) → (out : Bytes) → r ≡ first_of (own_add_refusals st store label context out)
    unfolding view
    stopped t out = stops early r k is-early g (late out) t

    module _ (t : k ≡ 0) where
      none-early : NoneHolds early
      none-early = none_of early r k is-early g (search rules) t

      u : Undamaged st store
      u = undamaged st store none-early.0

      pub add-next : (row_at st.clock.words st.actor.number).base + 1 ≤ max_counter
      add-next = next_fits st store u none-early.1.1.1.1.0

      pub add_kept : MayOffer st label context (own_next st)
      unfolding view
      add_kept =
          let fits = used-fits st store u in
          let most = store-fits st store u in
          record {
            state-ok = state-kept st store none-early.0;
            small = omega arith;
            labelled = prints-ok label (not-false _ none-early.1.0);
            fits = context-fits context (neither_left (bad_context context) (has_dot (own_next st) (dots_of context)) none-early.1.1.0);
            dot-ok = next-ok st store u none-early.1.1.1.1.0;
            new = neither_right (bad_context context) (has_dot (own_next st) (dots_of context)) none-early.1.1.0;
          }

      passed_on : (d : Dot) (q : Answer) (out : Bytes) → d ≡ own_next st
          → q ≡ first_of (add_late st (length store) label d (dots_of context) (ltb (length out) (st.name.len + length label + length context + add_fixed))) → q ≡ first_of (own_add_refusals st store label context out)
      unfolding effect apply view
      passed_on d q out i h =
          let full = ap (store_full st store) (sym (fresh-is st store u label)) ∙ store-full st store label (own_next st) (name-length st size add_kept.state-ok) in
          passes early r k is-early g (late out) q (search rules) t
          (h ∙ rw (i, full, add-size st label context (own_next st) size add_kept.state-ok add_kept.fits))

  pub add-refused : (k ≡ 0 → ⊥) → AddAnswers st label context lent (Err r)
  add-refused t store out e f d = passed-refused _ _ (stopped store d t out) (λ z. t (g ∙ z))

  pub add-passed : k ≡ 0 → (d : Dot) (q : Result Unit Answer) → d ≡ own_next st
      → q ≡ passed (first_of (add_late st lent.store label d (dots_of context) (ltb lent.out (st.name.len + length label + length context + add_fixed)))) → AddAnswers st label context lent q
  add-passed t d q i h store out e f w =
      let same : q ≡ passed (first_of (add_late st (length store) label d (dots_of context) (ltb (length out) (st.name.len + length label + length context + add_fixed)))) = rw (e, f) h in
      same ∙ ap passed (passed_on store w t d _ out i refl)

-- what the earlier refusals tell, as the code passes them up
module _ (st : State) (label context : Bytes) (lent : Lent) (told : Told st lent) (q : Result Unit Answer) (tested : q ≡ passed (first_of (add_early lent.damage st.actor st.clock.words label context))) where
  pub early-refused : (a : Answer) → q ≡ Err a → AddAnswers st label context lent (Err a)
  early-refused a e = let r = refused-is a (first_of (add_early lent.damage st.actor st.clock.words label context)) (sym e ∙ tested) in add-refused st label context lent told.sized a (number_of a) r.0 refl r.1

  module _ (u : Unit {0}) (e : q ≡ Ok u) where
    none-early-holds : number_of (first_of (add_early lent.damage st.actor st.clock.words label context)) ≡ 0
    none-early-holds = passed-is _ u (sym e ∙ tested)

    pub early-next : (row_at st.clock.words st.actor.number).base + 1 ≤ max_counter
    early-next = add-next st label context lent told.sized _ _ refl refl told.store told.tells none-early-holds

    pub early-offer : (d : Dot) → d ≡ own_next st → MayOffer st label context d
    early-offer d i = subst (λ (x : Dot). MayOffer st label context x) (sym i) (add_kept st label context lent told.sized _ _ refl refl told.store told.tells none-early-holds)

    pub early-passed : (d : Dot) (r : Result Unit Answer) → d ≡ own_next st
        → r ≡ passed (first_of (add_late st lent.store label d (dots_of context) (ltb lent.out (st.name.len + length label + length context + add_fixed)))) → AddAnswers st label context lent r
    early-passed = add-passed st label context lent told.sized _ _ refl refl none-early-holds

-- the sizes that the later refusals add up
pub record Sizes (st : State) (label context : Bytes) : Type 0 where
  pub name_most_lem : st.name.len ≤ name_most
  pub label_most_lem : length label ≤ label_most
  pub context_most_lem : length context ≤ dot_size * context_most
  pub used_most : st.used ≤ store_most

pub sizes : (st : State) (label context : Bytes) (d : Dot) → MayOffer st label context d → Sizes st label context
sizes st label context d k = record { name_most_lem = (kept st k.state-ok).short; label_most_lem = label-short label k.labelled; context_most_lem = k.fits.short; used_most = k.small }

module _ (st : State) (store label context out : Bytes) (a : Answer) (k : ℕ) (answered : a ≡ first_of (own_add_refusals st store label context out)) (numbered : k ≡ number_of a) where
  pub own_add_refused : (k ≡ 0 → ⊥) → Leaves (own_add_result st store label context out) store out (record { answer = a; state = st; written = 0 })
  unfolding own_add_result
  own_add_refused h = leaves_refused st store out (own_add_refusals st store label context out) (own_add_done st store label context out) a k answered numbered h

  module _ (z : k ≡ 0) where
    all-passed : NoneHolds (own_add_refusals st store label context out)
    all-passed = none-holds (own_add_refusals st store label context out) (search rules) (sym (numbered ∙ ap number_of answered) ∙ z)

    pub add-whole : damaged st store ≡ false
    add-whole = all-passed.0

    pub may_add_lem : Sized st → (low : ℕ) → LowPart st store label low → MayAdd st store label context (length out) low
    unfolding effect apply view
    may_add_lem size low front =
        let n = all-passed in
        let u = undamaged st store n.0 in
        let ok = state-kept st store n.0 in
        let fits = context-fits context (neither_left (bad_context context) (has_dot (own_next st) (dots_of context)) n.1.1.0) in
        let full = sym (ap (store_full st store) (sym (fresh-is st store u label)) ∙ store-full st store label (own_next st) (name-length st size ok)) ∙ n.1.1.1.1.1.1.1.0 in
        let fills : ltb (length store) (st.used + (st.name.len + length label + label_key_fixed)) ≡ false = rw (own-unseen st store u) at full in
        let room : length (add_written st store label context out) ≤ length out = ltb-false _ _ n.1.1.1.1.1.1.1.1.0 in
        record {
          next = next_fits st store u n.1.1.1.1.0;
          applies = record {
            whole = n.0;
            joins = record {
              state-ok = ok;
              fits = fits;
              dot-ok = next-ok st store u n.1.1.1.1.0;
              new = neither_right (bad_context context) (has_dot (own_next st) (dots_of context)) n.1.1.0;
              close = not-false _ n.1.1.1.1.1.0;
              few = ltb-false _ _ n.1.1.1.1.1.1.0;
            };
            labelled = prints-ok label (not-false _ n.1.0);
            room_for = λ f. ltb-false _ _ fills;
            sized = size;
          };
          room_for = omega (arith, room, add-size st label context (own_next st) size ok fits);
          front = front;
        }

    pub own_add_done_lem : (store' out' : Bytes) (r : Outcome) → Added st store label context out store' out' r → Leaves (own_add_result st store label context out) store' out' r
    unfolding own_add_result view
    own_add_done_lem store' out' r left =
        let is = applied-is st store (undamaged st store all-passed.0) label context in
        leaves_done st store out (own_add_refusals st store label context out) (own_add_done st store label context out) a k answered numbered z store' out' r
        (record {
          answered = left.answered;
          state-is = rw is at left.state-is;
          written_is = left.wrote.size;
          store_is = rw is at left.store_is;
          out-is = left.wrote.bytes ∙ ap (λ (n : ℕ). message_bytes (name_of st) (add label (own_next st) (dots_of context)) ++ drop n out) left.wrote.size;
        })

-- what an own add leaves, d being its dot
pub add_done_leaves : (st : State) (store label context out : Bytes) (d : Dot) → d ≡ own_next st → (store' out' : Bytes) (r : State) (written : ℕ)
    → (r ≡ state_of st (applied st store label (dots_of context) d)) × (store' ≡ store_of st store (applied st store label (dots_of context) d))
    → Wrote (name_of st) (add label d (dots_of context)) out out' written
    → Added st store label context out store' out' (record { answer = Done; state = r; written = written })
add_done_leaves st store label context out d e store' out' r written left wrote = record {
  answered = refl;
  state-is = rw e at left.0;
  store_is = rw e at left.1;
  wrote = subst (λ (x : Dot). Wrote (name_of st) (add label x (dots_of context)) out out' written) e wrote;
}
