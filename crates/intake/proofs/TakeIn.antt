-- Taking in: its refusals as the code groups them, and what its acceptance gives the code to go on with. Assumes nothing.
use Prim.Native.Nat.{ℕ, ◌≤◌}
use mathlib.Core.Path.{◌≡◌, refl, sym, ap, subst, ◌∙◌}
use mathlib.Core.Bool.{Bool, true, false, not, cond, ◌||◌}
use mathlib.Core.Logic.{◌⊎◌, inl, inr}
use mathlib.Core.List.{[], ◌∷◌, ◌++◌}
use native.Mathlib.Omega.{arith}
use lib.Dec.{compare_is_eq}
use lib.ListN.{length}
use borrow.Author.Rules.{rules}
use borrow.Author.Tests.{not-false, not-true, ltb-false, eqb-true, eq-eqb, ne_eqb}
use Rattle.wire.specs.Lists.{any}
use Rattle.wire.specs.Bytes.{Bytes, compare_bytes, part_of}
use Rattle.wire.proofs.Tests.{both, decided}
use Rattle.dots.specs.declared.Answer.{Answer}
use Rattle.dots.specs.declared.Answer.TheVariants.{Damaged, OtherSet, OwnAhead, TooFar, TombstoneFull, StoreFull}
use Rattle.dots.specs.declared.Dot.{Dot}
use Rattle.dots.specs.Answer.{number_of, Refusals, first_of}
use Rattle.dots.specs.Names.{Name}
use Rattle.dots.specs.Dots.{context_ok}
use Rattle.dots.specs.Wire.{dots_of}
use Rattle.dots.specs.Message.{Message, add, remove, offered_of}
use Rattle.dots.proofs.Table.{NoneHolds, none-holds}
use Rattle.dots.proofs.Rules.{ascending-valid, prints-ok}
use Rattle.clock.specs.Clock.{row_at}
use Rattle.messages.specs.declared.MessageKind.{MessageKind}
use Rattle.messages.specs.declared.MessageKind.TheVariants.{Remove}
use Rattle.messages.specs.Message.{add_kind, remove_kind, kind_byte, message_ok}
use Rattle.messages.specs.declared.MessageFields.{MessageFields}
use Rattle.messages.specs.Read.{MessageRead, name_of as message_name, message_of, read_refusals, read_answer, accepted, no_message, read_of, read_as}
use Rattle.messages.proofs.Accepted.{Found, found, read-answers, refusal_read}
use Rattle.store.specs.Valid.{store_most}
use Rattle.replica.specs.Machine.{take_in, apply, effect}
use Rattle.calls.specs.declared.State.{State}
use Rattle.calls.specs.declared.Outcome.{Outcome}
use Rattle.calls.specs.State.{name_of, view, Sized}
use Rattle.calls.specs.Damage.{damaged}
use Rattle.calls.specs.Refusals.{other_set, own_ahead, too_far, tombstone_full, store_full}
use Rattle.calls.specs.Calls.{to_store, take_in_refusals, take_in_done, take_in_result}
use Rattle.calls.specs.Promise.{Leaves}
use Rattle.steps.specs.declared.Lent.{Lent}
use Rattle.std.specs.Prelude.{Result, Ok, Err}
use Rattle.steps.proofs.Passed.{passed-refused, refused-is, passed-is, rows-stop, rows-pass}
use Rattle.steps.specs.Tests.{passed, ahead_of, ContextFits, add_late, remove_late, Told, MayOffer, MayApply, MayRemove, removed_state, done_with}
use Rattle.judging.specs.Judging.{state_ok}
use Rattle.intake.specs.Work.{taken_late, taken_of, taken_early, TakeAnswers, TakesIn, MayJudge, MayTakeIn, TookAdd, TakenIn}
use Rattle.calls.proofs.Clauses.{undamaged, used-fits, store-fits}
use Rattle.steps.proofs.Performed.{removed-state, removed-store}
use Rattle.steps.proofs.Answers.{stops, none_of, passes, leaves_refused, leaves_done, state-kept}
use Rattle.steps.proofs.Adds.{name-length, store-full}

-- ---- the message that was read

-- a remove is no add
pub not_add : (kind : MessageKind) → kind ≡ Remove → kind_byte kind ≡ add_kind → ⊥
not_add kind e z = let same : remove_kind ≡ add_kind = sym (ap kind_byte e) ∙ z in omega (arith, same)

none_read : (s : Bytes) → accepted s ≡ false → read_of s ≡ no_message (read_answer s)
unfolding read_of
none_read s h = rw h

-- the place of its label is small, whatever the bytes are
pub label-place : (s : Bytes) (r : MessageRead) → r ≡ read_of s → (r.label.at ≤ 4096) × (r.label.len ≤ 4096)
label-place s r e = by-test (decided (accepted s))
  where
    by-test : (accepted s ≡ true) ⊎ (accepted s ≡ false) → (r.label.at ≤ 4096) × (r.label.len ≤ 4096)
    by-test (inl h) =
        let f = found s r e (ap number_of (ap (λ (x : MessageRead). x.answer) e ∙ read-answers s) ∙ eqb-true (number_of (read_answer s)) 0 h) in
        let short = f.short in
        let within = f.label-within in
        (omega arith, omega arith)
    by-test (inr h) = rw (e, none_read s h) (omega arith, omega arith)

module _ (s : Bytes) (r : MessageRead) (f : Found s r) where
  pub add_read : r.kind ≡ add_kind → message_of s ≡ add (part_of s r.label) r.dot (dots_of (part_of s r.context))
  add_read k =
      sym f.message
      ∙ ap (λ (b : Bool). cond b (add (part_of s r.label) r.dot (dots_of (part_of s r.context))) (remove (dots_of (part_of s r.context)))) (eq-eqb r.kind add_kind k)

  pub remove-read : (r.kind ≡ add_kind → ⊥) → message_of s ≡ remove (dots_of (part_of s r.context))
  remove-read k =
      sym f.message
      ∙ ap (λ (b : Bool). cond b (add (part_of s r.label) r.dot (dots_of (part_of s r.context))) (remove (dots_of (part_of s r.context)))) (ne_eqb r.kind add_kind k)

  module _ (context : Bytes) (context-is : context ≡ part_of s r.context) where
    pub add_is : (label : Bytes) → r.kind ≡ add_kind → label ≡ part_of s r.label → message_of s ≡ add label r.dot (dots_of context)
    add_is label k e = add_read k ∙ rw (e, context-is)

    pub remove-is : (r.kind ≡ add_kind → ⊥) → message_of s ≡ remove (dots_of context)
    remove-is k = remove-read k ∙ rw context-is

    rules_of : (m : Message) → message_of s ≡ m → message_ok (message_name s) m ≡ true
    rules_of m e = subst (λ (x : Message). message_ok (message_name s) x ≡ true) e f.rules

    context-ok : context_ok (dots_of context) ≡ true → ContextFits context
    context-ok ok = record { whole = rw context-is f.whole.0; short = rw context-is f.whole.1; ascends = search both }

    -- an add's fields keep their rules
    pub offered : (st : State) (label : Bytes) → state_ok st ≡ true → st.used ≤ store_most → r.kind ≡ add_kind → label ≡ part_of s r.label → MayOffer st label context r.dot
    unfolding message_ok
    offered st label ok small k e =
        let rules = rules_of (add label r.dot (dots_of context)) (add_is label k e) in
        record {
          state-ok = ok;
          small = small;
          labelled = prints-ok label (search both);
          fits = context-ok (search both);
          dot-ok = search both;
          new = not-true _ (search both);
        }

    pub removed : (r.kind ≡ add_kind → ⊥) → ContextFits context
    unfolding message_ok
    removed k =
        let rules = rules_of (remove (dots_of context)) (remove-is k) in
        context-ok (search both)

    -- the later refusals of its parts are those of the message
    module _ (st : State) (size : ℕ) (given : Bytes) (given_is : given ≡ part_of s r.name) (q : Result Unit Answer) where
      pub late-add : (label : Bytes) → r.kind ≡ add_kind → label ≡ part_of s r.label → q ≡ passed (first_of (taken_late st size given (add label r.dot (dots_of context))))
          → q ≡ passed (first_of (taken_late st size (message_name s) (message_of s)))
      late-add label k e h = h ∙ rw (given_is, f.name, add_is label k e)

      pub late-remove : (r.kind ≡ add_kind → ⊥) → q ≡ passed (first_of (taken_late st 0 given (remove (dots_of context)))) → q ≡ passed (first_of (taken_late st size (message_name s) (message_of s)))
      late-remove k h = h ∙ rw (given_is, f.name, remove-is k)

-- ---- the table

module _ (st : State) (store : Bytes) where
  abbrev rest : Name → Message → Refusals
  rest name m =
      (other_set st store name, OtherSet) ∷ (own_ahead st store (offered_of m), OwnAhead) ∷ (too_far st store (offered_of m), TooFar) ∷ (tombstone_full st store (take_in m), TombstoneFull)
      ∷ (store_full st store (to_store (view st store) m), StoreFull) ∷ []

  late_is : length (name_of st) ≡ st.name.len → (name : Name) (m : Message) → first_of (taken_late st (length store) name m) ≡ first_of (rest name m)
  unfolding effect apply any view
  late_is named name (add label d context) = rw (← store-full st store label d named)
  late_is named name (remove context) = refl

module _ (st : State) (store message : Bytes) (read : MessageRead) (read_is : read ≡ read_of message) where
  abbrev front : Refusals
  front = (damaged st store, Damaged) ∷ read_refusals message

  module _ (damage : Bool) (r : Answer) (k : ℕ) (damage-is : damage ≡ damaged st store) (first-is : r ≡ cond damage Damaged read.answer) (numbered : k ≡ number_of r) where
    front-is : r ≡ first_of front
    unfolding read_answer
    front-is = first-is ∙ rw (damage-is, read_is, read-answers message)

    take-refused : (k ≡ 0 → ⊥) → r ≡ first_of (take_in_refusals st store message)
    take-refused t = stops front r k front-is numbered (rest st store (message_name message) (message_of message)) t

    module _ (t : k ≡ 0) where
      whole : damaged st store ≡ false
      whole = (none_of front r k front-is numbered (search rules) t).0

      take-kept : (state_ok st ≡ true) × (st.used ≤ store_most) × Found message read
      take-kept =
          let u = undamaged st store whole in
          let fits = used-fits st store u in
          let most = store-fits st store u in
          let accepts : number_of read.answer ≡ 0 = rw (damage-is, whole) at (sym (numbered ∙ ap number_of first-is) ∙ t) in
          (state-kept st store whole, omega arith, found message read read_is accepts)

      take-passed : Sized st → (q : Answer) → q ≡ first_of (taken_late st (length store) (message_name message) (message_of message)) → q ≡ first_of (take_in_refusals st store message)
      take-passed size q h = passes front r k front-is numbered (rest st store (message_name message) (message_of message)) q (search rules) t (h ∙ late_is st store (name-length st size take-kept.0) (message_name message) (message_of message))

-- the answer, where the call is told whether refusal 1 holds
module _ (st : State) (message : Bytes) (read : MessageRead) (read_is : read ≡ read_of message) (lent : Lent) (r : Answer) (k : ℕ)
    (first-is : r ≡ cond lent.damage Damaged read.answer) (numbered : k ≡ number_of r) where
  answer-refused : (k ≡ 0 → ⊥) → TakeAnswers st message lent (Err r)
  answer-refused t store out e f d = passed-refused _ _ (take-refused st store message read read_is lent.damage r k d first-is numbered t) (λ z. t (numbered ∙ z))

  may_judge : (told : Told st lent) → k ≡ 0 → MayJudge st message read
  may_judge told t =
      let kept = take-kept st told.store message read read_is lent.damage r k told.tells first-is numbered t in
      record { state-ok = kept.0; small = kept.1; found = kept.2; sized = told.sized }

  answer-passed : Sized st → k ≡ 0 → (q : Result Unit Answer) → q ≡ passed (first_of (taken_of st lent.store message)) → TakeAnswers st message lent q
  answer-passed size t q h store out e f d =
      let same : q ≡ passed (first_of (taken_of st (length store) message)) = rw e h in
      same ∙ ap passed (take-passed st store message read read_is lent.damage r k d first-is numbered t size _ refl)

-- what the earlier refusals tell, as the code passes them up
module _ (st : State) (message : Bytes) (read : MessageRead) (read_is : read ≡ read_of message) (lent : Lent) (told : Told st lent) (q : Result Unit Answer) (tested : q ≡ passed (cond lent.damage Damaged read.answer)) where
  pub early-refused : (a : Answer) → q ≡ Err a → TakeAnswers st message lent (Err a)
  early-refused a e = let r = refused-is a (cond lent.damage Damaged read.answer) (sym e ∙ tested) in answer-refused st message read read_is lent a (number_of a) r.0 refl r.1

  module _ (u : Unit {0}) (e : q ≡ Ok u) where
    none-early-holds : number_of (cond lent.damage Damaged read.answer) ≡ 0
    none-early-holds = passed-is _ u (sym e ∙ tested)

    pub early-judge : MayJudge st message read
    early-judge = may_judge st message read read_is lent _ _ refl refl told none-early-holds

    pub early-passed : (r : Result Unit Answer) → r ≡ passed (first_of (taken_of st lent.store message)) → TakeAnswers st message lent r
    early-passed = answer-passed st message read read_is lent _ _ refl refl told.sized none-early-holds

-- a message that was read, and the tests of it in turn
module _ (st : State) (message : Bytes) (read : Result MessageFields Answer) (read_is : read_as read ≡ read_of message) (lent : Lent) (told : Told st lent) where
  pub damage-refused : lent.damage ≡ true → TakesIn st message lent read (Err Damaged)
  damage-refused d = (early-refused st message (read_as read) read_is lent told (Err Damaged) (rw d refl) Damaged refl, tt)

  module _ (d : lent.damage ≡ false) where
    pub read-refused : (a : Answer) → read ≡ Err a → TakesIn st message lent read (Err a)
    read-refused a e =
        let is : no_message a ≡ read_of message = rw e at read_is in
        (early-refused st message (read_as read) read_is lent told (Err a) (rw (d, e) (passed-refused a a refl (refusal_read message a is))) a refl, tt)

    module _ (f : MessageFields) (e : read ≡ Ok f) where
      tested : Ok (tt {0}) ≡ passed (cond lent.damage Damaged (read_as read).answer)
      tested = rw (d, e) refl

      pub late-judge : MayJudge st message (read_as (Ok f))
      late-judge = let judges = early-judge st message (read_as read) read_is lent told (Ok tt) tested tt refl in rw e at judges

      pub late-refused : (a : Answer) → Err a ≡ passed (first_of (taken_of st lent.store message)) → TakesIn st message lent read (Err a)
      late-refused a h = (early-passed st message (read_as read) read_is lent told (Ok tt) tested tt refl (Err a) h, tt)

      pub late-passed : (u : Unit {0}) → Ok u ≡ passed (first_of (taken_of st lent.store message)) → TakesIn st message lent read (Ok f)
      late-passed u h = (early-passed st message (read_as read) read_is lent told (Ok tt) tested tt refl (Ok tt) h, e)

-- ---- what is left

module _ (st : State) (store message : Bytes) (read : MessageRead) (read_is : read ≡ read_of message) where
  module _ (a : Answer) (k : ℕ) (answered : a ≡ first_of (take_in_refusals st store message)) (numbered : k ≡ number_of a) where
    pub take_in_refused : (k ≡ 0 → ⊥) → Leaves (take_in_result st store message) store [] (record { answer = a; state = st; written = 0 })
    unfolding take_in_result
    take_in_refused h = leaves_refused st store [] (take_in_refusals st store message) (take_in_done st store message) a k answered numbered h

    module _ (z : k ≡ 0) where
      none-refuses : NoneHolds (take_in_refusals st store message)
      none-refuses = none_of (take_in_refusals st store message) a k answered numbered (search rules) z

      pub may_take_in : Sized st → MayTakeIn st store message read
      unfolding read_answer
      may_take_in size =
          let n = none-refuses in
          let m = n.1.1.1.1.1.1 in
          let accepts : number_of (read_answer message) ≡ 0 = rw (n.1.0, n.1.1.0, n.1.1.1.0, n.1.1.1.1.0, n.1.1.1.1.1.0) refl in
          let none : number_of (first_of (rest st store (message_name message) (message_of message))) ≡ 0 = rw (m.0, m.1.0, m.1.1.0, m.1.1.1.0, m.1.1.1.1.0) refl in
          record {
            whole = n.0;
            found = found message read read_is (ap number_of (ap (λ (x : MessageRead). x.answer) read_is ∙ read-answers message) ∙ accepts);
            passed = ap number_of (late_is st store (name-length st size (state-kept st store n.0)) (message_name message) (message_of message)) ∙ none;
            sized = size;
          }

      pub take_in_done_lem : (store' : Bytes) (r : Outcome) → TakenIn st store message store' r → Leaves (take_in_result st store message) store' [] r
      unfolding take_in_result
      take_in_done_lem store' r t =
          leaves_done st store [] (take_in_refusals st store message) (take_in_done st store message) a k answered numbered z store' [] r
          (record { answered = ap (λ (x : Outcome). x.answer) t.done; state-is = t.left.0; written_is = ap (λ (x : Outcome). x.written) t.done; store_is = t.left.1; out-is = refl })

-- ---- the work

module _ (st : State) (store s : Bytes) (r : MessageRead) (m : MayTakeIn st store s r) (context : Bytes) (context-is : context ≡ part_of s r.context) where
  small : st.used ≤ store_most
  small =
      let u = undamaged st store m.whole in
      let fits = used-fits st store u in
      let most = store-fits st store u in
      omega arith

  module _ (label : Bytes) (k : r.kind ≡ add_kind) (e : label ≡ part_of s r.label) where
    message-is : message_of s ≡ add label r.dot (dots_of context)
    message-is = add_is s r m.found context context-is label k e

    pub take-applies : MayApply st store label context r.dot
    take-applies =
        let o = offered s r m.found context context-is st label (state-kept st store m.whole) small k e in
        let passed : number_of (first_of (taken_late st (length store) (message_name s) (add label r.dot (dots_of context)))) ≡ 0 = rw message-is at m.passed in
        let n = none-holds (taken_late st (length store) (message_name s) (add label r.dot (dots_of context))) (search rules) passed in
        record {
          whole = m.whole;
          joins = record {
            state-ok = o.state-ok;
            fits = o.fits;
            dot-ok = o.dot-ok;
            new = o.new;
            close = not-false _ n.1.1.0;
            few = ltb-false _ _ n.1.1.1.0;
          };
          labelled = o.labelled;
          room_for = λ f. ltb-false _ _ (rw f at n.1.1.1.1.0);
          sized = m.sized;
        }

    pub add-taken : (q : Outcome) (store' : Bytes) → TookAdd st store label context r.dot store' q → TakenIn st store s store' q
    unfolding effect
    add-taken q store' applies = record { done = applies.done; left = rw message-is applies.left }

  module _ (k : r.kind ≡ add_kind → ⊥) where
    message-removes : message_of s ≡ remove (dots_of context)
    message-removes = remove-is s r m.found context context-is k

    pub take-removes : MayRemove st context
    take-removes =
        let passed : number_of (first_of (taken_late st (length store) (message_name s) (remove (dots_of context)))) ≡ 0 = rw message-removes at m.passed in
        let n = none-holds (taken_late st (length store) (message_name s) (remove (dots_of context))) (search rules) passed in
        record {
          state-ok = state-kept st store m.whole;
          fits = removed s r m.found context context-is k;
          close = not-false _ n.1.1.0;
          few = ltb-false _ _ n.1.1.1.0;
          sized = m.sized;
        }

    pub remove-taken : (q : Outcome) → q ≡ done_with (removed_state st (dots_of context)) → TakenIn st store s store q
    unfolding effect
    remove-taken q is =
        let u = undamaged st store m.whole in
        let t = take-removes in
        let ok = ascending-valid (dots_of context) t.fits.ascends in
        subst (λ (x : Outcome). TakenIn st store s store x) (sym is)
        (record {
          done = refl;
          left = rw message-removes (removed-state st store u m.sized.words_size (dots_of context) ok t.close, sym (removed-store st store u m.sized.words_size (dots_of context) ok t.close));
        })

-- ---- the tests, as the code makes them

module _ (st : State) (given context : Bytes) (base : ℕ) (base-is : base ≡ (row_at st.clock.words st.actor.number).base) where
  module _ (other ahead : Bool) (e : other ≡ not (compare_is_eq (compare_bytes given (name_of st)))) (g : ahead ≡ any (ahead_of st.actor base) (dots_of context)) where
    module _ (size : ℕ) (label : Bytes) (d : Dot) (dot-ahead : Bool) (f : dot-ahead ≡ ahead_of st.actor base d) where
      add-rows : passed (first_of (taken_early other (dot-ahead || ahead) ++ add_late st size label d (dots_of context) false)) ≡ passed (first_of (taken_late st size given (add label d (dots_of context))))
      unfolding any
      add-rows = rw (e, f, g, base-is)

      pub add-stopped : (q : Result Unit Answer) → q ≡ passed (first_of (taken_early other (dot-ahead || ahead))) → (a : Answer) → q ≡ Err a → Err a ≡ passed (first_of (taken_late st size given (add label d (dots_of context))))
      add-stopped q h a i = rows-stop (taken_early other (dot-ahead || ahead)) (add_late st size label d (dots_of context) false) a (sym i ∙ h) ∙ add-rows

      pub add-judged : (q : Result Unit Answer) → q ≡ passed (first_of (taken_early other (dot-ahead || ahead))) → (u : Unit {0}) → q ≡ Ok u → (r : Result Unit Answer)
          → r ≡ passed (first_of (add_late st size label d (dots_of context) false)) → r ≡ passed (first_of (taken_late st size given (add label d (dots_of context))))
      add-judged q h u i r k = rows-pass (taken_early other (dot-ahead || ahead)) (add_late st size label d (dots_of context) false) u r (search rules) (sym i ∙ h) k ∙ add-rows

    remove-rows : passed (first_of (taken_early other ahead ++ remove_late st (dots_of context) false)) ≡ passed (first_of (taken_late st 0 given (remove (dots_of context))))
    remove-rows = rw (e, g, base-is)

    pub remove-stopped : (q : Result Unit Answer) → q ≡ passed (first_of (taken_early other ahead)) → (a : Answer) → q ≡ Err a → Err a ≡ passed (first_of (taken_late st 0 given (remove (dots_of context))))
    remove-stopped q h a i = rows-stop (taken_early other ahead) (remove_late st (dots_of context) false) a (sym i ∙ h) ∙ remove-rows

    pub remove-judged : (q : Result Unit Answer) → q ≡ passed (first_of (taken_early other ahead)) → (u : Unit {0}) → q ≡ Ok u → (r : Result Unit Answer)
        → r ≡ passed (first_of (remove_late st (dots_of context) false)) → r ≡ passed (first_of (taken_late st 0 given (remove (dots_of context))))
    remove-judged q h u i r k = rows-pass (taken_early other ahead) (remove_late st (dots_of context) false) u r (search rules) (sym i ∙ h) k ∙ remove-rows
