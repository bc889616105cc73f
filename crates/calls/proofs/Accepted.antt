-- What the acceptance of an own add, an own remove or a compaction says: every refusal of its table fails. Assumes nothing.
use Prim.Native.Nat.{ℕ, ◌+◌}
use mathlib.Core.Path.{◌≡◌, refl, ap, subst}
use mathlib.Core.Logic.{◌⊎◌, inl, inr}
use mathlib.Core.Bool.{true, false, ◌&&◌}
use mathlib.Core.List.Memᴰ
use mathlib.Core.List.{List, [], ◌∷◌}
use native.Mathlib.Omega.{arith}
use lib.Dec.{T}
use borrow.Author.Rules.{rules}
use borrow.Author.Tests.{not-false, not-true}
use Rattle.wire.specs.Lists.{◌∈◌, any, all, keep, member}
use Rattle.wire.specs.Bytes.{Bytes}
use Rattle.wire.proofs.Tests.{both, pass, fail, holds, neither_left, neither_right}
use Rattle.wire.proofs.Lists.{keep-member}
use Rattle.dots.specs.declared.Dot.{Dot}
use Rattle.dots.specs.Answer.{number_of}
use Rattle.dots.specs.Names.{label_ok, label_prints}
use Rattle.dots.specs.Dots.{Context, dot_of, compare_dots, dot_ok, context_ok}
use Rattle.dots.specs.Wire.{whole_dots, dots_of}
use Rattle.dots.specs.Entries.{Entry, entry}
use Rattle.dots.specs.Message.{add, remove}
use Rattle.dots.proofs.Table.{none-holds}
use Rattle.dots.proofs.Rules.{ascending-valid, prints-ok}
use Rattle.clock.specs.Clock.{sees}
use Rattle.messages.specs.Message.{message_ok}
use Rattle.replica.specs.Machine.{Call, own_add, own_remove, unseen, joining, own_base, next_dot, above_own_base, apply, may_apply, effect, allowed}
use Rattle.calls.specs.declared.State.{State}
use Rattle.calls.specs.State.{clock_model, Machine, name_of, view}
use Rattle.calls.specs.Refusals.{bad_context, has_dot, own_ahead, too_far, tombstone_full}
use Rattle.calls.specs.Calls.{add_dot, own_add_refusals, own_add_done, own_add_result, own_remove_refusals, own_remove_done, own_remove_result, compact_refusals, compact_done, compact_result}
use Rattle.calls.proofs.Decided.{decided-done}
use Rattle.calls.proofs.Clauses.{Undamaged, undamaged, name-ok, rows_ok_lem}
use Rattle.calls.proofs.Guard.{entry-ok, next-ok, next-unseen, may-join, may-apply, may_add_lem, own-seen}
use Rattle.calls.proofs.Applied.{Applies}

-- ---- contexts

context_rule : (context : Bytes) → bad_context context ≡ false → context_ok (dots_of context) ≡ true
context_rule context h = let rule : (whole_dots context && context_ok (dots_of context)) ≡ true = not-false _ h in search both

pub context-dots : (ds : Context) → context_ok ds ≡ true → all dot_ok ds ≡ true
context-dots ds h = ascending-valid ds (search both)

-- of the dots offered that join the clock none is an own one, refusal 8 aside
module _ (m : Machine) (offered : List Dot) (ahead : any (above_own_base clock_model m) offered ≡ false) (ok : all dot_ok offered ≡ true) where
  pub own_joins_not : (n : ℕ) → dot_of m.actor n ∈ keep (unseen clock_model m) offered → ⊥
  own_joins_not n k =
      let d : Dot = dot_of m.actor n in
      let r = keep-member (unseen clock_model m) offered k in
      fail (not-true (sees m.clock d) (holds (unseen clock_model m d) r.1)) (pass (own-seen m offered ahead ok n r.0))

  -- but for the one that an own add takes
  own_add_joins : (n : ℕ) → (dot_of m.actor n ≡ next_dot clock_model m) ⊎ (dot_of m.actor n ∈ keep (unseen clock_model m) offered) → n ≡ own_base clock_model m + 1
  own_add_joins n (inl e) = ap (λ (d : Dot). d.counter.number) e
  own_add_joins n (inr k) = absurd (own_joins_not n k)

-- ---- own remove

-- a call that applies a context and no more, be it an own remove or one taken in
pub context-applies : (st : State) (store : Bytes) (call : Call) (context : Context)
    → effect clock_model (view st store) call ≡ apply clock_model (view st store) [] context → may_apply clock_model (view st store) [] [] context ≡ allowed clock_model (view st store) call
    → Undamaged st store → all dot_ok context ≡ true → own_ahead st store context ≡ false → too_far st store context ≡ false → tombstone_full st store call ≡ false
    → Applies st store call
unfolding any all view
context-applies st store call context effect_is allowed-is u ok ahead far full =
    let m : Machine = view st store in
    let fits = may-join m context (rows_ok_lem st store u) ok (not-false _ far) in
    record {
      fresh = [];
      context = context;
      effect_is = effect_is;
      whole = u;
      fresh_ok = refl;
      context-ok = ok;
      allows = subst T allowed-is (may-apply m [] context [] fits ahead);
      fits = fits;
      own-next = λ n k. absurd (own_joins_not m context ahead ok n k);
      tombstone_has_room = full;
      at_most_one = omega arith;
      store_has_room = refl;
    }

module _ (st : State) (store context out : Bytes) where
  pub record RemoveAccepted : Type 0 where
    pub result_is : own_remove_result st store context out ≡ own_remove_done st store context out
    pub applies : Applies st store (own_remove (dots_of context))
    pub message-ok : message_ok (name_of st) (remove (dots_of context)) ≡ true

  pub remove-accepted : number_of (own_remove_result st store context out).answer ≡ 0 → RemoveAccepted
  unfolding own_remove_result effect allowed message_ok
  remove-accepted acc =
      let ds : Context = dots_of context in
      let refusals = own_remove_refusals st store context out in
      let d = decided-done st store out refusals (own_remove_done st store context out) refl acc in
      let passed = none-holds refusals (search rules) d.1 in
      let u = undamaged st store passed.0 in
      let rule = context_rule context passed.1.0 in
      record {
        result_is = d.0;
        message-ok = rw (name-ok st store u, rule);
        applies = context-applies st store (own_remove ds) ds refl refl u (context-dots ds rule) passed.1.1.0 passed.1.1.1.0 passed.1.1.1.1.0;
      }

-- ---- own add

module _ (st : State) (store label context out : Bytes) where
  pub record AddAccepted : Type 0 where
    pub result_is : own_add_result st store label context out ≡ own_add_done st store label context out
    pub applies : Applies st store (own_add label (dots_of context))
    pub message-ok : message_ok (name_of st) (add label (add_dot st store label context out) (dots_of context)) ≡ true

  pub add-accepted : number_of (own_add_result st store label context out).answer ≡ 0 → AddAccepted
  unfolding own_add_result effect allowed message_ok all keep view
  add-accepted acc =
      let m : Machine = view st store in
      let ds : Context = dots_of context in
      let next : Dot = add_dot st store label context out in
      let fresh : List Entry = entry label next ∷ [] in
      let refusals = own_add_refusals st store label context out in
      let d = decided-done st store out refusals (own_add_done st store label context out) refl acc in
      let passed = none-holds refusals (search rules) d.1 in
      let u = undamaged st store passed.0 in
      let print : label_prints label ≡ true = not-false _ passed.1.0 in
      let text : label_ok label ≡ true = prints-ok label print in
      let rule = context_rule context (neither_left _ (has_dot next ds) passed.1.1.0) in
      let new : member compare_dots next ds ≡ false = neither_right (bad_context context) _ passed.1.1.0 in
      let ok = context-dots ds rule in
      let ahead = passed.1.1.1.0 in
      let next-good = next-ok st store u passed.1.1.1.1.0 in
      let offered-ok : all dot_ok (next ∷ ds) ≡ true = rw (next-good, ok) in
      let joins : keep (unseen clock_model m) (next ∷ ds) ≡ joining clock_model m fresh ds = rw (next-unseen st store u) in
      let fits = rw joins at (may-join m (next ∷ ds) (rows_ok_lem st store u) offered-ok (not-false _ passed.1.1.1.1.1.0)) in
      record {
        result_is = d.0;
        message-ok = rw (name-ok st store u, print, next-good, rule, new);
        applies = record {
          fresh = fresh;
          context = ds;
          effect_is = refl;
          whole = u;
          fresh_ok = rw (entry-ok label next text next-good);
          context-ok = ok;
          allows = may_add_lem m fresh ds next [] (may-apply m fresh ds [] fits ahead) new;
          fits = fits;
          own-next = λ n k. own_add_joins m ds ahead ok n (Memᴰ.cases_cons k);
          tombstone_has_room = passed.1.1.1.1.1.1.0;
          at_most_one = omega arith;
          store_has_room = passed.1.1.1.1.1.1.1.0;
        };
      }

-- ---- compaction

module _ (st : State) (store : Bytes) where
  pub record CompactAccepted : Type 0 where
    pub result_is : compact_result st store ≡ compact_done st store
    pub whole : Undamaged st store

  pub compact-accepted : number_of (compact_result st store).answer ≡ 0 → CompactAccepted
  unfolding compact_result
  compact-accepted acc =
      let d = decided-done st store [] (compact_refusals st store) (compact_done st store) refl acc in
      record { result_is = d.0; whole = undamaged st store (none-holds (compact_refusals st store) (search rules) d.1).0 }
