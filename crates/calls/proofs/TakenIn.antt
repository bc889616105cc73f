-- What the acceptance of a message says: every refusal of the table of taking in fails. Assumes nothing.
use Prim.Native.Nat.{◌≤◌}
use mathlib.Core.Path.{◌≡◌, refl}
use mathlib.Core.Bool.{Bool, true, false, not, cond}
use mathlib.Core.List.{List, [], ◌∷◌, ◌++◌, map}
use native.Mathlib.Omega.{arith}
use lib.Dec.{compare_is_eq}
use lib.ListN.{length}
use borrow.Author.Rules.{rules}
use borrow.Author.Tests.{not-false, not-true}
use Rattle.wire.specs.Lists.{cons_if, keep, any, all, member}
use Rattle.wire.specs.Bytes.{Bytes, compare_bytes}
use Rattle.wire.proofs.Tests.{both, pass}
use Rattle.wire.proofs.Lists.{tie-is}
use Rattle.wire.proofs.Orders.{bytes_lawful}
use Rattle.dots.specs.declared.Dot.{Dot}
use Rattle.dots.specs.Answer.{number_of}
use Rattle.dots.specs.Names.{Name, Label}
use Rattle.dots.specs.Dots.{Context, compare_dots, dot_ok}
use Rattle.dots.specs.Entries.{Entry, entry, entry_dot}
use Rattle.dots.specs.Message.{Message, add, remove, offered_of}
use Rattle.dots.proofs.Table.{none-holds}
use Rattle.dots.proofs.Rules.{prints-ok}
use Rattle.clock.specs.Clock.{sees}
use Rattle.keys.specs.Entry.{entry_ok}
use Rattle.messages.specs.Message.{names_ok, dots_ok}
use Rattle.messages.specs.Read.{name_of as message_name, message_of}
use Rattle.replica.specs.Machine.{take_in, unseen, if_unseen, joining, effect, allowed}
use Rattle.calls.specs.declared.State.{State}
use Rattle.calls.specs.State.{clock_model, Machine, name_of, view}
use Rattle.calls.specs.Refusals.{own_ahead, too_far, tombstone_full, store_full}
use Rattle.calls.specs.Calls.{to_store, take_in_refusals, take_in_done, take_in_result}
use Rattle.calls.proofs.Decided.{decided-done}
use Rattle.calls.proofs.Clauses.{Undamaged, undamaged, rows_ok_lem}
use Rattle.calls.proofs.Guard.{entry-ok, may-join, may-apply, may_add_lem}
use Rattle.calls.proofs.Applied.{Applies}
use Rattle.calls.proofs.Accepted.{context-dots, own_joins_not, context-applies}

-- ---- an add's entry, stored where its dot is unseen

module _ (m : Machine) (label : Label) (d : Dot) where
  unseen-ok : entry_ok (entry label d) ≡ true → all entry_ok (if_unseen clock_model m label d) ≡ true
  unfolding all
  unseen-ok ok = by (sees m.clock d)
    where
      by : (b : Bool) → all entry_ok (cond b [] (entry label d ∷ [])) ≡ true
      by true = refl
      by false = rw ok

  unseen-few : length (if_unseen clock_model m label d) ≤ 1
  unseen-few = by (sees m.clock d)
    where
      by : (b : Bool) → length (cond b [] (entry label d ∷ [])) ≤ 1
      by true = omega arith
      by false = omega arith

  -- what joins the clock is the unseen ones of its dot and its context
  taken-joins : (context : Context) → keep (unseen clock_model m) (d ∷ context) ≡ joining clock_model m (if_unseen clock_model m label d) context
  unfolding keep
  taken-joins context = by (sees m.clock d)
    where
      by : (b : Bool) → cons_if (not b) d (keep (unseen clock_model m) context) ≡ map entry_dot (cond b [] (entry label d ∷ [])) ++ keep (unseen clock_model m) context
      by true = refl
      by false = refl

-- ---- a message that no refusal rules out

module _ (st : State) (store : Bytes) (name : Name) (u : Undamaged st store) where
  pub taken-applies : (msg : Message) → names_ok name msg ≡ true → dots_ok msg ≡ true
      → own_ahead st store (offered_of msg) ≡ false → too_far st store (offered_of msg) ≡ false
      → tombstone_full st store (take_in msg) ≡ false → store_full st store (to_store (view st store) msg) ≡ false
      → Applies st store (take_in msg)
  unfolding effect allowed any all view
  taken-applies (add label d context) names dots ahead far full room =
      let m : Machine = view st store in
      let fresh : List Entry = if_unseen clock_model m label d in
      let d-ok : dot_ok d ≡ true = search both in
      let ok = context-dots context (search both) in
      let offered-ok : all dot_ok (d ∷ context) ≡ true = rw (d-ok, ok) in
      let new : not (member compare_dots d context) ≡ true = search both in
      let joins = taken-joins m label d context in
      let fits = rw joins at (may-join m (d ∷ context) (rows_ok_lem st store u) offered-ok (not-false _ far)) in
      record {
        fresh = fresh;
        context = context;
        effect_is = refl;
        whole = u;
        fresh_ok = unseen-ok m label d (entry-ok label d (prints-ok label (search both)) d-ok);
        context-ok = ok;
        allows = may_add_lem m fresh context d (d ∷ []) (may-apply m fresh context (d ∷ []) fits ahead) (not-true _ new);
        fits = fits;
        own-next = λ n k. absurd (own_joins_not m (d ∷ context) ahead offered-ok n (rw joins k));
        tombstone_has_room = full;
        at_most_one = unseen-few m label d;
        store_has_room = room;
      }
  taken-applies (remove context) names dots ahead far full room = context-applies st store (take_in (remove context)) context refl refl u (context-dots context dots) ahead far full

module _ (st : State) (store message : Bytes) where
  pub record TakeInAccepted : Type 0 where
    pub result_is : take_in_result st store message ≡ take_in_done st store message
    pub applies : Applies st store (take_in (message_of message))
    pub named : message_name message ≡ name_of st

  pub take_in_accepted : number_of (take_in_result st store message).answer ≡ 0 → TakeInAccepted
  unfolding take_in_result
  take_in_accepted acc =
      let refusals = take_in_refusals st store message in
      let d = decided-done st store [] refusals (take_in_done st store message) refl acc in
      let passed = none-holds refusals (search rules) d.1 in
      let u = undamaged st store passed.0 in
      let names = not-false _ passed.1.1.1.1.0 in
      let dots = not-false _ passed.1.1.1.1.1.0 in
      let ours : compare_is_eq (compare_bytes (message_name message) (name_of st)) ≡ true = not-false _ passed.1.1.1.1.1.1.0 in
      let rest = passed.1.1.1.1.1.1.1 in
      record {
        result_is = d.0;
        applies = taken-applies st store (message_name message) u (message_of message) names dots rest.0 rest.1.0 rest.1.1.0 rest.1.1.1.0;
        named = bytes_lawful.tie _ _ (tie-is _ (pass ours));
      }
