-- Adds, own or taken in: what applying one leaves, and refusal 12 as the code tests it. Assumes nothing.
use Prim.Native.Nat.{ℕ, ◌+◌}
use mathlib.Core.Path.{◌≡◌, refl, sym, ◌∙◌}
use mathlib.Core.Logic.{◌⊎◌, inl, inr}
use mathlib.Core.Bool.{Bool, true, false, not, cond, ◌&&◌, or-false}
use mathlib.Core.List.{List, [], ◌∷◌}
use native.Mathlib.Omega.{arith}
use lib.Dec.{ltb}
use lib.ListN.{length, get_or}
use mir.Val.{Fits}
use mir.Syntax.{w8}
use lib.Seq.{length-take-le}
use Rattle.wire.specs.Lists.{any, all}
use Rattle.wire.specs.Bytes.{Bytes}
use Rattle.wire.proofs.Tests.{decided}
use Rattle.dots.specs.declared.Dot.{Dot}
use Rattle.dots.specs.Names.{Label}
use Rattle.dots.specs.Dots.{dot_ok}
use Rattle.dots.specs.Wire.{dots_of}
use Rattle.dots.specs.Entries.{Entry, entry}
use Rattle.dots.proofs.Rules.{ascending-valid}
use Rattle.clock.specs.Row.{window_width}
use Rattle.clock.specs.Clock.{sees, join_all}
use Rattle.clock.specs.Reach.{CanJoinContext, CanJoinWithDot}
use Rattle.keys.specs.Entry.{entry_key}
use Rattle.keys.proofs.EntryKeys.{length_entry_key}
use Rattle.store.specs.Place.{inserted_entry}
use Rattle.replica.specs.Machine.{if_unseen}
use Rattle.calls.specs.declared.State.{State}
use Rattle.calls.specs.declared.Tombstone.{Tombstone}
use Rattle.calls.specs.State.{clock_model, name_of, view, Sized}
use Rattle.calls.specs.Effect.{tombstone_of}
use Rattle.calls.specs.Refusals.{store_full}
use Rattle.steps.specs.Tests.{state_with, next_tombstone, MayApply, MayRemove, TombstoneTakes, Joined, MayStore, Stored, Applied, removed_state}
use Rattle.judging.specs.Judging.{state_ok, LowPart}
use Rattle.calls.proofs.Clauses.{Undamaged, undamaged}
use Rattle.steps.proofs.Performed.{seen-state, seen-store, stored-state, stored-store}
use Rattle.steps.proofs.Answers.{kept, padded-tombstone, offer, offer-with, with-parts}
use Rattle.steps.proofs.TombstoneBytes.{tombstone-made}
use Rattle.keys.specs.Key.{label_key_fixed}

pub name-length : (st : State) → Sized st → state_ok st ≡ true → length (name_of st) ≡ st.name.len
name-length st sized ok = let size = sized.name-size in let short = (kept st ok).short in length-take-le st.name.len st.name.bytes (omega arith)

-- refusal 12, for the entry that an add stores
pub store-full : (st : State) (store : Bytes) (label : Label) (d : Dot) → length (name_of st) ≡ st.name.len
    → store_full st store (if_unseen clock_model (view st store) label d) ≡ (not (sees st.clock.words d) && ltb (length store) (st.used + (st.name.len + length label + label_key_fixed)))
unfolding any view
store-full st store label d named = by (sees st.clock.words d)
  where
    by : (b : Bool) → any (λ (e : Entry). ltb (length store) (st.used + length (entry_key (name_of st) e))) (cond b [] (entry label d ∷ []))
        ≡ (not b && ltb (length store) (st.used + (st.name.len + length label + label_key_fixed)))
    by true = refl
    by false = rw (length_entry_key, named) (or-false _)

-- the key of an add is put where its dot was not seen
module _ (st : State) (r seen : Bool) (store label : Bytes) (d : Dot) (e : r ≡ seen) where
  pub stored-none : r ≡ true → Stored st seen store label d store st.used
  stored-none t = let known : seen ≡ true = sym e ∙ t in record { used-is = rw known; store_is = rw known }

  pub stored_one : r ≡ false → (store' : Bytes) (used' : ℕ) → length (name_of st) ≡ st.name.len
      → used' ≡ st.used + (length (name_of st) + length label + label_key_fixed)
      → store' ≡ inserted_entry (name_of st) store st.used (entry label d) → Stored st seen store label d store' used'
  stored_one t store' used' named f g = let new : seen ≡ false = sym e ∙ t in record { used-is = f ∙ rw (new, named); store_is = g ∙ rw new }

module _ (st : State) (store label context : Bytes) (d : Dot) (m : MayApply st store label context d) where
  u : Undamaged st store
  u = undamaged st store m.whole

  ok : all dot_ok (dots_of context) ≡ true
  ok = ascending-valid (dots_of context) m.joins.fits.ascends

  named : length (name_of st) ≡ st.name.len
  named = name-length st m.sized m.joins.state-ok

  -- what putting its key counts on
  pub may-store : (low : ℕ) → LowPart st store label low → MayStore st (sees st.clock.words d) store label low
  may-store low front unseen =
      let k = kept st m.joins.state-ok in
      record {
        short = let size = m.sized.name-size in let few = k.short in omega arith;
        named = k.named;
        labelled = m.labelled;
        room_for = m.room_for unseen;
        front = front;
      }

  -- what joining its context and its dot counts on
  pub may_join_add : ((j : ℕ) → Fits w8 (get_or st.tombstone.bytes j 0))
      → TombstoneTakes st.clock.words st.tombstone.bytes st.tombstone.count context × CanJoinWithDot window_width st.clock.words context d
  may_join_add small =
      let k = kept st m.joins.state-ok in
      let j = m.joins in
      ((padded-tombstone st k m.sized small, j.fits, j.few), (m.sized.words_size, offer-with st k context d j.fits j.dot-ok j.new, j.close))

  -- what is left where the key was put and context and dot were joined
  pub apply_leaves : (store' : Bytes) (used' : ℕ) → Stored st (sees st.clock.words d) store label d store' used'
      → (words' : List ℕ) (tombstone' : Tombstone) → Joined st.clock.words st.tombstone context (d ∷ dots_of context) words' tombstone'
      → Applied st store label context d store' (state_with st words' tombstone' used')
  apply_leaves store' used' put words' tombstone' joined =
      by (decided (sees st.clock.words d)) put
    where
      r : State
      r = state_with st words' tombstone' used'

      ended_is : r ≡ state_with st (join_all window_width st.clock.words (d ∷ dots_of context)) (tombstone_of (next_tombstone st (dots_of context))) used'
      ended_is = with-parts st _ _ _ _ used' r joined.clock-is (tombstone-made _ _ _ joined.tombstone-is.0 joined.tombstone-is.1) refl

      by : (sees st.clock.words d ≡ true) ⊎ (sees st.clock.words d ≡ false) → Stored st (sees st.clock.words d) store label d store' used' → Applied st store label context d store' r
      by (inl known) s =
          let kept-used : used' ≡ st.used = rw known at s.used-is in
          let kept_store : store' ≡ store = rw known at s.store_is in (
            ended_is ∙ rw kept-used (seen-state st store u m.sized.words_size label d (dots_of context) m.labelled m.joins.dot-ok ok m.joins.close known),
            kept_store ∙ sym (seen-store st store u m.sized.words_size label d (dots_of context) m.labelled m.joins.dot-ok ok m.joins.close known),
          )
      by (inr new) s =
          let grown : used' ≡ st.used + (st.name.len + length label + label_key_fixed) = rw new at s.used-is in
          let stored : store' ≡ inserted_entry (name_of st) store st.used (entry label d) = rw new at s.store_is in (
            ended_is ∙ rw grown (stored-state st store u m.sized.words_size label d (dots_of context) m.labelled m.joins.dot-ok ok m.joins.close named new),
            stored ∙ stored-store st store u m.sized.words_size label d (dots_of context) m.labelled m.joins.dot-ok ok m.joins.close named new,
          )

-- ---- removes

module _ (st : State) (context : Bytes) where
  pub may_join_context : MayRemove st context → ((j : ℕ) → Fits w8 (get_or st.tombstone.bytes j 0))
      → TombstoneTakes st.clock.words st.tombstone.bytes st.tombstone.count context × CanJoinContext window_width st.clock.words context
  may_join_context m small =
      let k = kept st m.state-ok in
      ((padded-tombstone st k m.sized small, m.fits, m.few), (m.sized.words_size, offer st k context m.fits, m.close))

  pub remove_leaves : (words' : List ℕ) (tombstone' : Tombstone) → Joined st.clock.words st.tombstone context (dots_of context) words' tombstone'
      → state_with st words' tombstone' st.used ≡ removed_state st (dots_of context)
  remove_leaves words' tombstone' joined = with-parts st _ _ _ _ st.used _ joined.clock-is (tombstone-made _ _ _ joined.tombstone-is.0 joined.tombstone-is.1) refl
