-- A call that stores new entries and applies a context: what its acceptance says, and that what it leaves is read again. Assumes nothing.
use Prim.Native.Nat.{ℕ, ◌+◌, ◌≤◌}
use mathlib.Core.Path.{◌≡◌, sym, ap, ◌∙◌, subst}
use mathlib.Core.Bool.{true, false}
use mathlib.Core.List.{List}
use lib.Dec.{T}
use lib.ListN.{length}
use borrow.Author.Tests.{ltb-false}
use Rattle.wire.specs.Lists.{◌∈◌, all, sort}
use Rattle.wire.specs.Bytes.{Bytes}
use Rattle.dots.specs.Dots.{Context, dot_of, compare_dots, dot_ok}
use Rattle.dots.specs.Entries.{Entry}
use Rattle.clock.specs.Row.{window_width}
use Rattle.clock.specs.Clock.{join_all}
use Rattle.clock.proofs.Clocks.{length-join_each}
use Rattle.keys.specs.Entry.{entry_ok}
use Rattle.replica.specs.Machine.{Call, apply, joining, own_base, effect, allowed}
use Rattle.calls.specs.declared.State.{State}
use Rattle.calls.specs.State.{clock_model, Machine, Sized as Arrays, view}
use Rattle.calls.specs.Refusals.{tombstone_full, store_full}
use Rattle.calls.specs.Calls.{performed}
use Rattle.calls.specs.Sequence.{held_after}
use Rattle.calls.proofs.Validity.{Rules, apply-rules}
use Rattle.calls.proofs.Decided.{Sized}
use Rattle.calls.proofs.Reading.{view_of, performed-sized, performed-view}
use Rattle.calls.proofs.Clauses.{Undamaged, view-rules}

pub record Applies (st : State) (store : Bytes) (call : Call) : Type 0 where
  -- what is stored, and the context applied
  pub fresh : List Entry
  pub context : Context
  pub effect_is : effect clock_model (view st store) call ≡ apply clock_model (view st store) fresh context
  pub whole : Undamaged st store
  pub fresh_ok : all entry_ok fresh ≡ true
  pub context-ok : all dot_ok context ≡ true
  pub allows : T (allowed clock_model (view st store) call)
  pub fits : T (clock_model.fits (view st store).clock (joining clock_model (view st store) fresh context))
  -- the one own dot that may join the clock is the next
  pub own-next : (n : ℕ) → dot_of (view st store).actor n ∈ joining clock_model (view st store) fresh context → n ≡ own_base clock_model (view st store) + 1
  pub tombstone_has_room : tombstone_full st store call ≡ false
  pub at_most_one : length fresh ≤ 1
  pub store_has_room : store_full st store fresh ≡ false

module _ (st : State) (store : Bytes) (call : Call) (a : Applies st store call) where
  pub applied-rules : Rules (effect clock_model (view st store) call)
  applied-rules =
      subst Rules (sym a.effect_is) (apply-rules (view st store) (view-rules st store a.whole) a.fresh a.context a.fresh_ok a.context-ok)

  pub applied-actor : (effect clock_model (view st store) call).actor ≡ st.actor
  unfolding view apply
  applied-actor = ap (λ (m : Machine). m.actor) a.effect_is

  pub applied-view : (out message : Bytes) → view_of (held_after (performed st store out call message)) ≡ effect clock_model (view st store) call
  applied-view out message = performed-view st store out call message applied-actor applied-rules

  pub applied-sized : Arrays st → (out message : Bytes) → Sized (held_after (performed st store out call message))
  unfolding view apply join_all
  applied-sized arrays out message =
      let joined = joining clock_model (view st store) a.fresh a.context in
      performed-sized st store out call message arrays
      (ap (λ (m : Machine). length m.clock) a.effect_is ∙ length-join_each window_width st.clock.words (sort compare_dots joined) ∙ arrays.words_size) (ltb-false _ _ a.tombstone_has_room)
