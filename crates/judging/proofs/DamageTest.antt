-- Refusal 1, as the code tests it, and what an undamaged state keeps. Assumes nothing.
use mathlib.Core.Path.{◌≡◌, refl, sym, ap, ◌∙◌}
use mathlib.Core.Bool.{Bool, true, false, not, ◌&&◌, ◌||◌}
use Prim.Native.Nat.{ℕ, ◌≤◌}
use borrow.Author.Tests.{leb-true}
use Rattle.wire.specs.Bytes.{Bytes}
use Rattle.wire.proofs.Tests.{both}
use Rattle.dots.specs.Names.{name_ok, name_most}
use Rattle.dots.specs.Dots.{actor_ok}
use Rattle.clock.specs.Row.{window_width}
use Rattle.clock.specs.Clock.{clock_ok}
use Rattle.store.specs.Valid.{store_ok}
use Rattle.std.proofs.Common.{Option, is_some, unwrap_or}
use Rattle.calls.specs.declared.State.{State}
use Rattle.calls.specs.State.{name_of}
use Rattle.calls.specs.Damage.{state_name_ok, tombstone_ok, damaged}
use Rattle.judging.specs.Judging.{state_ok, LowPart, Judges}

pub damaged-is : (st : State) (store : Bytes) → damaged st store ≡ (not (state_ok st) || not (store_ok (name_of st) st.clock.words store st.used))
unfolding damaged state_ok
damaged-is st store = by (actor_ok st.actor.number) (state_name_ok st) (clock_ok window_width st.actor.number st.clock.words) (tombstone_ok st) _
  where
    by : (a n c t s : Bool) → (not a || (not n || (not c || (not t || s)))) ≡ (not (a && (n && (c && t))) || s)
    by true true true true s = refl
    by true true true false s = refl
    by true true false t s = refl
    by true false c t s = refl
    by false n c t s = refl

-- the state's own rules broken
pub state-damaged : (st : State) (store : Bytes) (ok : Bool) → ok ≡ state_ok st → ok ≡ false → true ≡ damaged st store
state-damaged st store ok e t = sym (damaged-is st store ∙ rw (← e, t))

pub not_not : (b : Bool) → not (not b) ≡ b
not_not true = refl
not_not false = refl

-- they hold, and the store decides
pub store-decides : (st : State) (store : Bytes) (ok : Bool) → ok ≡ state_ok st → ok ≡ true → store_ok (name_of st) st.clock.words store st.used ≡ not (damaged st store)
store-decides st store ok e f =
    let is : damaged st store ≡ not (store_ok (name_of st) st.clock.words store st.used) = damaged-is st store ∙ rw (← e, f) in
    sym (ap not is ∙ not_not (store_ok (name_of st) st.clock.words store st.used))

-- the name of a state that keeps its rules
pub name-kept : (st : State) (ok : Bool) → ok ≡ state_ok st → ok ≡ true → (st.name.len ≤ name_most) × (name_ok (name_of st) ≡ true)
unfolding state_ok state_name_ok
name-kept st ok e f = let kept : state_ok st ≡ true = sym e ∙ f in (leb-true st.name.len name_most (search both), search both)

-- what the pass over state and store tells
module _ (st : State) (store label : Bytes) (r : Option ℕ) (j : Judges st store label r) where
  pub tells_damage : (b : Bool) → is_some r ≡ not b → b ≡ damaged st store
  tells_damage b e = sym (not_not b) ∙ ap not (sym e ∙ j.found) ∙ not_not (damaged st store)

  pub tells-place : damaged st store ≡ false → (low : ℕ) → low ≡ unwrap_or r 0 → LowPart st store label low
  tells-place h low e = rw e (j.passed (ap not h))
