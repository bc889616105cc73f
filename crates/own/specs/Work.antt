-- What the code of own add and own remove tests, counts on and leaves, beside the steps.
use Rattle.std.specs.Prelude.{ℕ, ◌+◌, ◌≤◌, Bool, false, ◌||◌, List, ◌≡◌, eqb, length, Result}
use Rattle.wire.specs.Lists.{any}
use Rattle.wire.specs.Bytes.{Bytes}
use Rattle.dots.specs.Answer.{Refusals}
use Rattle.dots.specs.declared.Answer.{Answer}
use Rattle.dots.specs.declared.Answer.TheVariants.{Done}
use Rattle.dots.specs.Wire.{dots_of}
use Rattle.dots.specs.declared.Actor.{Actor}
use Rattle.dots.specs.Dots.{max_counter, dot_of}
use Rattle.clock.specs.Clock.{row_at}
use Rattle.dots.specs.Message.{add, remove}
use Rattle.messages.specs.Write.{Wrote}
use Rattle.calls.specs.declared.State.{State}
use Rattle.calls.specs.declared.Outcome.{Outcome}
use Rattle.calls.specs.State.{name_of}
use Rattle.calls.specs.Effect.{state_of, store_of}
use Rattle.calls.specs.Refusals.{bad_add_label, bad_context, has_dot}
use Rattle.steps.specs.Tests.{ahead_of, own_next, early_refusals, Answers, MayApply, MayRemove, removed_state, applied}
use Rattle.judging.specs.Judging.{LowPart}
use Rattle.messages.specs.Message.{add_fixed, remove_fixed}
use Rattle.steps.specs.declared.Lent.{Lent}
use Rattle.calls.specs.Calls.{own_add_refusals, own_remove_refusals}

-- the refusals of an own add that are tested on any arguments, refusal 1 among them
abbrev pub add_early : Bool → Actor → List ℕ → Bytes → Bytes → Refusals
add_early damage own words label context =
    let base = (row_at words own.number).base in
    early_refusals damage (bad_add_label label) (bad_context context || has_dot (dot_of own (base + 1)) (dots_of context)) (any (ahead_of own base) (dots_of context)) (eqb base max_counter)

-- the same of an own remove
abbrev pub remove_early : Bool → Actor → List ℕ → Bytes → Refusals
remove_early damage own words context = early_refusals damage false (bad_context context) (any (ahead_of own (row_at words own.number).base) (dots_of context)) false

-- the refusals of the calls
abbrev pub AddAnswers : State → Bytes → Bytes → Lent → Result Unit Answer → Type 0
AddAnswers st label context lent r = Answers st lent (λ store out. own_add_refusals st store label context out) r

abbrev pub RemoveAnswers : State → Bytes → Lent → Result Unit Answer → Type 0
RemoveAnswers st context lent r = Answers st lent (λ store out. own_remove_refusals st store context out) r

-- ---- what the calls count on, and what they leave

-- what an own add counts on where it is not refused, for an output of so many bytes
pub record MayAdd (st : State) (store label context : Bytes) (room low : ℕ) : Type 0 where
  pub next : (row_at st.clock.words st.actor.number).base + 1 ≤ max_counter
  pub applies : MayApply st store label context (own_next st)
  pub room_for : st.name.len + length label + length context + add_fixed ≤ room
  pub front : LowPart st store label low

-- what it leaves
pub record Added (st : State) (store label context out store' out' : Bytes) (r : Outcome) : Type 0 where
  pub answered : r.answer ≡ Done
  pub state-is : r.state ≡ state_of st (applied st store label (dots_of context) (own_next st))
  pub store_is : store' ≡ store_of st store (applied st store label (dots_of context) (own_next st))
  pub wrote : Wrote (name_of st) (add label (own_next st) (dots_of context)) out out' r.written

-- what an own remove counts on where it is not refused, for an output of so many bytes
pub record MayWriteRemove (st : State) (context : Bytes) (room : ℕ) : Type 0 where
  pub applies : MayRemove st context
  pub room_for : st.name.len + length context + remove_fixed ≤ room

-- what it leaves
pub record Removed (st : State) (context out out' : Bytes) (r : Outcome) : Type 0 where
  pub answered : r.answer ≡ Done
  pub state-is : r.state ≡ removed_state st (dots_of context)
  pub wrote : Wrote (name_of st) (remove (dots_of context)) out out' r.written
