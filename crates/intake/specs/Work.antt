-- What the code of taking in tests and counts on, beside the steps.
use Rattle.std.specs.Prelude.{ℕ, ◌≤◌, Bool, true, false, not, [], ◌∷◌, ◌≡◌, length, Result, Ok, Err, MatchResult}
use Rattle.std.proofs.Math.Dec.{compare_is_eq}
use Rattle.wire.specs.Lists.{any}
use Rattle.wire.specs.Bytes.{Bytes, compare_bytes}
use Rattle.dots.specs.Answer.{number_of, Refusals, first_of}
use Rattle.dots.specs.declared.Answer.{Answer}
use Rattle.dots.specs.declared.Answer.TheVariants.{OtherSet, OwnAhead}
use Rattle.dots.specs.Names.{Name}
use Rattle.dots.specs.declared.Dot.{Dot}
use Rattle.clock.specs.Clock.{row_at}
use Rattle.dots.specs.Message.{Message, add, remove}
use Rattle.messages.specs.declared.MessageFields.{MessageFields}
use Rattle.messages.specs.Read.{MessageRead, name_of as message_name, message_of}
use Rattle.messages.proofs.Accepted.{Found}
use Rattle.calls.specs.declared.State.{State}
use Rattle.calls.specs.declared.Outcome.{Outcome}
use Rattle.replica.specs.Machine.{take_in, effect}
use Rattle.calls.specs.State.{clock_model, name_of, view, Sized}
use Rattle.calls.specs.Damage.{damaged}
use Rattle.calls.specs.Calls.{take_in_refusals}
use Rattle.store.specs.Valid.{store_most}
use Rattle.steps.specs.declared.Lent.{Lent}
use Rattle.steps.specs.Tests.{ahead_of, add_late, remove_late, Answers, WrittenBack, Applied, done_with}
use Rattle.judging.specs.Judging.{state_ok}

-- the refusals of taking in from the set name on
abbrev pub taken_late : State → ℕ → Name → Message → Refusals
taken_late st size name (add label d context) =
    (not (compare_is_eq (compare_bytes name (name_of st))), OtherSet) ∷ (any (ahead_of st.actor (row_at st.clock.words st.actor.number).base) (d ∷ context), OwnAhead)
    ∷ add_late st size label d context false
taken_late st size name (remove context) =
    (not (compare_is_eq (compare_bytes name (name_of st))), OtherSet) ∷ (any (ahead_of st.actor (row_at st.clock.words st.actor.number).base) context, OwnAhead)
    ∷ remove_late st context false

-- the first two of them
abbrev pub taken_early : Bool → Bool → Refusals
taken_early other ahead = (other, OtherSet) ∷ (ahead, OwnAhead) ∷ []

-- those of a message's bytes
abbrev pub taken_of : State → ℕ → Bytes → Refusals
taken_of st size message = taken_late st size (message_name message) (message_of message)

-- what they count on
pub record MayJudge (st : State) (message : Bytes) (read : MessageRead) : Type 0 where
  pub state-ok : state_ok st ≡ true
  pub small : st.used ≤ store_most
  pub found : Found message read
  pub sized : Sized st

-- the refusals of taking in
abbrev pub TakeAnswers : State → Bytes → Lent → Result Unit Answer → Type 0
TakeAnswers st message lent r = Answers st lent (λ store out. take_in_refusals st store message) r

-- a result without its value
abbrev pub without_value : {A : Type 0} → Result A Answer → Result Unit Answer
without_value (Ok _) = Ok tt
without_value (Err a) = Err a

-- the refusals of taking in a message that was read; what is not refused is what was read
abbrev pub TakesIn : State → Bytes → Lent → Result MessageFields Answer → Result MessageFields Answer → Type 0
TakesIn st message lent read r = TakeAnswers st message lent (without_value r) × MatchResult r (λ fields. read ≡ Ok fields) (λ _. Unit {0})

-- what taking in counts on where it is not refused
pub record MayTakeIn (st : State) (store message : Bytes) (read : MessageRead) : Type 0 where
  pub whole : damaged st store ≡ false
  pub found : Found message read
  pub passed : number_of (first_of (taken_of st (length store) message)) ≡ 0
  pub sized : Sized st

-- what applying an add leaves
pub record TookAdd (st : State) (store label context : Bytes) (d : Dot) (store' : Bytes) (r : Outcome) : Type 0 where
  pub done : r ≡ done_with r.state
  pub left : Applied st store label context d store' r.state

-- what taking in leaves
pub record TakenIn (st : State) (store message store' : Bytes) (r : Outcome) : Type 0 where
  pub done : r ≡ done_with r.state
  pub left : WrittenBack st store (effect clock_model (view st store) (take_in (message_of message))) store' r.state
