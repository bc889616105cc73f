-- Calls that change nothing, for any state, store and arguments: refused ones, and removes with no dots.
-- The zeros stand here as numbers, so that a slip in `refused`, `not_looked` or `set_up` breaks a statement.
use Rattle.std.specs.Prelude.{ℕ, true, false, [], ◌≡◌, length, replicate}
use Rattle.wire.specs.Bytes.{Bytes, AreBytes}
use Rattle.dots.specs.Answer.{number_of}
use Rattle.dots.specs.declared.Answer.{Answer}
use Rattle.dots.specs.declared.Answer.TheVariants.{Done}
use Rattle.dots.specs.Names.{Name, name_most}
use Rattle.dots.specs.Dots.{actor_of}
use Rattle.dots.specs.Message.{remove}
use Rattle.messages.specs.Message.{message_bytes}
use Rattle.messages.specs.Read.{message_of}
use Rattle.calls.specs.declared.State.{State}
use Rattle.calls.specs.State.{name_of}
use Rattle.calls.specs.Damage.{damaged}
use Rattle.calls.specs.Effect.{put_out}
use Rattle.calls.specs.Calls.{set_up, Result, Looked, own_add_result, own_remove_result, take_in_result, list_result, page_result, more_follow, merge_result, lookup_result, compact_result}
use Rattle.calls.specs.HandOff.{image_result, load_result}
use Rattle.clock.specs.Clock.{clock_words}
use Rattle.dots.specs.Wire.{tombstone_size}

-- ---- refusals

abbrev pub Refused : Answer → Type 0
Refused answer = number_of answer ≡ 0 → ⊥

-- "Every refusal changes no state and no lent byte; its counts ... are 0"
pub record Unchanged (st : State) (store out : Bytes) (r : Result) : Type 0 where
  pub state-is : r.state ≡ st
  pub store_is : r.store ≡ store
  pub out-is : r.out ≡ out
  pub written_is : r.written ≡ 0
  pub labels_are : r.labels ≡ 0

-- "its stretch is the empty one at the store's front"
pub record NothingFound (r : Looked) : Type 0 where
  pub start_is : r.start ≡ 0
  pub end_is : r.end ≡ 0
  pub listed-is : r.listed ≡ false

-- "a state that is zero throughout, actor 0 included"
abbrev pub zero_state : State
zero_state = record {
  actor = actor_of 0;
  name = record { bytes = replicate name_most 0; len = 0 };
  clock = record { words = replicate clock_words 0 };
  tombstone = record { bytes = replicate tombstone_size 0; count = 0 };
  used = 0;
}

pub record RefusalsLeave : Type 0 where
  pub own-add : (st : State) (store label context out : Bytes) → Refused (own_add_result st store label context out).answer → Unchanged st store out (own_add_result st store label context out)
  pub own-remove : (st : State) (store context out : Bytes) → Refused (own_remove_result st store context out).answer → Unchanged st store out (own_remove_result st store context out)
  pub take_in : (st : State) (store message : Bytes) → Refused (take_in_result st store message).answer → Unchanged st store [] (take_in_result st store message)
  pub list : (st : State) (store out : Bytes) → Refused (list_result st store out).answer → Unchanged st store out (list_result st store out)
  pub page : (st : State) (store start out : Bytes) → Refused (page_result st store start out).answer
      → Unchanged st store out (page_result st store start out) × (more_follow st store start out ≡ false)
  pub merge : (st : State) (store : Bytes) (st' : State) (store' out : Bytes) → Refused (merge_result st store st' store' out).answer
      → Unchanged st store out (merge_result st store st' store' out)
  pub lookup : (st : State) (store label : Bytes) → Refused (lookup_result st store label).answer → NothingFound (lookup_result st store label)
  pub compact : (st : State) (store : Bytes) → Refused (compact_result st store).answer → Unchanged st store [] (compact_result st store)
  pub image : (st : State) (store out : Bytes) → Refused (image_result st store out).answer → Unchanged st store out (image_result st store out)
  -- "A refused load gives the state of a refused set-up."
  pub load : (actor : ℕ) (image store : Bytes) → Refused (load_result actor image store).answer → Unchanged zero_state store [] (load_result actor image store)
  -- "A refused set-up gives a state that is zero throughout, ... and so is damaged"
  pub sets_up : (actor : ℕ) (name : Name) → Refused (set_up actor name).answer → (set_up actor name).state ≡ zero_state
  pub zero-damaged : (store : Bytes) → damaged zero_state store ≡ true

-- ---- removes with no dots

-- what the type of a state's tombstone says
pub record TombstoneFits (st : State) : Type 0 where
  pub size : length st.tombstone.bytes ≡ tombstone_size
  pub bytes : AreBytes st.tombstone.bytes

-- "An empty remove is accepted and changes nothing."
pub record EmptyRemoves : Type 0 where
  pub accepted : (st : State) (store : Bytes) → damaged st store ≡ false → (take_in_result st store (message_bytes (name_of st) (remove []))).answer ≡ Done
  pub taken_in : (st : State) (store message : Bytes) → TombstoneFits st → message_of message ≡ remove [] → number_of (take_in_result st store message).answer ≡ 0
      → Unchanged st store [] (take_in_result st store message)
  -- an own one writes its message
  pub written : (st : State) (store out : Bytes) → TombstoneFits st → number_of (own_remove_result st store [] out).answer ≡ 0
      → own_remove_result st store [] out
      ≡ record { answer = Done; state = st; store = store; out = put_out (message_bytes (name_of st) (remove [])) out; written = length (message_bytes (name_of st) (remove [])); labels = 0 }
