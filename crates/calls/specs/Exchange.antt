-- Round trips over whole calls: the message that an accepted own call writes, and what another controller of the set does with it.
use Rattle.std.specs.Prelude.{[], ◌∷◌, ◌≡◌, take}
use Rattle.wire.specs.Bytes.{Bytes}
use Rattle.dots.specs.declared.Answer.TheVariants.{Done, Damaged, OwnAhead, TooFar, TombstoneFull, StoreFull}
use Rattle.dots.specs.Answer.{number_of, Refusals}
use Rattle.dots.specs.Wire.{dots_of}
use Rattle.dots.specs.Message.{Message, add, remove, offered_of}
use Rattle.messages.specs.Read.{name_of as message_name, message_of, read_answer}
use Rattle.replica.specs.Machine.{take_in}
use Rattle.calls.specs.declared.State.{State}
use Rattle.calls.specs.State.{name_of, view}
use Rattle.calls.specs.Damage.{damaged}
use Rattle.calls.specs.Refusals.{own_ahead, too_far, tombstone_full, store_full}
use Rattle.calls.specs.Calls.{Result, decided, performed, to_store, add_dot, own_add_result, own_remove_result, take_in_result}

-- the refusals that a message of the own set, well formed, can still meet: those that speak of the receiver
abbrev pub receiver_refusals : State → Bytes → Message → Refusals
receiver_refusals st store m =
    (damaged st store, Damaged)
    ∷ (own_ahead st store (offered_of m), OwnAhead)
    ∷ (too_far st store (offered_of m), TooFar)
    ∷ (tombstone_full st store (take_in m), TombstoneFull)
    ∷ (store_full st store (to_store (view st store) m), StoreFull)
    ∷ []

-- bytes that a controller with state st wrote for the message m
pub record Exchanged (st : State) (m : Message) (written : Bytes) : Type 0 where
  -- they read back as what they meant
  pub accepted : read_answer written ≡ Done
  pub name-is : message_name written ≡ name_of st
  pub means : message_of written ≡ m
  -- another controller of the set takes m in, unless a refusal holds that speaks of the receiver
  pub taken : (st' : State) (store' : Bytes) → name_of st' ≡ name_of st
      → take_in_result st' store' written ≡ decided st' store' [] (receiver_refusals st' store' m) (performed st' store' [] (take_in m) [])

abbrev pub written_by : Result → Bytes
written_by r = take r.written r.out

pub record RoundTrips : Type 0 where
  pub of_add : (st : State) (store label context out : Bytes) → number_of (own_add_result st store label context out).answer ≡ 0
      → Exchanged st (add label (add_dot st store label context out) (dots_of context)) (written_by (own_add_result st store label context out))
  pub of_remove : (st : State) (store context out : Bytes) → number_of (own_remove_result st store context out).answer ≡ 0
      → Exchanged st (remove (dots_of context)) (written_by (own_remove_result st store context out))
