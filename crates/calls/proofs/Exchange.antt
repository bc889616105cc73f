-- Round trips over whole calls. Assumes nothing.
use mathlib.Core.Path.{◌≡◌, refl, ap, ◌∙◌}
use mathlib.Core.Bool.{true}
use mathlib.Core.List.{[]}
use lib.Dec.{compare_is_eq}
use lib.ListN.{length, take, drop}
use lib.Seq.{take_at}
use Rattle.wire.specs.Bytes.{Bytes, compare_bytes}
use Rattle.wire.proofs.Orders.{bytes_lawful}
use Rattle.dots.specs.Answer.{number_of, Refusals, first_of}
use Rattle.dots.specs.Wire.{dots_of}
use Rattle.dots.specs.Message.{Message, add, remove}
use Rattle.messages.specs.Message.{names_ok, dots_ok, message_ok, message_bytes}
use Rattle.wire.proofs.Tests.{both_left, both_right}
use Rattle.messages.specs.Read.{name_of as message_name, message_of}
use Rattle.messages.proofs.RoundTrip.{read-written, passed}
use Rattle.replica.specs.Machine.{take_in}
use Rattle.calls.specs.declared.State.{State}
use Rattle.calls.specs.State.{name_of}
use Rattle.calls.specs.Effect.{put_out}
use Rattle.calls.specs.Calls.{Result, decided, performed, take_in_refusals, take_in_done, take_in_result, add_dot, own_add_result, own_remove_result}
use Rattle.calls.specs.Exchange.{receiver_refusals, Exchanged, written_by, RoundTrips}
use Rattle.calls.proofs.Accepted.{add-accepted, remove-accepted}

same-decided : (st : State) (store : Bytes) (rs rs' : Refusals) (done done' : Result) → first_of rs ≡ first_of rs' → done ≡ done' → decided st store [] rs done ≡ decided st store [] rs' done'
same-decided st store rs rs' done done' e f = rw (e, f)

module _ (st : State) (m : Message) (ok : message_ok (name_of st) m ≡ true) where
  written : Bytes
  written = message_bytes (name_of st) m

  -- no refusal holds that speaks of the message alone, nor 7
  module _ (st' : State) (store' : Bytes) (same : name_of st' ≡ name_of st) where
    received : first_of (take_in_refusals st' store' written) ≡ first_of (receiver_refusals st' store' m)
    unfolding message_ok written
    received =
        let r = read-written (name_of st) m ok in
        let p = passed (message_bytes (name_of st) m) (ap number_of r.0) in
        let names : names_ok (message_name (message_bytes (name_of st) m)) (message_of (message_bytes (name_of st) m)) ≡ true = both_left _ (dots_ok (message_of (message_bytes (name_of st) m))) p.rules in
        let dots : dots_ok (message_of (message_bytes (name_of st) m)) ≡ true = both_right (names_ok (message_name (message_bytes (name_of st) m)) (message_of (message_bytes (name_of st) m))) _ p.rules in
        let ours : compare_is_eq (compare_bytes (message_name (message_bytes (name_of st) m)) (name_of st')) ≡ true = rw (r.1, same, bytes_lawful.self (name_of st)) in
        rw (p.marked, p.version, p.shaped, names, dots, ours, r.2)

    taken : take_in_result st' store' written ≡ decided st' store' [] (receiver_refusals st' store' m) (performed st' store' [] (take_in m) [])
    unfolding take_in_result written
    taken =
        same-decided st' store' (take_in_refusals st' store' (message_bytes (name_of st) m)) (receiver_refusals st' store' m) (take_in_done st' store' (message_bytes (name_of st) m)) (performed st' store' [] (take_in m) []) received
        (ap (λ (x : Message). performed st' store' [] (take_in x) []) (read-written (name_of st) m ok).2)

  pub exchanged : (bytes : Bytes) → bytes ≡ message_bytes (name_of st) m → Exchanged st m bytes
  unfolding written
  exchanged bytes e =
      let r = read-written (name_of st) m ok in
      rw e (record { accepted = r.0; name-is = r.1; means = r.2; taken = taken })

-- what was put out is the message
put-out : (message out : Bytes) → take (length message) (put_out message out) ≡ message
put-out message out = take_at message (drop (length message) out) (length message) refl

pub round_trips : RoundTrips
round_trips = record {
  of_add = λ st store label context out acc.
      let a = add-accepted st store label context out acc in
      exchanged st (add label (add_dot st store label context out) (dots_of context)) a.message-ok (written_by (own_add_result st store label context out))
      (ap written_by a.result_is ∙ put-out _ out);
  of_remove = λ st store context out acc.
      let a = remove-accepted st store context out acc in
      exchanged st (remove (dots_of context)) a.message-ok (written_by (own_remove_result st store context out))
      (ap written_by a.result_is ∙ put-out _ out);
}
