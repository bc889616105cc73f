-- Calls in a row are the machine's, from set-up on, and keep the set's name. Assumes nothing.
use Prim.Native.Nat.{ℕ}
use mathlib.Core.Path.{◌≡◌, refl, sym, ap, ◌∙◌}
use mathlib.Core.Logic.{⊎_elim}
use mathlib.Core.Bool.{Bool, true, false, cond}
use mathlib.Core.List.Memᴰ
use mathlib.Core.List.{List, [], ◌∷◌, map, map-append}
use native.Mathlib.Omega.{arith}
use lib.ListN.{length, length-append, length-replicate}
use lib.Seq.{take-append_seam}
use borrow.Author.Rules.{rules}
use borrow.Author.Tests.{eqb-true, eqb-false, eq-eqb, leb-true, not-false}
use Rattle.wire.specs.Lists.{◌∈◌}
use Rattle.wire.specs.Bytes.{Bytes}
use Rattle.wire.proofs.Tests.{both, neither_left, neither_right}
use Rattle.wire.proofs.Lists.{member-append}
use Rattle.dots.specs.Answer.{number_of}
use Rattle.dots.specs.Names.{name_most, name_ok, text_ok}
use Rattle.dots.specs.Dots.{actor_of, actor_ok}
use Rattle.dots.specs.Wire.{dots_bytes, dots_at, dots_of}
use Rattle.dots.proofs.Table.{none-holds}
use Rattle.clock.specs.Clock.{clock_words}
use Rattle.messages.specs.Read.{name_of as message_name, message_of}
use Rattle.store.specs.Cut.{keys_after, entries_in}
use Rattle.replica.specs.Machine.{set_up as machine_set_up}
use Rattle.replica.specs.Demand3.{run as run_machine, events as events_machine, traffic as traffic_machine}
use Rattle.calls.specs.State.{clock_model, name_of, view}
use Rattle.calls.specs.Refusals.{bad_actor, bad_name}
use Rattle.calls.specs.Calls.{set_up, set_up_refusals, fresh_state}
use Rattle.calls.specs.Sequence.{Input, Held, started, accepts, step, run, events, message_bytes_of, traffic}
use Rattle.calls.specs.Demand3.{Controlled}
use Rattle.calls.proofs.Reading.{view_of}
use Rattle.calls.proofs.Decided.{Sized, refused_keeps}
use Rattle.calls.proofs.Instance.{is-machine, SizedHeld, stepped, controller}

-- ---- what the machine's theorem calls a run is a run of the calls on bytes

pub run-same : (x : SizedHeld) (is : List Input) → (run_machine clock_model controller x is).0 ≡ run x.0 is
unfolding run run_machine
run-same x [] = refl
run-same x (i ∷ is) = run-same (stepped x i) is

pub events-same : (x : SizedHeld) (is : List Input) → events_machine clock_model controller x is ≡ events x.0 is
unfolding events events_machine
events-same x [] = refl
events-same x (i ∷ is) = rw (events-same (stepped x i) is)

pub traffic-same : (x : SizedHeld) (is : List Input) → traffic_machine clock_model controller x is ≡ map message_of (traffic x.0 is)
unfolding traffic traffic_machine
traffic-same x [] = refl
traffic-same x (i ∷ is) =
    rw (traffic-same (stepped x i) is, by (accepts x.0 i) (message_bytes_of x.0 i))
    (sym (map-append message_of (cond (accepts x.0 i) (message_bytes_of x.0 i) []) (traffic (step x.0 i) is)))
  where
    by : (b : Bool) (ss : List Bytes) → cond b (map message_of ss) [] ≡ map message_of (cond b ss [])
    by true ss = refl
    by false ss = refl

-- ---- the name stays

pub name-stays : (x : SizedHeld) (i : Input) → name_of (step x.0 i).state ≡ name_of x.0.state
name-stays x i = by (accepts x.0 i) refl
  where
    by : (b : Bool) → accepts x.0 i ≡ b → name_of (step x.0 i).state ≡ name_of x.0.state
    by true e = (is-machine x.0 x.1 i (eqb-true _ 0 e)).name-after
    by false e = ap (λ (h : Held). name_of h.state) (refused_keeps x.0 x.1 i (eqb-false _ 0 e))

pub run-name : (x : SizedHeld) (is : List Input) → name_of (run x.0 is).state ≡ name_of x.0.state
unfolding run
run-name x [] = refl
run-name x (i ∷ is) = run-name (stepped x i) is ∙ name-stays x i

-- messages exchanged are of the set
pub traffic-named : (x : SizedHeld) (is : List Input) (s : Bytes) → s ∈ traffic x.0 is → message_name s ≡ name_of x.0.state
unfolding traffic
traffic-named x [] s k = absurd (Memᴰ.not-nil k)
traffic-named x (i ∷ is) s k = ⊎_elim (by (accepts x.0 i) refl) (λ k'. traffic-named (stepped x i) is s k' ∙ name-stays x i) (member-append.0 k)
  where
    by : (b : Bool) → accepts x.0 i ≡ b → s ∈ cond b (message_bytes_of x.0 i) [] → message_name s ≡ name_of x.0.state
    by true e m = (is-machine x.0 x.1 i (eqb-true _ 0 e)).named s m
    by false e m = absurd (Memᴰ.not-nil m)

-- ---- from an accepted set-up on

module _ (c : Controlled) where
  -- its actor and its name keep their rules
  pub set_up_passed : (actor_ok c.actor ≡ true) × (name_ok c.name ≡ true)
  unfolding set_up
  set_up_passed =
      let passed = none-holds (set_up_refusals c.actor c.name) (search rules) (ap number_of c.sets_up) in
      (not-false _ (neither_left _ (bad_name c.name) passed.0), not-false _ (neither_right (bad_actor c.actor) _ passed.0))

  pub fresh-state : (set_up c.actor c.name).state ≡ fresh_state c.actor c.name
  unfolding set_up
  fresh-state = ap (λ b. cond b (fresh_state c.actor c.name) (fresh_state 0 [])) (eq-eqb _ 0 (ap number_of c.sets_up))

  pub start-sized : Sized (started c.actor c.name)
  unfolding dots_bytes text_ok
  start-sized =
      let name : name_ok c.name ≡ true = set_up_passed.1 in
      let short = leb-true (length c.name) name_most (search both) in
      rw fresh-state (record { used-size = refl; arrays = record { name-size = rw (length-append, length-replicate) (omega arith); words_size = length-replicate {A = ℕ} clock_words 0; tombstone-size = refl } })

  abbrev pub start_of : SizedHeld
  start_of = (started c.actor c.name, start-sized)

  pub start-view : view_of (started c.actor c.name) ≡ machine_set_up clock_model (actor_of c.actor)
  unfolding view entries_in keys_after dots_of dots_at
  start-view = rw fresh-state

  pub start-name : name_of (started c.actor c.name).state ≡ c.name
  start-name = rw fresh-state (take-append_seam c.name _)
