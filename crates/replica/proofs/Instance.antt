-- The record `Controller` can be met: the machine over the clock of 16 rows is a controller, of which demand 3 then holds. Assumes nothing.
use mathlib.Core.Path.{◌≡◌, refl, ap, subst}
use mathlib.Core.Bool.{Bool, true, false, cond}
use Prim.Native.Nat.{ℕ}
use lib.Dec.{T, eqb}
use Rattle.wire.proofs.Tests.{pass}
use Rattle.replica.specs.Machine.{Call, State, Controller, effect, exchanged, allowed}
use Rattle.replica.specs.Demand3.{FollowsTheRule, ReplicasAgree}
use Rattle.replica.specs.Read.{TwoRacks}
use Rattle.replica.specs.Network.{WorkshopsHold}
use Rattle.replica.specs.Cases.{clock}
use Rattle.replica.proofs.RowClock.{controllers_follow, controllers_agree, controllers_merge, controllers_hold}

unfoldable pub number : Bool → ℕ
number true = 0
number false = 1

pub done : (b : Bool) → number b ≡ 0 → b ≡ true
unfolding number
done true e = refl
done false e = absurd (subst (λ n. T (eqb n 1)) e tt)

-- it refuses nothing that it need not
unfoldable pub machine : Controller clock
unfolding number
machine = record {
  Held = State clock;
  Input = Call;
  answer = λ s c. number (allowed clock s c);
  step = λ s c. cond (allowed clock s c) (effect clock s c) s;
  message = exchanged clock;
  view = λ s. s;
  call_of = λ c. c;
  does = λ s c e. ap (λ (b : Bool). cond b (effect clock s c) s) (done (allowed clock s c) e);
  exchanges = λ s c e. refl;
  refuses = λ s c n. refused s c (allowed clock s c) n;
  guarded = λ s c e. pass (done (allowed clock s c) e);
}
  where
    refused : (s : State clock) (c : Call) (b : Bool) → (number b ≡ 0 → ⊥) → cond b (effect clock s c) s ≡ s
    refused s c true n = absurd (n refl)
    refused s c false n = refl

pub machine_follows_the_rule : FollowsTheRule clock machine
machine_follows_the_rule = controllers_follow machine

pub machines_agree : ReplicasAgree clock machine
machines_agree = controllers_agree machine

pub machines_merge : TwoRacks clock machine
machines_merge = controllers_merge machine

pub machines_hold : WorkshopsHold clock machine
machines_hold = controllers_hold machine
