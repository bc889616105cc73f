-- The one refusal, or the fresh state.
use mathlib.Core.Path.{◌≡◌, sym, ◌∙◌}
use mathlib.Core.Bool.{Bool, true, false, not, ◌&&◌, ◌||◌}
use mathlib.Core.List.{List, []}
use Prim.Native.Nat.{ℕ, ◌≤◌}
use lib.Dec.{leb}
use lib.ListN.{length}
use borrow.Author.Tests.{leb-true, not-false}
use Rattle.wire.proofs.Tests.{both, neither}
use Rattle.dots.specs.Names.{name_ok, text_ok, name_most}
use Rattle.dots.specs.declared.Answer.TheVariants.{Done, BadName}
use Rattle.calls.specs.declared.State.{State}
use Rattle.calls.specs.declared.SetUp.{SetUp}
use Rattle.calls.specs.Calls.{fresh_state, set_up}
use borrow.Author.Rules.{rules}
use Rattle.dots.specs.Dots.{actor_most}
use Rattle.controller.proofs.set_up.Goals as goal

abbrev bad : ℕ → Bool → Bool
bad actor named = not (leb 1 actor && leb actor actor_most) || not named

refused : (actor : ℕ) (name : List ℕ) (named : Bool) (st : State) → named ≡ name_ok name → bad actor named ≡ true → st ≡ fresh_state 0 []
    → ◌≡◌ {A = SetUp} (record { answer = BadName; state = st }) (set_up actor name)
unfolding set_up
refused actor name named st e t f = rw (f, ← e, t)

done : (actor : ℕ) (name : List ℕ) (named : Bool) (st : State) → named ≡ name_ok name → bad actor named ≡ false → st ≡ fresh_state actor name
    → ◌≡◌ {A = SetUp} (record { answer = Done; state = st }) (set_up actor name)
unfolding set_up
done actor name named st e t f = rw (f, ← e, t)

short : (actor : ℕ) (name : List ℕ) (named : Bool) → named ≡ name_ok name → bad actor named ≡ false → length name ≤ name_most
unfolding text_ok
short actor name named e t = let ok : name_ok name ≡ true = sym e ∙ not-false named (search neither) in leb-true (length name) name_most (search both)

pub returns-then-actor-named : goal.returns-then-actor-named
returns-then-actor-named c = search (rules, refused)

pub fresh_state-requires-2 : goal.fresh_state-requires-2
fresh_state-requires-2 c = search (rules, short)

pub returns : goal.returns
returns c = search (rules, done)
