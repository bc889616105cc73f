-- The fields are those of the definition.
use mathlib.Core.Path.{◌≡◌}
use mathlib.Core.List.{List}
use Prim.Native.Nat.{ℕ}
use lib.ListN.{length, replicate}
use Rattle.dots.specs.Dots.{actor_of}
use Rattle.dots.specs.Wire.{dots_bytes, tombstone_size}
use Rattle.calls.specs.declared.State.{State}
use Rattle.calls.specs.Calls.{fresh_state}
use Rattle.calls.specs.Effect.{padded}
use Rattle.clock.specs.Clock.{zero_clock}
use Rattle.dots.specs.Names.{name_most}
use Rattle.controller.proofs.fresh_state.Goals as goal

made : (actor : ℕ) (name bytes : List ℕ) → bytes ≡ padded name_most name → ◌≡◌ {A = State} (record {
  actor = actor_of actor;
  name = record { bytes = bytes; len = length name };
  clock = record { words = zero_clock };
  tombstone = record { bytes = replicate tombstone_size 0; count = 0 };
  used = 0;
}) (fresh_state actor name)
unfolding dots_bytes
made actor name bytes e = rw e

pub returns : goal.returns
returns c = let a = c.args in made a.actor a.name.now c.padded.result c.padded.ensures
