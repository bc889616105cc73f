-- What hand-off images promise.
use Rattle.std.specs.Prelude.{ℕ, ◌≤◌, true, false, [], ◌∷◌, ◌++◌, ◌≡◌, length}
use Rattle.wire.specs.Lists.{◌∈◌}
use Rattle.wire.specs.Bytes.{Bytes, AreBytes}
use Rattle.dots.specs.declared.Answer.TheVariants.{Done}
use Rattle.dots.specs.Answer.{number_of}
use Rattle.dots.specs.Dots.{actor_of}
use Rattle.store.specs.Valid.{store_most}
use Rattle.calls.specs.declared.State.{State}
use Rattle.calls.specs.State.{Sized, used_part}
use Rattle.calls.specs.Damage.{damaged}
use Rattle.calls.specs.Effect.{put_out}
use Rattle.calls.specs.Image.{image_under, image_bytes}
use Rattle.calls.specs.ImageRead.{layout_of, writer_at, free_of}
use Rattle.calls.specs.HandOff.{loaded, load_result}

-- the state under another actor
abbrev pub with_actor : ℕ → State → State
with_actor actor st = record { actor = actor_of actor; name = st.name; clock = st.clock; tombstone = st.tombstone; used = st.used }

abbrev pub Loads : ℕ → Bytes → Bytes → Type 0
Loads actor s store = number_of (load_result actor s store).answer ≡ 0

-- what an undamaged controller wrote loads as its state under the new actor, with its keys at the store's front
abbrev pub LoadsWritten : Type 0
LoadsWritten = (st : State) (store : Bytes) (actor : ℕ) (room : Bytes) → Sized st → damaged st store ≡ false
    → free_of actor st.actor.number st.clock.words ≡ true → st.used ≤ length room → length room ≤ store_most
    → load_result actor (image_bytes st store) room ≡ loaded actor (image_bytes st store) room Done (with_actor actor st) (put_out (used_part st store) room)

-- an accepted load leaves an undamaged state
abbrev pub LoadedUndamaged : Type 0
LoadedUndamaged = (actor : ℕ) (s store : Bytes) → Loads actor s store → damaged (load_result actor s store).state (load_result actor s store).store ≡ false

-- "An image loaded and at once written again differs in actor and CRC only": it is the image of what was loaded, under the writer's actor.
abbrev pub WrittenAgain : Type 0
WrittenAgain = (actor : ℕ) (s store : Bytes) → AreBytes s → Loads actor s store
    → s ≡ image_under (writer_at s (layout_of s)) (load_result actor s store).state (load_result actor s store).store

-- an accepted image with any one byte changed is refused: 2, 3, 4 or 14
abbrev pub OneByteRefused : Type 0
OneByteRefused = (actor : ℕ) (xs ys : Bytes) (a b : ℕ) (store : Bytes) → AreBytes (xs ++ (a ∷ ys)) → AreBytes (xs ++ (b ∷ ys)) → (a ≡ b → ⊥)
    → Loads actor (xs ++ (a ∷ ys)) store → number_of (load_result actor (xs ++ (b ∷ ys)) store).answer ∈ (2 ∷ 3 ∷ 4 ∷ 14 ∷ [])

pub record HandedOff : Type 0 where
  pub loads-written : LoadsWritten
  pub loaded-undamaged : LoadedUndamaged
  pub written_again : WrittenAgain
  pub one_byte_refused : OneByteRefused
