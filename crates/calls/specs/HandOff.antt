-- Writing a hand-off image, loading one, and both in a row: "Swapping a dead box".
use Rattle.std.specs.Prelude.{ℕ, not, cond, [], ◌∷◌, eqb, ltb, length, take}
use Rattle.wire.specs.Bytes.{Bytes, part_of}
use Rattle.dots.specs.declared.Answer.{Answer}
use Rattle.dots.specs.declared.Answer.TheVariants.{Done, Damaged, NoMark, BadVersion, BadShape, BadName, BadDot, StoreFull, OutputShort, BadChecksum, ActorTaken}
use Rattle.dots.specs.Answer.{Refusals, number_of}
use Rattle.messages.specs.Read.{mark_ok}
use Rattle.store.specs.Valid.{store_most}
use Rattle.calls.specs.declared.State.{State}
use Rattle.calls.specs.declared.ImageLayout.{ImageLayout}
use Rattle.calls.specs.Damage.{damaged}
use Rattle.calls.specs.Effect.{put_out}
use Rattle.calls.specs.Refusals.{output_short}
use Rattle.calls.specs.Calls.{Result, refused, decided, fresh_state}
use Rattle.calls.specs.Image.{image_bytes}
use Rattle.calls.specs.ImageRead.{version_ok, layout_of, shape_ok, crc_ok, state_at, written_at, actor_free, writer_ok}

-- ---- writing

module _ (st : State) (store out : Bytes) where
  abbrev pub image_refusals : Refusals
  image_refusals = (damaged st store, Damaged) ∷ (output_short out (image_bytes st store), OutputShort) ∷ []

  abbrev pub image_done : Result
  image_done = record { answer = Done; state = st; store = store; out = put_out (image_bytes st store) out; written = length (image_bytes st store); labels = 0 }

  unfoldable pub image_result : Result
  image_result = decided st store out image_refusals image_done

-- ---- loading

module _ (actor room : ℕ) (s : Bytes) (l : ImageLayout) where
  -- "contents that would otherwise be a damaged state under the writer's actor, or a used length over 65,536, are 6; a lent store shorter than the used
  -- length is 12". The keys are judged as a store that is just as long as they are.
  abbrev pub content_refusals : Refusals
  content_refusals = (damaged (written_at s l) (part_of s l.keys), BadDot) ∷ (ltb room l.keys.len, StoreFull) ∷ []

  -- "The new box takes an actor ... else 15", "before 5"
  abbrev pub actor_refusals : Refusals
  actor_refusals = (not (actor_free actor s l), ActorTaken) ∷ (not (writer_ok s l), BadName) ∷ content_refusals

  -- "A wrong CRC is 14", "after 4"
  abbrev pub shape_refusals : Refusals
  shape_refusals = (not (shape_ok s l), BadShape) ∷ (not (crc_ok s), BadChecksum) ∷ actor_refusals

module _ (actor : ℕ) (s store : Bytes) where
  -- a lent store "is longer than 65,536" is 1, as for every call that is lent one
  abbrev pub load_refusals : Refusals
  load_refusals =
      (ltb store_most (length store), Damaged)
      ∷ (not (mark_ok s), NoMark)
      ∷ (not (version_ok s), BadVersion)
      ∷ shape_refusals actor (length store) s (layout_of s)

  -- a state and a store, no output
  abbrev pub loaded : Answer → State → Bytes → Result
  loaded answer st kept = record { answer = answer; state = st; store = kept; out = []; written = 0; labels = 0 }

  -- the fields at the places of a layout; "Store past the loaded keys keeps its values."
  abbrev pub loaded_at : ImageLayout → Result
  loaded_at l = loaded Done (state_at actor s l) (put_out (part_of s l.keys) store)

  -- "A refused load gives the state of a refused set-up."
  unfoldable pub load_result : Result
  load_result = decided (fresh_state 0 []) store [] load_refusals (loaded_at (layout_of s))

-- ---- a hand-off: the image that an accepted call wrote, come unaltered, loaded under another actor into another store; where either is refused the writer goes on

module _ (st : State) (store out : Bytes) (actor : ℕ) (room : Bytes) where
  abbrev pub handed_image : Bytes
  handed_image = take (image_result st store out).written (image_result st store out).out

  abbrev pub hand_off_answer : Answer
  hand_off_answer = cond (eqb (number_of (image_result st store out).answer) 0) (load_result actor handed_image room).answer (image_result st store out).answer

  unfoldable pub hand_off_result : Result
  hand_off_result = cond (eqb (number_of hand_off_answer) 0) (load_result actor handed_image room) (refused st store [] hand_off_answer)
