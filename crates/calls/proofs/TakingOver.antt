-- What the acceptance of a hand-off says: the box that loads the image has the writer's state under an actor whose row is empty. Assumes nothing.
use Prim.Native.Nat.{ℕ}
use mathlib.Core.Path.{◌≡◌, refl, ap, ◌∙◌, subst}
use mathlib.Core.Bool.{true}
use lib.ListN.{length, drop}
use lib.Seq.{take-append_seam}
use borrow.Author.Rules.{rules}
use Rattle.wire.specs.Bytes.{Bytes}
use Rattle.dots.specs.Answer.{number_of}
use Rattle.dots.specs.declared.Answer.TheVariants.{Done}
use Rattle.dots.proofs.Table.{none-holds}
use Rattle.calls.specs.declared.State.{State}
use Rattle.calls.specs.State.{Sized, used_part}
use Rattle.calls.specs.Effect.{put_out}
use Rattle.calls.specs.Image.{image_bytes}
use Rattle.calls.specs.ImageRead.{free_of}
use Rattle.calls.specs.HandOff.{image_refusals, image_done, image_result, loaded, load_result, handed_image, hand_off_result}
use Rattle.calls.specs.HandedOff.{with_actor, Loads}
use Rattle.calls.specs.Sequence.{output}
use Rattle.calls.proofs.Decided.{decided-done, hand_off_done}
use Rattle.calls.proofs.Clauses.{undamaged}
use Rattle.calls.proofs.ImageStates.{parts-read, state-read}
use Rattle.calls.proofs.Loading.{load-done}

module _ (st : State) (store out : Bytes) (actor : ℕ) (room : Bytes) where
  pub record HandOffAccepted : Type 0 where
    pub result_is : hand_off_result st store out actor room ≡ loaded actor (image_bytes st store) room Done (with_actor actor st) (put_out (used_part st store) room)
    pub free : free_of actor st.actor.number st.clock.words ≡ true

  pub hand_off_accepted : Sized st → number_of (hand_off_result st store out actor room).answer ≡ 0 → HandOffAccepted
  unfolding image_result
  hand_off_accepted sized acc =
      let image : Bytes = image_bytes st store in
      let w = hand_off_done st store out actor room acc in
      let done = decided-done st store out (image_refusals st store out) (image_done st store out) refl w.1 in
      let u = undamaged st store (none-holds (image_refusals st store out) (search rules) done.1).0 in
      -- the image comes unaltered
      let handed : handed_image st store out actor room ≡ image = ap output done.0 ∙ take-append_seam image (drop (length image) out) in
      let load = load-done actor image room (subst (λ s. Loads actor s room) handed w.2) in
      let state = state-read st store sized u actor in
      let parts = parts-read st store sized u in
      record {
        result_is = w.0 ∙ ap (λ s. load_result actor s room) handed ∙ load.0 ∙ (λ i. loaded actor image room Done (state i) (put_out (parts.keys-read i) room));
        free = rw (parts.actor-read, state) at load.1.free;
      }
