-- What writing an image leaves: its length, and each answer. Assumes nothing.
use Prim.Native.Nat.{ℕ, ◌≤◌, ◌<◌}
use mathlib.Core.Path.{◌≡◌, refl, sym, ◌∙◌}
use mathlib.Core.Bool.{true, false}
use native.Mathlib.Omega.{arith}
use lib.ListN.{length}
use borrow.Author.Tests.{lt-ltb, le-ltb}
use Rattle.wire.specs.Bytes.{Bytes}
use Rattle.std.specs.Prelude.{Ok, Err}
use Rattle.dots.specs.declared.Answer.TheVariants.{Damaged, OutputShort}
use Rattle.calls.specs.declared.State.{State}
use Rattle.calls.specs.State.{Sized, name_of, used_part}
use Rattle.calls.specs.Damage.{damaged}
use Rattle.calls.specs.Image.{tombstone_bytes, image_under, image_bytes}
use Rattle.calls.specs.HandOff.{image_result}
use Rattle.calls.proofs.Clauses.{Undamaged, undamaged, name_most_lem, dots_most, used-fits, store-fits}
use Rattle.calls.proofs.ImageCrc.{length-with_crc}
use Rattle.calls.proofs.ImageTrip.{body_of, length_body}
use Rattle.calls.proofs.ImageStates.{name-length, dots-length, keys_length}
use Rattle.image.specs.Sizes.{image_size}
use Rattle.image.specs.Writing.{PutsImage, Writable}
use Rattle.image.specs.Promise.{WritesImage}

module _ (st : State) (store : Bytes) where
  pub write_damaged : (out : Bytes) → damaged st store ≡ true → WritesImage (image_result st store out) out (Err Damaged)
  unfolding image_result
  write_damaged out d = rw d (record { answered = refl; written_is = refl; out-is = refl })

  module _ (sized : Sized st) (whole : damaged st store ≡ false) where
    clauses : Undamaged st store
    clauses = undamaged st store whole

    image-length : length (image_bytes st store) ≡ image_size st
    unfolding image_under
    image-length = omega (
      arith,
      length-with_crc (body_of st.actor.number (name_of st) st.clock.words (tombstone_bytes st) (used_part st store)),
      length_body st.actor.number (name_of st) st.clock.words (tombstone_bytes st) (used_part st store),
      name-length st store sized clauses,
      dots-length st store sized clauses,
      keys_length st store sized clauses,
    )

    pub writable : Writable st (length store)
    writable = record {
      sized = sized;
      short-name = name_most_lem st store clauses;
      few = dots_most st store clauses;
      used-fits = used-fits st store clauses;
      store-fits = store-fits st store clauses;
    }

    -- by the room for it
    module _ (size : ℕ) (counted : size ≡ image_size st) (out : Bytes) where
      long : length (image_bytes st store) ≡ size
      long = image-length ∙ sym counted

      pub write_short : length out < size → WritesImage (image_result st store out) out (Err OutputShort)
      unfolding image_result
      write_short less =
          let short = lt-ltb (length out) (length (image_bytes st store)) (rw long less) in
          rw (whole, short) (record { answered = refl; written_is = refl; out-is = refl })

      pub write_done : (out' : Bytes) (r : ℕ) → size ≤ length out → PutsImage (image_bytes st store) out out' r → WritesImage (image_result st store out) out' (Ok r)
      unfolding image_result
      write_done out' r enough put =
          let room = le-ltb (length out) (length (image_bytes st store)) (rw long enough) in
          rw (whole, room) (record { answered = refl; written_is = put.size; out-is = put.bytes })
