-- Cases of hand-off images (document 02, request 7): the box of case A1, actor 1 of set "R1" that added "B7", is swapped for another.
use Rattle.std.specs.Prelude.{ℕ, [], ◌∷◌, ◌++◌, map, ◌≡◌, length, replicate}
use Rattle.wire.specs.Bytes.{Bytes}
use Rattle.dots.specs.declared.Answer.TheVariants.{Done}
use Rattle.dots.specs.Answer.{number_of}
use Rattle.keys.specs.Cases.{R1}
use Rattle.calls.specs.HandOff.{image_result, loaded, load_result}
use Rattle.calls.specs.HandedOff.{with_actor}
use Rattle.calls.specs.Sequence.{Held, started, output, run}
use Rattle.calls.specs.Cases.{adds}

abbrev box : Held
box = run (started 1 R1) (adds [] ∷ [])

-- mark, version, kind, "R1", actor 1
abbrev front : Bytes
front = 0x50 ∷ 0x54 ∷ 0x4C ∷ 0x00 ∷ 0x01 ∷ 0x69 ∷ 0x02 ∷ 0x52 ∷ 0x31 ∷ 0x01 ∷ []

-- row 1 with base 1, the other rows, no dots in the tombstone
abbrev clock : Bytes
clock = 0x00 ∷ 0x00 ∷ 0x00 ∷ 0x00 ∷ 0x00 ∷ 0x00 ∷ 0x00 ∷ 0x01 ∷ replicate 249 0

-- 19 bytes used: the key of B7 with the dot (1,1)
abbrev stored : Bytes
stored = 0x00 ∷ 0x00 ∷ 0x00 ∷ 0x13 ∷ 0x02 ∷ 0x01 ∷ 0x52 ∷ 0x31 ∷ 0x00 ∷ 0x65 ∷ 0x42 ∷ 0x37 ∷ 0x00 ∷ 0x01 ∷ 0x00 ∷ 0x00 ∷ 0x00 ∷ 0x00 ∷ 0x00 ∷ 0x00 ∷ 0x00 ∷ 0x00 ∷ 0x01 ∷ []

abbrev crc : ℕ → Bytes
crc last = 0x23 ∷ 0xFE ∷ 0x6B ∷ last ∷ []

-- the image, but for the last byte, and the image
abbrev ending : ℕ → Bytes
ending last = front ++ (clock ++ (stored ++ crc last))

abbrev image : Bytes
image = ending 0xCB

-- the answer to a load under an actor into a store of so many bytes
abbrev answers : Bytes → ℕ × ℕ → ℕ
answers s (actor, room) = number_of (load_result actor s (replicate room 0)).answer

pub record ImageCases : Type 0 where
  pub written : output (image_result box.state box.used (replicate (length image) 0)) ≡ image
  pub loads : load_result 2 image (replicate 20 0) ≡ loaded 2 image (replicate 20 0) Done (with_actor 2 box.state) (box.used ++ (0 ∷ []))
  -- "The new box takes an actor from 1 to 16, not the writer's ... else 15"; "a lent store shorter than the used length is 12"
  pub answered : map (answers image) ((16, 19) ∷ (1, 19) ∷ (0, 19) ∷ (17, 19) ∷ (2, 18) ∷ []) ≡ 0 ∷ 15 ∷ 15 ∷ 15 ∷ 12 ∷ []
  -- "A wrong CRC is 14", before 15
  pub changed : map (answers (ending 0xCA)) ((2, 19) ∷ (1, 19) ∷ []) ≡ 14 ∷ 14 ∷ []
