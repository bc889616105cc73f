-- Worked cases of document 01, "Both sides of the line", and of document 02, request 5: set "R1", label "B7".
use Rattle.std.specs.Prelude.{ℕ, ◌≡◌, List, [], ◌∷◌, replicate}
use Rattle.wire.specs.Bytes.{Bytes}
use Rattle.dots.specs.declared.Answer.TheVariants.{Done}
use Rattle.dots.specs.Answer.{number_of}
use Rattle.dots.specs.Names.{Name, Label}
use Rattle.dots.specs.Dots.{actor_of, dot_of, consecutive}
use Rattle.dots.specs.Message.{Message, add, remove}
use Rattle.messages.specs.Message.{message_bytes, message_most}
use Rattle.messages.specs.Read.{name_of, message_of, read_answer}

-- a message of a set, and its bytes
pub record MessageCase : Type 0 where
  pub name : Name
  pub message : Message
  pub bytes : Bytes

-- the message is written as the bytes, and the bytes are accepted and say the message
pub record Holds (c : MessageCase) : Type 0 where
  pub written : message_bytes c.name c.message ≡ c.bytes
  pub accepted : read_answer c.bytes ≡ Done
  pub named : name_of c.bytes ≡ c.name
  pub read : message_of c.bytes ≡ c.message

abbrev pub set_r1 : Name
set_r1 = 0x52 ∷ 0x31 ∷ []

abbrev pub label_b7 : Label
label_b7 = 0x42 ∷ 0x37 ∷ []

-- "M1 remove with context {(3,258)}: 50 54 4C 00 01 72 02 52 31 01 03 00 00 00 00 00 00 01 02"
abbrev pub m1 : MessageCase
m1 = record {
  name = set_r1;
  message = remove (dot_of (actor_of 3) 258 ∷ []);
  bytes = 0x50 ∷ 0x54 ∷ 0x4C ∷ 0x00 ∷ 0x01 ∷ 0x72 ∷ 0x02 ∷ 0x52 ∷ 0x31 ∷ 0x01 ∷ 0x03 ∷ 0x00 ∷ 0x00 ∷ 0x00 ∷ 0x00 ∷ 0x00 ∷ 0x00 ∷ 0x01 ∷ 0x02 ∷ [];
}

-- "A1 fresh actor 1 adds B7, empty context: 50 54 4C 00 01 61 02 52 31 02 42 37 01 00 00 00 00 00 00 00 01 00"
abbrev pub a1 : MessageCase
a1 = record {
  name = set_r1;
  message = add label_b7 (dot_of (actor_of 1) 1) [];
  bytes = 0x50 ∷ 0x54 ∷ 0x4C ∷ 0x00 ∷ 0x01 ∷ 0x61 ∷ 0x02 ∷ 0x52 ∷ 0x31 ∷ 0x02 ∷ 0x42 ∷ 0x37 ∷ 0x01 ∷ 0x00 ∷ 0x00 ∷ 0x00 ∷ 0x00 ∷ 0x00 ∷ 0x00 ∷ 0x00 ∷ 0x01 ∷ 0x00 ∷ [];
}

-- ---- refusals

-- bytes, and the number of their answer
abbrev pub Answers : List (Bytes × ℕ) → Type 0
Answers [] = Unit {0}
Answers (c ∷ cs) = (number_of (read_answer c.0) ≡ c.1) × Answers cs

-- "PTL" and one byte; version 2 with no more bytes, and with unknown kind; version 1 with no more bytes; a byte left over;
-- a label of 33 bytes; a context of 65 dots; an add whose context has its own dot
abbrev pub refused_cases : List (Bytes × ℕ)
refused_cases =
    (0x50 ∷ 0x54 ∷ 0x4C ∷ 0x00 ∷ [], 2)
    ∷ (0x50 ∷ 0x54 ∷ 0x4C ∷ 0x00 ∷ 0x02 ∷ [], 3)
    ∷ (0x50 ∷ 0x54 ∷ 0x4C ∷ 0x00 ∷ 0x02 ∷ 0x7A ∷ [], 3)
    ∷ (0x50 ∷ 0x54 ∷ 0x4C ∷ 0x00 ∷ 0x01 ∷ [], 4)
    ∷ (0x50 ∷ 0x54 ∷ 0x4C ∷ 0x00 ∷ 0x01 ∷ 0x72 ∷ 0x02 ∷ 0x52 ∷ 0x31 ∷ 0x00 ∷ 0x00 ∷ [], 4)
    ∷ (message_bytes set_r1 (add (replicate 33 0x42) (dot_of (actor_of 1) 1) []), 5)
    ∷ (message_bytes set_r1 (remove (consecutive (actor_of 3) 1 65)), 6)
    ∷ (message_bytes set_r1 (add label_b7 (dot_of (actor_of 3) 2) (dot_of (actor_of 3) 2 ∷ [])), 6)
    ∷ []

-- an add of a label that ends with this byte
abbrev ends_with : ℕ → Bytes
ends_with b = message_bytes set_r1 (add (0x42 ∷ b ∷ []) (dot_of (actor_of 1) 1) [])

-- document 02, request 5: "refuse with 5 any label byte outside 20 to 7E hexadecimal"
abbrev pub print_cases : List (Bytes × ℕ)
print_cases = (ends_with 0x1F, 5) ∷ (ends_with 0x20, 0) ∷ (ends_with 0x7E, 0) ∷ (ends_with 0x7F, 5) ∷ (ends_with 0xFF, 5) ∷ []

-- all of them, and "The longest message becomes 642 bytes"
pub record MessageCases : Type 0 where
  pub M1 : Holds m1
  pub A1 : Holds a1
  pub refused : Answers refused_cases
  pub prints : Answers print_cases
  pub longest : message_most ≡ 642
