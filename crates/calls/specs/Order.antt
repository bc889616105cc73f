-- "Checked in this order, where they apply to the call; the first that holds is the answer." For each call an input in which as many refusals hold
-- together as can, then the same input mended, one refusal after the other: the answers read as the table. Set-up and compaction have one row each.
-- 8 and 9 never hold together: at the largest own base no counter lies above it. Both stand after 6 and before 10.
use Rattle.std.specs.Prelude.{ℕ, ◌-◌, List, [], ◌∷◌, ◌++◌, map, ◌≡◌, drop, replicate}
use Rattle.wire.specs.Bytes.{Bytes}
use Rattle.dots.specs.declared.Dot.{Dot}
use Rattle.dots.specs.Answer.{number_of}
use Rattle.dots.specs.Names.{Name, Label}
use Rattle.dots.specs.Dots.{Context, actor_of, max_counter}
use Rattle.dots.specs.Wire.{dots_bytes}
use Rattle.dots.specs.Entries.{entry}
use Rattle.dots.specs.Message.{add}
use Rattle.keys.specs.declared.KeyKind.TheVariants.{LabelKey}
use Rattle.keys.specs.Key.{Key, key_of}
use Rattle.keys.specs.Write.{write_answer}
use Rattle.keys.specs.Entry.{entry_key}
use Rattle.keys.specs.Cases.{R1, B7}
use Rattle.messages.specs.Message.{message_bytes}
use Rattle.messages.specs.Read.{read_answer}
use Rattle.calls.specs.Effect.{padded, tombstone_of}
use Rattle.calls.specs.Sequence.{Input, add_input, remove_input, message_input, list_input, page_input, lookup_input, Held, answer_of, merge_of}
use Rattle.calls.specs.Cases.{dot, dots_from, room, answers_of}

-- the first call on what is damaged, then it and the others on what is whole: a refused call leaves all as it was
abbrev mended : Held → Held → List Input → List ℕ
mended broken whole [] = []
mended broken whole (i ∷ is) = answer_of broken i ∷ answers_of whole (i ∷ is)

-- ---- what is held: actor 1 with this own base, one key, (2,129) seen

-- the window of actor 16 is 0; with bit 0 set the state is damaged
abbrev held_in : Name → ℕ → ℕ → List Dot → Held
held_in name own window dead = record {
  state = record {
    actor = actor_of 1;
    name = record { bytes = padded 16 name; len = 2 };
    clock = record { words = own ∷ 0 ∷ 129 ∷ 0 ∷ (replicate 27 0 ++ (window ∷ [])) };
    tombstone = tombstone_of dead;
    used = 19;
  };
  used = entry_key name (entry B7 (dot 1 1));
}

abbrev held : ℕ → ℕ → List Dot → Held
held = held_in R1

abbrev R2 : Name
R2 = 0x52 ∷ 0x32 ∷ []

abbrev broken : Held
broken = held 1 1 []

abbrev whole : Held
whole = held 1 0 []

-- own base at the largest counter, and one below
abbrev at_end : Held
at_end = held max_counter 0 []

abbrev near_end : Held
near_end = held (max_counter - 1) 0 []

-- 128 dots in the tombstone, (2,129) not among them
abbrev full : Held
full = held 1 0 (dots_from 2 1 128)

-- ---- contexts, each mended from the one before: out of order (6), an own dot above the own base (8), one too far (10), one for a full tombstone (11)

abbrev disordered : Context
disordered = dot 1 9 ∷ dot 3 65 ∷ dot 2 129 ∷ []

abbrev ahead : Context
ahead = dot 1 9 ∷ dot 2 129 ∷ dot 3 65 ∷ []

abbrev far : Context
far = dot 2 129 ∷ dot 3 65 ∷ []

abbrev one_more : Context
one_more = dot 2 129 ∷ []

-- ---- calls on them: the store's buffer and the output are empty or have room

abbrev adds : Label → Context → Bytes → Bytes → Input
adds label context = add_input label (dots_bytes context)

abbrev removes : Context → Bytes → Input
removes context = remove_input (dots_bytes context) []

-- an add of (4,1) with this third byte of the mark, version, set name, label, context, and bytes left over
abbrev message : ℕ → ℕ → Name → Label → Context → Bytes → Bytes
message mark version name label context rest = 0x50 ∷ 0x54 ∷ mark ∷ 0 ∷ version ∷ (drop 5 (message_bytes name (add label (dot 4 1) context)) ++ rest)

-- wrong mark, version 2, a byte left over, no label, context out of order, another set, and so on; each mended from the one before
abbrev messages : List Bytes
messages =
    message 0x4D 2 R2 [] disordered (0 ∷ [])
    ∷ message 0x4C 2 R2 [] disordered (0 ∷ [])
    ∷ message 0x4C 1 R2 [] disordered (0 ∷ [])
    ∷ message 0x4C 1 R2 [] disordered []
    ∷ message 0x4C 1 R2 B7 disordered []
    ∷ message 0x4C 1 R2 B7 ahead []
    ∷ message 0x4C 1 R1 B7 ahead []
    ∷ message 0x4C 1 R1 B7 far []
    ∷ message 0x4C 1 R1 B7 one_more []
    ∷ []

-- two controllers and an output: the first damaged, the second damaged, different sets, no room
abbrev merges : List (Held × Held × Bytes)
merges = (broken, held_in R2 1 0 [], []) ∷ (whole, held_in R2 1 1 [], []) ∷ (whole, held_in R2 1 0 [], []) ∷ (whole, whole, []) ∷ (whole, whole, room) ∷ []

-- a label key, and the output's length
abbrev keys : List (Key × ℕ)
keys = (key_of LabelKey R1 [] 1 0, 0) ∷ (key_of LabelKey R1 B7 1 0, 0) ∷ (key_of LabelKey R1 B7 1 1, 0) ∷ (key_of LabelKey R1 B7 1 1, 19) ∷ []

pub record OrderCases : Type 0 where
  pub own-add : mended broken whole (
      adds [] disordered [] []
      ∷ adds B7 disordered [] []
      ∷ adds B7 ahead [] []
      ∷ adds B7 far [] []
      ∷ adds B7 one_more [] []
      ∷ adds B7 one_more room []
      ∷ adds B7 one_more room room
      ∷ []) ≡ 1 ∷ 5 ∷ 6 ∷ 8 ∷ 10 ∷ 12 ∷ 13 ∷ 0 ∷ []
  pub own_add_at_end : answers_of at_end (adds B7 disordered [] [] ∷ adds B7 ahead [] [] ∷ []) ++ answers_of near_end (adds B7 ahead [] [] ∷ []) ≡ 6 ∷ 9 ∷ 10 ∷ []
  pub own-remove : mended broken whole (
      removes disordered []
      ∷ removes ahead []
      ∷ removes far []
      ∷ removes one_more []
      ∷ removes one_more room
      ∷ []) ≡ 1 ∷ 6 ∷ 8 ∷ 10 ∷ 13 ∷ 0 ∷ []
  pub take_in : mended broken whole (map (λ (m : Bytes). message_input m []) messages) ≡ 1 ∷ 2 ∷ 3 ∷ 4 ∷ 5 ∷ 6 ∷ 7 ∷ 8 ∷ 10 ∷ 12 ∷ []
  -- 11 stands after 10 and before 12 and 13. "Second remove of one dot at tombstone 128: 0, if that dot is in it."
  pub full-tombstone : answers_of full (
      adds B7 far [] []
      ∷ adds B7 one_more [] []
      ∷ removes far []
      ∷ removes one_more []
      ∷ message_input (message 0x4C 1 R1 B7 far []) []
      ∷ message_input (message 0x4C 1 R1 B7 one_more []) []
      ∷ removes (dot 2 128 ∷ []) room
      ∷ []) ≡ 10 ∷ 11 ∷ 10 ∷ 11 ∷ 10 ∷ 11 ∷ 0 ∷ []
  pub list : mended broken whole (list_input [] [] ∷ list_input [] room ∷ []) ≡ 1 ∷ 13 ∷ 0 ∷ []
  -- a start with a 0 byte breaks its rule, and B7 comes after it
  pub page : mended broken whole (page_input (0 ∷ []) [] [] ∷ page_input [] [] [] ∷ page_input [] [] room ∷ []) ≡ 1 ∷ 5 ∷ 13 ∷ 0 ∷ []
  pub merge : map (λ (m : Held × Held × Bytes). number_of (merge_of m.0 m.1 [] [] m.2).answer) merges ≡ 1 ∷ 1 ∷ 7 ∷ 13 ∷ 0 ∷ []
  pub lookup : mended broken whole (lookup_input [] [] ∷ lookup_input B7 [] ∷ []) ≡ 1 ∷ 5 ∷ 0 ∷ []
  -- the formats, which need no state
  pub read-message : map (λ (m : Bytes). number_of (read_answer m)) messages ≡ 2 ∷ 3 ∷ 4 ∷ 5 ∷ 6 ∷ 0 ∷ 0 ∷ 0 ∷ 0 ∷ []
  pub write_key : map (λ (k : Key × ℕ). number_of (write_answer k.0 k.1)) keys ≡ 5 ∷ 6 ∷ 13 ∷ 0 ∷ []
