-- The other cases of document 01's "Both sides of the line", its slips that no settled case shows, what calls leave past what they write, pages, merged reads, and document 02's request 5.
use Rattle.std.specs.Prelude.{ℕ, Bool, true, false, List, [], ◌∷◌, ◌++◌, map, ◌≡◌, replicate}
use Rattle.wire.specs.Bytes.{Bytes}
use Rattle.dots.specs.Answer.{number_of}
use Rattle.dots.specs.declared.Answer.TheVariants.{Done}
use Rattle.dots.specs.Names.{Label}
use Rattle.dots.specs.Dots.{Context}
use Rattle.dots.specs.Wire.{dots_bytes}
use Rattle.dots.specs.Entries.{entry}
use Rattle.dots.specs.Message.{add, remove}
use Rattle.keys.specs.Entry.{entry_key}
use Rattle.keys.specs.Cases.{R1, B7, B70, B8}
use Rattle.messages.specs.Message.{message_bytes, message_most}
use Rattle.messages.specs.Cases.{a1}
use Rattle.calls.specs.Calls.{Looked, more_follow, lookup_result}
use Rattle.calls.specs.Sequence.{Input, add_input, remove_input, message_input, list_input, page_input, compact_input, Held, started, result_of, answer_of, output, run, merge_of}
use Rattle.calls.specs.Cases.{dot, dots_from, adds, removes, takes_in, compacts, room, row, only_b7, answers_of, shown, only_b8}

-- room for the longest message
abbrev wide : Bytes
wide = replicate message_most 0

abbrev fresh : Held
fresh = started 1 R1

abbrev adds_label : Bytes → Context → Input
adds_label label context = add_input label (dots_bytes context) wide wide

-- own add, own remove, and both kinds of message taken in, with a context of k dots of actor 2
abbrev removing : ℕ → List Input
removing k =
    let ds = dots_from 2 1 k in
    adds_label B7 ds ∷ remove_input (dots_bytes ds) wide wide ∷ takes_in (add B7 (dot 3 1) ds) ∷ takes_in (remove ds) ∷ []

-- a controller that holds B7 twice, once dead
abbrev added : Held
added = run fresh (adds_label B7 [] ∷ adds_label B7 (dot 1 1 ∷ []) ∷ [])

abbrev looked_up : Bytes → Looked
looked_up label = lookup_result added.state (added.used ++ wide) label

abbrev key : ℕ → ℕ → Bytes
key a n = entry_key R1 (entry B7 (dot a n))

-- one that lists B7 and B8, 14 bytes each
abbrev two : Held
two = run fresh (adds_label B7 [] ∷ adds_label B8 [] ∷ [])

-- of a page after this label into this many bytes: the answer, the number of labels, and whether more follow
abbrev paged : Held → Bytes × ℕ → ℕ × ℕ × Bool
paged h (start, n) =
    let out : Bytes = replicate n 0 in
    let r = result_of h (page_input start [] out) in
    (number_of r.answer, r.labels, more_follow h.state (h.used ++ []) start out)

-- bytes on both sides of 20 and of 7E, as the last of a label
abbrev sides : List Label
sides = map (λ (b : ℕ). 0x42 ∷ b ∷ []) (0x1F ∷ 0x20 ∷ 0x7E ∷ 0x7F ∷ 0x80 ∷ 0xFF ∷ [])

-- a controller that holds a label with a control byte, (1,1), from before request 5
abbrev bell : Label
bell = 0x42 ∷ 0x07 ∷ []

abbrev older : Held
older = record { state = (run fresh (adds_label B7 [] ∷ [])).state; used = entry_key R1 (entry bell (dot 1 1)) }

-- ---- merged reads: a rack that lists B7 and B8, and one that took in B7's add and its remove, and compacted; it has not seen B8's

abbrev dropped : Held
dropped = run (started 2 R1) (takes_in (add B7 (dot 1 1) []) ∷ takes_in (remove (dot 1 1 ∷ [])) ∷ compacts ∷ [])

-- of a merged read into this many bytes: the answer, the number of labels, and the bytes
abbrev merged : Held → Held → ℕ → ℕ × ℕ × Bytes
merged h k n = let r = merge_of h k [] room (replicate n 0) in (number_of r.answer, r.labels, output r)

pub record LineCases : Type 0 where
  -- "Label of 32 bytes taken, 33: 5."
  pub label_32_33 : answers_of fresh (adds_label (replicate 32 65) [] ∷ adds_label (replicate 33 65) [] ∷ []) ≡ 0 ∷ 5 ∷ []
  -- "64 taken, 65 refused with 6"; and a context of one byte
  pub context_64_65 : answers_of fresh (removing 64 ++ (removing 65 ++ (remove_input (1 ∷ []) wide wide ∷ []))) ≡ 0 ∷ 0 ∷ 0 ∷ 0 ∷ 6 ∷ 6 ∷ 6 ∷ 6 ∷ 6 ∷ []
  -- "Version 2 with unknown kind: 3."
  pub version-first : answers_of fresh (message_input (0x50 ∷ 0x54 ∷ 0x4C ∷ 0 ∷ 2 ∷ 0x7A ∷ []) wide ∷ []) ≡ 3 ∷ []
  -- "Own add at own base 1 with context {(1,2)}: 6, with {(1,3)}: 8."
  pub own-dot : answers_of fresh (adds_label B7 [] ∷ adds_label B7 (dot 1 2 ∷ []) ∷ adds_label B7 (dot 1 3 ∷ []) ∷ []) ≡ 0 ∷ 6 ∷ 8 ∷ []
  -- "Store buffer of 0 bytes, first add: 12."; and of one byte too few
  pub no_room : answers_of fresh (add_input B7 [] [] wide ∷ add_input B7 [] (replicate 18 0) wide ∷ add_input B7 [] (replicate 19 0) wide ∷ []) ≡ 12 ∷ 12 ∷ 0 ∷ []
  -- a message, and a listing, one byte too long for the output
  pub no_output : answers_of fresh (add_input B7 [] wide (replicate 21 0) ∷ add_input B7 [] wide (replicate 22 0) ∷ list_input wide (replicate 13 0) ∷ list_input wide (replicate 14 0) ∷ []) ≡ 13 ∷ 0 ∷ 13 ∷ 0 ∷ []
  -- "Output past the bytes written, and store past the larger of the old and new used lengths, keep their values."
  pub store-past : (result_of fresh (add_input B7 [] (replicate 22 7) wide)).store ≡ key 1 1 ++ (7 ∷ 7 ∷ 7 ∷ [])
  pub output-past : (result_of fresh (add_input B7 [] wide (replicate 24 9))).out ≡ a1.bytes ++ (9 ∷ 9 ∷ [])
  -- "Freed bytes at the end of the old used part become 0"
  pub freed_bytes : (result_of added (compact_input (7 ∷ 7 ∷ []))).store ≡ key 1 2 ++ (replicate 19 0 ++ (7 ∷ 7 ∷ []))
  -- lookup's stretch: of a label's keys, of a label with none
  pub stretch : looked_up B7 ≡ record { answer = Done; start = 0; end = 38; listed = true }
  pub stretch-empty : looked_up B8 ≡ record { answer = Done; start = 38; end = 38; listed = false }
  -- slip 1: an add that comes again after its key was compacted away. (Slip 3 is R1, slip 4 is W4, slip 5 is C1.)
  pub slip_1 : shown (started 2 R1) (takes_in (add B7 (dot 1 1) []) ∷ takes_in (remove (dot 1 1 ∷ [])) ∷ compacts ∷ takes_in (add B7 (dot 1 1) []) ∷ [])
      ≡ record { answers = 0 ∷ 0 ∷ 0 ∷ 0 ∷ []; put-out = []; row_3 = row 0 0; tombstone = []; used = 0; listing = []; labels = 0 }
  -- slip 2: a context removes the dots that it lists, and none below them
  pub slip_2 : shown fresh (adds [] ∷ add_input B8 [] room room ∷ removes (dot 1 2 ∷ []) ∷ [])
      ≡ record { answers = 0 ∷ 0 ∷ 0 ∷ []; put-out = message_bytes R1 (remove (dot 1 2 ∷ [])); row_3 = row 0 0; tombstone = dot 1 2 ∷ []; used = 38; listing = only_b7 1 1; labels = 1 }
  -- pages from the front: no room for the first label, just enough for it, too little for both, enough
  pub page-room : map (paged two) (([], 13) ∷ ([], 14) ∷ ([], 27) ∷ ([], 28) ∷ []) ≡ (13, 0, false) ∷ (0, 1, true) ∷ (0, 1, true) ∷ (0, 2, false) ∷ []
  -- after a label that is listed, after one that is not, after the last; and of an empty listing
  pub page-start : map (paged two) ((B7, 14) ∷ (B70, 14) ∷ (B8, 0) ∷ []) ≡ (0, 1, false) ∷ (0, 1, false) ∷ (0, 0, false) ∷ []
  pub page-empty : paged fresh ([], 0) ≡ (0, 0, false)
  pub page-output : output (result_of two (page_input [] [] (replicate 27 0))) ≡ only_b7 1 1
  -- request 5: "own adds and add messages refuse with 5 any label byte outside 20 to 7E hexadecimal"
  pub print_own : map (λ (label : Label). answer_of fresh (adds_label label [])) sides ≡ 5 ∷ 0 ∷ 0 ∷ 5 ∷ 5 ∷ 5 ∷ []
  pub print_taken : map (λ (label : Label). answer_of fresh (takes_in (add label (dot 2 1) []))) sides ≡ 5 ∷ 0 ∷ 0 ∷ 5 ∷ 5 ∷ 5 ∷ []
  -- "A store that already holds such a label is not damaged by it and is still listed, looked up and compacted."
  pub older-listed : map (paged older) (([], 14) ∷ (bell, 0) ∷ []) ≡ (0, 1, false) ∷ (0, 0, false) ∷ []
  pub older-found : lookup_result older.state older.used bell ≡ record { answer = Done; start = 0; end = 19; listed = true }
  pub older-dropped : shown older (adds [] ∷ adds_label bell (dot 1 1 ∷ []) ∷ removes (dot 1 1 ∷ []) ∷ compacts ∷ [])
      ≡ record { answers = 0 ∷ 5 ∷ 0 ∷ 0 ∷ []; put-out = []; row_3 = row 0 0; tombstone = []; used = 19; listing = only_b7 1 2; labels = 1 }
  -- the dot that the second rack has dropped is not listed, the one that it has not seen is; either may be asked first
  pub merge-dropped : merged two dropped 14 ≡ (0, 1, only_b8 1 2)
  pub merge_other_way : merged dropped two 14 ≡ (0, 1, only_b8 1 2)
  -- a rack merged with itself gives its own listing, one byte short none
  pub merge-itself : merged two two 28 ≡ (0, 2, only_b7 1 1 ++ only_b8 1 2)
  pub merge-output : merged two two 27 ≡ (13, 0, [])
  pub merge-empty : merged fresh fresh 0 ≡ (0, 0, [])
  -- the output past the bytes written keeps its values
  pub merge-past : (merge_of two dropped [] [] (replicate 16 9)).out ≡ only_b8 1 2 ++ (9 ∷ 9 ∷ [])
