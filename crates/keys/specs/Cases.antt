-- Cases of document 01, "Both sides of the line": set "R1", labels "B7", "B70" and "B8".
use Rattle.std.specs.Prelude.{ℕ, ◌≡◌, true, [], ◌∷◌, replicate}
use Rattle.std.proofs.Math.Option.{some}
use Rattle.wire.specs.Lists.{ascends}
use Rattle.wire.specs.Bytes.{Bytes, span, compare_bytes}
use Rattle.dots.specs.declared.Dot.{Dot}
use Rattle.dots.specs.declared.Answer.TheVariants.{Done, BadName}
use Rattle.dots.specs.Dots.{actor_of, dot_of}
use Rattle.dots.specs.Entries.{Entry, entry}
use Rattle.keys.specs.declared.KeyKind.TheVariants.{LabelKey}
use Rattle.keys.specs.Key.{Key, key_of}
use Rattle.keys.specs.Read.{KeyRead, read_key}
use Rattle.keys.specs.Write.{write_answer}
use Rattle.keys.specs.Entry.{entry_key, key_entry}

abbrev pub R1 : Bytes
R1 = 0x52 ∷ 0x31 ∷ []

abbrev pub B7 : Bytes
B7 = 0x42 ∷ 0x37 ∷ []

abbrev pub B70 : Bytes
B70 = 0x42 ∷ 0x37 ∷ 0x30 ∷ []

abbrev pub B8 : Bytes
B8 = 0x42 ∷ 0x38 ∷ []

-- "K1 key of actor 3, counter 258": its entry and its 19 bytes
abbrev pub k1_entry : Entry
k1_entry = entry B7 (dot_of (actor_of 3) 258)

abbrev pub K1 : Bytes
K1 = 0x02 ∷ 0x01 ∷ 0x52 ∷ 0x31 ∷ 0x00 ∷ 0x65 ∷ 0x42 ∷ 0x37 ∷ 0x00 ∷ 0x03 ∷ 0x00 ∷ 0x00 ∷ 0x00 ∷ 0x00 ∷ 0x00 ∷ 0x00 ∷ 0x00 ∷ 0x01 ∷ 0x02 ∷ []

abbrev pub k1_read : KeyRead
k1_read = record { answer = Done; kind = 0x65; name = span 2 2; label = span 6 2; actor = 3; counter = 258 }

-- a label key whose label has n bytes
abbrev pub long_label : ℕ → Key
long_label n = key_of LabelKey R1 (replicate n 0x41) 1 1

pub record KeyCases : Type 0 where
  pub k1_written : entry_key R1 k1_entry ≡ K1
  pub k1_decoded : key_entry R1 K1 ≡ some k1_entry
  pub k1_read_lem : read_key K1 ≡ k1_read
  -- "O1 keys of B7, B70, B8 of one actor ascend in that order": of any actors and counters
  pub o1 : (c d e : Dot) → ascends compare_bytes (entry_key R1 (entry B7 c) ∷ entry_key R1 (entry B70 d) ∷ entry_key R1 (entry B8 e) ∷ []) ≡ true
  -- "Label of 32 bytes taken, 33: 5."
  pub label_of_32 : write_answer (long_label 32) 63 ≡ Done
  pub label_of_33 : write_answer (long_label 33) 63 ≡ BadName
