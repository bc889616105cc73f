-- Refusal 1: each rule of "What a controller holds" broken alone, and just kept. The one rule that cannot be broken alone is that of a tombstone's dot:
-- a dot of no actor or of counter 0 is not seen either.
use Rattle.std.specs.Prelude.{ℕ, ◌-◌, Bool, true, false, List, [], ◌∷◌, ◌++◌, map, ◌≡◌, length, replicate}
use Rattle.wire.specs.Bytes.{Bytes}
use Rattle.dots.specs.declared.Dot.{Dot}
use Rattle.dots.specs.Names.{Label}
use Rattle.dots.specs.Dots.{actor_of, max_counter}
use Rattle.dots.specs.Wire.{dots_bytes, tombstone_size}
use Rattle.dots.specs.Entries.{entry}
use Rattle.keys.specs.declared.KeyKind.TheVariants.{ClockKey}
use Rattle.keys.specs.Key.{key_of, key_bytes}
use Rattle.keys.specs.Entry.{entry_key}
use Rattle.keys.specs.Cases.{R1, B7}
use Rattle.store.specs.Cut.{end_to_end}
use Rattle.calls.specs.declared.SetName.{SetName}
use Rattle.calls.specs.declared.Tombstone.{Tombstone}
use Rattle.calls.specs.Damage.{damaged}
use Rattle.calls.specs.Effect.{padded, tombstone_of}
use Rattle.calls.specs.Cases.{dot, dots_from}

-- is a state with these parts and this store damaged?
abbrev holds : ℕ → SetName → List ℕ → Tombstone → ℕ → Bytes → Bool
holds actor name words tombstone used store = damaged (record { actor = actor_of actor; name = name; clock = record { words = words }; tombstone = tombstone; used = used }) store

-- ---- parts that keep their rules: set R1, five own events and 200 of actor 2 seen, an empty tombstone

abbrev name_r1 : SetName
name_r1 = record { bytes = padded 16 R1; len = 2 }

abbrev words : List ℕ
words = 5 ∷ 0 ∷ 200 ∷ 0 ∷ replicate 28 0

abbrev no_dots : Tombstone
no_dots = tombstone_of []

-- ---- one part of another kind

abbrev under_actor : ℕ → Bool
under_actor actor = holds actor name_r1 words no_dots 0 []

-- 16 bytes, and how many of them are the name
abbrev named : Bytes → ℕ → Bool
named bytes len = holds 1 (record { bytes = bytes; len = len }) words no_dots 0 []

-- base and window of the own row and of actor 2's
abbrev clocked : ℕ → ℕ → ℕ → ℕ → Bool
clocked base window base2 window2 = holds 1 name_r1 (base ∷ window ∷ base2 ∷ window2 ∷ replicate 28 0) no_dots 0 []

-- a tombstone's bytes, and how many dots they hold
abbrev tombstoned : Bytes → ℕ → Bool
tombstoned bytes count = holds 1 name_r1 words (record { bytes = padded tombstone_size bytes; count = count }) 0 []

abbrev dead : List Dot → Bool
dead ds = tombstoned (dots_bytes ds) (length ds)

-- a store and its used length
abbrev stored : Bytes → ℕ → Bool
stored store used = holds 1 name_r1 words no_dots used store

abbrev keys : List Bytes → Bool
keys ks = stored (end_to_end ks) (length (end_to_end ks))

abbrev key_with : Label → Bytes
key_with label = entry_key R1 (entry label (dot 1 1))

abbrev key : ℕ → Bytes
key n = entry_key R1 (entry B7 (dot 1 n))

pub record DamageCases : Type 0 where
  -- "Actor: a byte 1 to 16"
  pub actor : map under_actor (0 ∷ 1 ∷ 16 ∷ 17 ∷ []) ≡ true ∷ false ∷ false ∷ true ∷ []
  -- "Set name: 1 to 16 bytes", no zero byte; bytes past it are 0
  pub name-length : named (replicate 16 0) 0 ∷ named (padded 16 (0x41 ∷ [])) 1 ∷ named (replicate 16 0x41) 16 ∷ named (replicate 16 0x41) 17 ∷ [] ≡ true ∷ false ∷ false ∷ true ∷ []
  pub name-bytes : named (padded 16 (0x52 ∷ 0 ∷ 0x31 ∷ [])) 3 ∷ named (padded 16 (0x52 ∷ 0x31 ∷ 7 ∷ [])) 2 ∷ [] ≡ true ∷ true ∷ []
  -- "Bit 0 is always clear"; "A controller's own window is always 0"
  pub window : clocked 5 0 200 1 ∷ clocked 5 0 200 2 ∷ clocked 5 2 200 0 ∷ [] ≡ true ∷ false ∷ true ∷ []
  -- the window names the largest counter, and one past it
  pub last-event : clocked 5 0 (max_counter - 2) 2 ∷ clocked 5 0 (max_counter - 1) 2 ∷ [] ≡ false ∷ true ∷ []
  -- "Tombstone: 0 to 128 dots, strictly ascending, each seen by the clock"; bytes past them are 0
  pub tombstone-count : map (tombstoned (dots_bytes (dots_from 2 1 128))) (128 ∷ 129 ∷ []) ≡ false ∷ true ∷ []
  pub tombstone-order : map dead ((dot 2 1 ∷ dot 2 2 ∷ []) ∷ (dot 2 1 ∷ dot 2 1 ∷ []) ∷ (dot 2 2 ∷ dot 2 1 ∷ []) ∷ []) ≡ false ∷ true ∷ true ∷ []
  pub tombstone-seen : map dead ((dot 2 200 ∷ []) ∷ (dot 2 201 ∷ []) ∷ (dot 2 0 ∷ []) ∷ (dot 0 1 ∷ []) ∷ (dot 17 1 ∷ []) ∷ []) ≡ false ∷ true ∷ true ∷ true ∷ true ∷ []
  pub tombstone-rest : map (λ (b : ℕ). tombstoned (dots_bytes (dot 2 1 ∷ []) ++ (b ∷ [])) 1) (0 ∷ 7 ∷ []) ≡ false ∷ true ∷ []
  -- "Store: a lent buffer of 0 to 65,536 bytes and a used length no greater than the buffer's"
  pub store_length : map (λ (n : ℕ). stored (replicate n 0) 0) (0 ∷ 65536 ∷ 65537 ∷ []) ≡ false ∷ false ∷ true ∷ []
  pub used : map (stored (key 1)) (19 ∷ 20 ∷ []) ≡ false ∷ true ∷ []
  -- "The used part is label keys end to end": two keys, one byte short, one too many; a key of another type, labels of 0, 32 and 33 bytes
  pub end_to_end : keys (key 1 ∷ key 5 ∷ []) ∷ stored (key 1) 18 ∷ keys (key 1 ∷ (0 ∷ []) ∷ []) ∷ [] ≡ false ∷ true ∷ true ∷ []
  pub label-keys : keys (key_bytes (key_of ClockKey R1 [] 1 0) ∷ []) ∷ map (λ (n : ℕ). keys (key_with (replicate n 0x41) ∷ [])) (0 ∷ 32 ∷ 33 ∷ []) ≡ true ∷ true ∷ false ∷ true ∷ []
  -- "strictly ascending in byte order, each of this set, each dot seen by the clock"
  pub ascending : map keys ((key 1 ∷ key 1 ∷ []) ∷ (key 2 ∷ key 1 ∷ []) ∷ []) ≡ true ∷ true ∷ []
  pub of_this_set : keys (entry_key (0x52 ∷ 0x32 ∷ []) (entry B7 (dot 1 1)) ∷ []) ≡ true
  pub key-seen : map (λ (n : ℕ). keys (key n ∷ [])) (5 ∷ 6 ∷ []) ≡ false ∷ true ∷ []
