-- Keys end to end: the used part of a store, cut into keys by their labels' closing 00, and what each key says. n is the length of the set's name.
use Rattle.std.specs.Prelude.{ℕ, zero, suc, pred, ◌+◌, ◌-◌, min, List, [], ◌∷◌, ◌++◌, map, length, take, drop}
use Rattle.wire.specs.Bytes.{Bytes, byte_at, part_at, number_at, zero_at}
use Rattle.dots.specs.declared.Dot.{Dot}
use Rattle.dots.specs.Names.{Name, Label}
use Rattle.dots.specs.Dots.{actor_of, dot_of}
use Rattle.dots.specs.Entries.{Entry, entry}
use Rattle.keys.specs.Entry.{entry_key}
use Rattle.keys.specs.Key.{label_key_fixed, suffix_size, prefix_fixed}

unfoldable pub end_to_end : List Bytes → Bytes
end_to_end [] = []
end_to_end (k ∷ ks) = k ++ end_to_end ks

-- the used part of a store that holds the entries of a set
unfoldable pub store_bytes : Name → List Entry → Bytes
store_bytes name es = end_to_end (map (entry_key name) es)

-- how long the key at the front is, by its label's closing 00; at most all the bytes
unfoldable pub key_length : ℕ → Bytes → ℕ
key_length n bytes = min (length bytes) (n + label_key_fixed + zero_at (drop (n + prefix_fixed) bytes))

-- bytes cut into keys, after `skip` bytes
unfoldable pub keys_after : ℕ → ℕ → Bytes → List Bytes
keys_after n skip [] = []
keys_after n (suc skip) (b ∷ bs) = keys_after n skip bs
keys_after n zero (b ∷ bs) = take (key_length n (b ∷ bs)) (b ∷ bs) ∷ keys_after n (pred (key_length n (b ∷ bs))) bs

abbrev pub keys_of : ℕ → Bytes → List Bytes
keys_of n bytes = keys_after n zero bytes

-- label and dot of a key: the label stands between the type byte and the last 11 bytes, the actor 10 bytes before the end, the counter 8
unfoldable pub key_label : ℕ → Bytes → Label
key_label n k = part_at k (n + prefix_fixed) (length k - (n + label_key_fixed))

unfoldable pub key_dot : Bytes → Dot
key_dot k = dot_of (actor_of (byte_at k (length k - (suffix_size - 1)))) (number_at 8 k (length k - 8))

abbrev pub key_says : ℕ → Bytes → Entry
key_says n k = entry (key_label n k) (key_dot k)

-- the entries that the used part of a store holds
unfoldable pub entries_in : ℕ → Bytes → List Entry
entries_in n bytes = map (key_says n) (keys_of n bytes)
