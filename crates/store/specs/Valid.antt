-- "Store: a lent buffer of 0 to 65,536 bytes and a used length no greater than the buffer's. The used part is label keys end to end,
-- strictly ascending in byte order, each of this set, each dot seen by the clock."
use Rattle.std.specs.Prelude.{ℕ, ◌+◌, Bool, false, ◌&&◌, List, length, take, nat_le}
use Rattle.std.proofs.Math.Option.{Option, none, some}
use Rattle.wire.specs.Lists.{all, ascends}
use Rattle.wire.specs.Bytes.{Bytes, between, compare_bytes}
use Rattle.dots.specs.Names.{Name, label_most}
use Rattle.dots.specs.Entries.{Entry}
use Rattle.keys.specs.Entry.{key_entry}
use Rattle.clock.specs.Clock.{sees}
use Rattle.store.specs.Cut.{keys_of}
use Rattle.keys.specs.Key.{label_key_fixed}

abbrev pub store_most : ℕ
store_most = 65536

abbrev pub seen_entry : List ℕ → Option Entry → Bool
seen_entry words none = false
seen_entry words (some e) = sees words e.dot

-- a label key of the set whose dot the clock sees
abbrev pub key_ok : Name → List ℕ → Bytes → Bool
key_ok name words k = seen_entry words (key_entry name k)

unfoldable pub used_ok : Name → List ℕ → Bytes → Bool
used_ok name words bytes = all (key_ok name words) (keys_of (length name) bytes) && ascends compare_bytes (keys_of (length name) bytes)

unfoldable pub store_ok : Name → List ℕ → Bytes → ℕ → Bool
store_ok name words store used = nat_le (length store) store_most && (nat_le used (length store) && used_ok name words (take used store))

-- every key has room for a label of 1 to 32 bytes: what a walk over an undamaged store counts on
unfoldable pub keys_fit : ℕ → Bytes → Bool
keys_fit n bytes = all (λ (k : Bytes). between (n + (label_key_fixed + 1)) (n + label_key_fixed + label_most) (length k)) (keys_of n bytes)
