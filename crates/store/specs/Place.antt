-- Where a key goes, and the stretch of a label's keys.
use Rattle.std.specs.Prelude.{◌≡◌, ℕ, ◌+◌, ◌≤◌, Bool, true, cond, not, Option, is_some, unwrap_or, List, [], ◌∷◌, ◌++◌, length, take, drop}
use Rattle.wire.specs.Lists.{is_lt, all}
use Rattle.std.specs.Borrow.{Bor}
use Rattle.wire.specs.declared.Span.{Span}
use Rattle.wire.specs.Bytes.{Bytes, end_of, compare_bytes, starts_with, put_at, inserted_at, IsPart}
use Rattle.dots.specs.Names.{Name, Label, name_ok, label_ok}
use Rattle.dots.specs.Entries.{Entry}
use Rattle.keys.specs.Entry.{prefix, entry_key}
use Rattle.keys.specs.Key.{label_key_fixed, prefix_fixed}
use Rattle.store.specs.Cut.{end_to_end, keys_of}
use Rattle.store.specs.Valid.{used_ok, store_ok}

-- how many bytes the keys at the front take that pass a test
unfoldable pub length_while : (Bytes → Bool) → List Bytes → ℕ
length_while test [] = 0
length_while test (k ∷ ks) = cond (test k) (length k + length_while test ks) 0

abbrev pub lower_than : Bytes → Bytes → Bool
lower_than key k = is_lt (compare_bytes k key)

-- what a closure returns of a lent key is what a test says of its bytes
abbrev pub Tests : (Bor Bytes → Bool → Type 0) → (Bytes → Bool) → Type 0
Tests returns test = (k : Bor Bytes) (r : Bool) → returns k r → r ≡ test k.now

-- where a key goes: after the keys at the front that are lower
abbrev pub place_in : Bytes → List Bytes → ℕ
place_in key ks = length_while (lower_than key) ks

-- a key's place p: "every key before the place is lower in plain byte order, and none from it on is"
pub record Placed (key : Bytes) (ks : List Bytes) (p : ℕ) : Type 0 where
  pub before : List Bytes
  pub after : List Bytes
  pub whole : before ++ after ≡ ks
  pub at : length (end_to_end before) ≡ p
  pub lower : all (lower_than key) before ≡ true
  pub others : all (λ (k : Bytes). not (lower_than key k)) after ≡ true

-- the first k bytes come before all keys that begin with `start`: such a key has its place past them, and what holds of all keys holds of those past them
pub record Passed (n : ℕ) (start keys : Bytes) (k : ℕ) : Type 0 where
  pub within : k ≤ length keys
  pub placed : (tail : Bytes) → place_in (start ++ tail) (keys_of n keys) ≡ k + place_in (start ++ tail) (keys_of n (drop k keys))
  pub rest : (test : Bytes → Bool) → all test (keys_of n keys) ≡ true → all test (keys_of n (drop k keys)) ≡ true

-- the same of all keys of a label
abbrev pub LabelPassed : Name → Label → Bytes → ℕ → Type 0
LabelPassed name label keys low = Passed (length name) (prefix name ++ label) keys low

-- the first `low` bytes come before a key: its place is that among the keys from there on
pub record PlacePast (n : ℕ) (keys key : Bytes) (low : ℕ) : Type 0 where
  pub within : low ≤ length keys
  pub placed : place_in key (keys_of n keys) ≡ low + place_in key (keys_of n (drop low keys))

-- what one pass over keys tells: a number if they are in order, and none if not; so many bytes at the front come before all keys that begin with `start`
pub record Judged (ok : Bool) (n : ℕ) (start keys : Bytes) (r : Option ℕ) : Type 0 where
  pub found : is_some r ≡ ok
  pub passed : ok ≡ true → Passed n start keys (unwrap_or r 0)

-- the same of keys of a set, and of a store, and a label
abbrev pub KeysJudged : Name → List ℕ → Bytes → Label → Option ℕ → Type 0
KeysJudged name words keys label r = Judged (used_ok name words keys) (length name) (prefix name ++ label) keys r

abbrev pub StoreJudged : Name → List ℕ → Bytes → ℕ → Label → Option ℕ → Type 0
StoreJudged name words store used label r = Judged (store_ok name words store used) (length name) (prefix name ++ label) (take used store) r

-- what the keys of a label begin with: the set's prefix, the label and its closing 00
unfoldable pub label_start : Name → Label → Bytes
label_start name label = prefix name ++ (label ++ (0 ∷ []))

-- where the keys from a place on end that begin with `start`
abbrev pub end_from : ℕ → Bytes → Bytes → ℕ → ℕ
end_from n bytes start at = at + length_while (starts_with start) (keys_of n (drop at bytes))

-- the stretch of a label's keys, "dead ones included (empty, at the place they would go, if there are none)"
unfoldable pub stretch_start : Name → Label → Bytes → ℕ
stretch_start name label bytes = place_in (label_start name label) (keys_of (length name) bytes)

unfoldable pub stretch_end : Name → Label → Bytes → ℕ
stretch_end name label bytes = end_from (length name) bytes (label_start name label) (stretch_start name label bytes)

-- p is where the keys are that begin with `start`, and where a label's keys are
abbrev pub IsSpanFrom : ℕ → Bytes → Bytes → Span → Type 0
IsSpanFrom n keys start p =
    (p.at ≡ place_in start (keys_of n keys)) × (p.len ≡ length_while (starts_with start) (keys_of n (drop p.at keys))) × (end_of p ≤ length keys)

abbrev pub IsSpan : Name → Label → Bytes → Span → Type 0
IsSpan name label keys p = (p.at ≡ stretch_start name label keys) × (end_of p ≡ stretch_end name label keys) × (end_of p ≤ length keys)

-- r is the very stretch of a label's keys
abbrev pub IsStretch : Name → Label → Bor Bytes → Bor Bytes → Type 0
IsStretch name label keys r = IsPart keys (stretch_start name label keys.now) (stretch_end name label keys.now) r

-- ---- a key put and inserted

-- bytes of the key of an entry
abbrev pub key_size : Name → Label → ℕ
key_size name label = length name + length label + label_key_fixed

-- put at the front of out, which becomes out': what the keys of a label begin with, and the key of an entry; r is its length
abbrev pub LabelStartPut : Name → Label → Bytes → Bytes → ℕ → Type 0
LabelStartPut name label out out' r = (r ≡ length name + length label + (prefix_fixed + 1)) × (out' ≡ put_at out 0 (label_start name label))

abbrev pub KeyPut : Name → Entry → Bytes → Bytes → ℕ → Type 0
KeyPut name e out out' r = (r ≡ key_size name e.label) × (out' ≡ put_at out 0 (entry_key name e))

-- the store with a key, and with that of an entry, in its place among the first `used` bytes
abbrev pub inserted_key : ℕ → Bytes → ℕ → Bytes → Bytes
inserted_key n store used key = inserted_at store used (place_in key (keys_of n (take used store))) key

abbrev pub inserted_entry : Name → Bytes → ℕ → Entry → Bytes
inserted_entry name store used e = inserted_key (length name) store used (entry_key name e)

-- an entry of a label can be inserted: there is room, and the first `low` bytes come before all keys of the label
abbrev pub EntryHasPlace : Name → Label → Bytes → ℕ → ℕ → Type 0
EntryHasPlace name label store used low =
    (name_ok name ≡ true) × (label_ok label ≡ true) × (used + key_size name label ≤ length store) × LabelPassed name label (take used store) low

-- the entry is inserted in a store, which becomes store'; r is the new used length
abbrev pub EntryInserted : Name → Entry → ℕ → Bytes → Bytes → ℕ → Type 0
EntryInserted name e used store store' r = (r ≡ used + key_size name e.label) × (store' ≡ inserted_entry name store used e)
