-- The used bytes of a store and its entries say the same: what is written is read again, and what is read is written again. Assumes nothing.
use Rattle.std.proofs.Common.{◌≡◌, ℕ, ◌+◌, ◌<◌, ◌≤◌, true, ◌&&◌, List, [], ◌∷◌, ◌++◌, map, length, drop, sym, refl, ap, ◌∙◌, ap₂, append_assoc, arith, length-append, drop_at, le-leb, leb-true}
use mathlib.Core.Bool.{false≢true}
use mathlib.Core.Option.{Option, none, some}
use Rattle.wire.specs.Lists.{all, Ascending, ascends_from, ascends}
use Rattle.wire.specs.Bytes.{Bytes, zero_at, between, compare_bytes}
use Rattle.wire.proofs.Tests.{both}
use Rattle.wire.proofs.Lists.{ascends-ascending, ascending-ascends}
use Rattle.wire.proofs.ByteOrder.{zero_at-ended}
use Rattle.dots.specs.Names.{Name, name_ok, label_most, text_ok}
use Rattle.dots.specs.Entries.{Entry, compare_entries}
use Rattle.dots.proofs.Orders.{entries}
use Rattle.keys.specs.Entry.{entry_ok, entry_key, prefix, suffix, key_entry}
use Rattle.keys.proofs.EntryKeys.{entry_key_parts, length_entry_key, length-prefix, entry-written, entry_read, entry-order}
use Rattle.clock.specs.Clock.{sees}
use Rattle.store.specs.Cut.{end_to_end, store_bytes, key_length, keys_after, keys_of, key_dot, key_says, entries_in}
use Rattle.store.specs.Valid.{seen_entry, key_ok, used_ok, keys_fit}
use Rattle.store.proofs.Cut.{keys_of_first, end_to_end_keys_of}
use Rattle.store.proofs.KeySays.{entry_said, entries_said}
use Rattle.keys.specs.Key.{label_key_fixed, prefix_fixed}

-- ---- one key

module _ (name : Name) (e : Entry) (ok : entry_ok e ≡ true) where
  pub label-size : (1 ≤ length e.label) × (length e.label ≤ label_most)
  unfolding entry_ok text_ok
  label-size = (leb-true 1 (length e.label) (search both), leb-true (length e.label) label_most (search both))

  -- a key's label ends where its own bytes say, whatever follows it
  pub key-length : (rest : Bytes) → key_length (length name) (entry_key name e ++ rest) ≡ length (entry_key name e)
  unfolding key_length suffix entry_ok text_ok
  key-length rest =
      let whole : entry_key name e ++ rest ≡ prefix name ++ (e.label ++ (suffix e.dot ++ rest)) = rw (entry_key_parts, append_assoc, append_assoc) in
      let label : zero_at (drop (length name + prefix_fixed) (entry_key name e ++ rest)) ≡ length e.label =
      rw (whole, drop_at (prefix name) (e.label ++ (suffix e.dot ++ rest)) (length name + prefix_fixed) (length-prefix name)) (zero_at-ended e.label _ (search both)) in
      omega (arith, label, length-append (entry_key name e) rest, length_entry_key name e)

-- a key that passes is its entry's
pub record ReadKey (name : Name) (words : List ℕ) (k : Bytes) : Type 0 where
  pub key : entry_key name (key_says (length name) k) ≡ k
  pub valid : entry_ok (key_says (length name) k) ≡ true
  pub seen : sees words (key_dot k) ≡ true

pub key-read : (name : Name) (words : List ℕ) (k : Bytes) → key_ok name words k ≡ true → ReadKey name words k
key-read name words k h = by-entry (key_entry name k) refl h
  where
    by-entry : (o : Option Entry) → key_entry name k ≡ o → seen_entry words o ≡ true → ReadKey name words k
    by-entry none e t = absurd (false≢true t)
    by-entry (some x) e t =
        let w = entry_read name k x e in
        let says : key_says (length name) k ≡ x = rw w.0 at (entry_said name x w.1) in
        record { key = rw says w.0; valid = rw says w.1; seen = ap (λ (y : Entry). sees words y.dot) says ∙ t }

-- ---- keys end to end

module _ (name : Name) where
  -- the bytes of entries are cut into their keys
  pub keys-written : (es : List Entry) → all entry_ok es ≡ true → keys_of (length name) (store_bytes name es) ≡ map (entry_key name) es
  unfolding store_bytes end_to_end all keys_after
  keys-written [] ok = refl
  keys-written (e ∷ es) ok =
      let pos : 0 < length (entry_key name e) = omega (arith, length_entry_key name e) in
      keys_of_first (length name) (entry_key name e) (store_bytes name es) pos (key-length name e (search both) (store_bytes name es))
      ∙ ap (λ (ks : List Bytes). entry_key name e ∷ ks) (keys-written es (search both))

  pub entries-written : (es : List Entry) → all entry_ok es ≡ true → entries_in (length name) (store_bytes name es) ≡ es
  unfolding entries_in
  entries-written es ok = rw (keys-written es ok) (entries_said name es ok)

  -- keys ascend as their entries do
  keys_ascend_from : (e : Entry) (es : List Entry) → entry_ok e ≡ true → all entry_ok es ≡ true → ascends_from compare_bytes (entry_key name e) (map (entry_key name) es) ≡ ascends_from compare_entries e es
  unfolding ascends_from all
  keys_ascend_from e [] ok rest = refl
  keys_ascend_from e (f ∷ es) ok rest = rw (entry-order name e f ok (search both), keys_ascend_from f es (search both) (search both))

  pub keys-ascend : (es : List Entry) → all entry_ok es ≡ true → ascends compare_bytes (map (entry_key name) es) ≡ ascends compare_entries es
  unfolding ascends all
  keys-ascend [] ok = refl
  keys-ascend (e ∷ es) ok = keys_ascend_from e es (search both) (search both)

  -- each has room for a label
  all_fit : (es : List Entry) → all entry_ok es ≡ true → all (λ (k : Bytes). between (length name + (label_key_fixed + 1)) (length name + label_key_fixed + label_most) (length k)) (map (entry_key name) es) ≡ true
  unfolding all
  all_fit [] ok = refl
  all_fit (e ∷ es) ok =
      let size : length (entry_key name e) ≡ length name + length e.label + label_key_fixed = length_entry_key name e in
      let label = label-size name e (search both) in
      rw (le-leb (length name + (label_key_fixed + 1)) (length (entry_key name e)) (omega arith), le-leb (length (entry_key name e)) (length name + label_key_fixed + label_most) (omega arith)) (all_fit es (search both))

  pub keys-fit : (es : List Entry) → all entry_ok es ≡ true → keys_fit (length name) (store_bytes name es) ≡ true
  unfolding keys_fit
  keys-fit es ok = rw (keys-written es ok) (all_fit es ok)

  module _ (words : List ℕ) where
    -- what is seen of keys is what is seen of their entries
    keys-seen : name_ok name ≡ true → (es : List Entry) → all entry_ok es ≡ true → all (key_ok name words) (map (entry_key name) es) ≡ all (λ (e : Entry). sees words e.dot) es
    unfolding all
    keys-seen named [] ok = refl
    keys-seen named (e ∷ es) ok = rw (entry-written name e named (search both), keys-seen named es (search both))

    -- the rules of used bytes, as rules of their entries
    pub used-written : name_ok name ≡ true → (es : List Entry) → all entry_ok es ≡ true → used_ok name words (store_bytes name es) ≡ (all (λ (e : Entry). sees words e.dot) es && ascends compare_entries es)
    unfolding used_ok
    used-written named es ok = rw (keys-written es ok, keys-seen named es ok, keys-ascend es ok)

    pub entries-used : name_ok name ≡ true → (es : List Entry) → all entry_ok es ≡ true → Ascending compare_entries es → all (λ (e : Entry). sees words e.dot) es ≡ true
        → (used_ok name words (store_bytes name es) ≡ true) × (entries_in (length name) (store_bytes name es) ≡ es)
    entries-used named es ok up seen =
        (used-written named es ok ∙ rw (seen, ascending-ascends compare_entries entries es up), entries-written es ok)

    -- keys that pass are those of their entries
    record ReadKeys (ks : List Bytes) : Type 0 where
      keys : map (entry_key name) (map (key_says (length name)) ks) ≡ ks
      valid : all entry_ok (map (key_says (length name)) ks) ≡ true
      seen : all (λ (e : Entry). sees words e.dot) (map (key_says (length name)) ks) ≡ true

    keys-read : (ks : List Bytes) → all (key_ok name words) ks ≡ true → ReadKeys ks
    unfolding all
    keys-read [] h = record { keys = refl; valid = refl; seen = refl }
    keys-read (k ∷ ks) h =
        let first = key-read name words k (search both) in
        let rest = keys-read ks (search both) in
        record { keys = ap₂ ◌∷◌ first.key rest.keys; valid = rw (first.valid, rest.valid); seen = rw (first.seen, rest.seen) }

-- the bytes of entries and of more entries after them
pub store-append : (name : Name) (es fs : List Entry) → store_bytes name (es ++ fs) ≡ store_bytes name es ++ store_bytes name fs
unfolding store_bytes end_to_end
store-append name [] fs = refl
store-append name (e ∷ es) fs = rw (store-append name es fs, append_assoc)

-- used bytes that keep the rules are those of their entries, which keep theirs
pub record UsedEntries (name : Name) (words : List ℕ) (bytes : Bytes) (es : List Entry) : Type 0 where
  pub written : store_bytes name es ≡ bytes
  pub valid : all entry_ok es ≡ true
  pub ascend : Ascending compare_entries es
  pub seen : all (λ (e : Entry). sees words e.dot) es ≡ true
  pub fit : keys_fit (length name) bytes ≡ true

pub used-entries : (name : Name) (words : List ℕ) (bytes : Bytes) → used_ok name words bytes ≡ true → UsedEntries name words bytes (entries_in (length name) bytes)
unfolding used_ok entries_in store_bytes
used-entries name words bytes h =
    let ks : List Bytes = keys_of (length name) bytes in
    let es : List Entry = entries_in (length name) bytes in
    let read = keys-read name words ks (search both) in
    let whole : store_bytes name es ≡ bytes = rw read.keys (end_to_end_keys_of (length name) bytes) in
    let up : ascends compare_bytes (map (entry_key name) es) ≡ true = rw read.keys (search both) in
    record {
      written = whole;
      valid = read.valid;
      ascend = ascends-ascending compare_entries entries es (sym (keys-ascend name es read.valid) ∙ up);
      seen = read.seen;
      fit = rw whole at (keys-fit name es read.valid);
    }
