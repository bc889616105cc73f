-- The key as it was put, and its place.
use Rattle.std.proofs.Common.{◌≡◌, ℕ, ◌+◌, ◌≤◌, true, length, take, append_assoc, arith, rules}
use Rattle.wire.specs.Bytes.{Bytes, put_at}
use Rattle.dots.specs.Names.{Name, Label, name_ok, label_ok, name_most, label_most}
use Rattle.dots.specs.declared.Dot.{Dot}
use Rattle.dots.specs.Entries.{entry}
use Rattle.keys.specs.Entry.{suffix, entry_key}
use Rattle.keys.proofs.EntryKeys.{entry_key_parts, length_entry_key}
use Rattle.store.specs.Place.{inserted_key, inserted_entry, LabelPassed, PlacePast}
use Rattle.store.proofs.Starts.{name_most_lem, label_most_lem, put-read, put-size, put-room}
use Rattle.keys.specs.Key.{label_key_fixed}
use Rattle.store.proofs.insert_entry.Goals as goal

fits : (name : Name) (label : Label) → name_ok name ≡ true → label_ok label ≡ true → length name + length label + label_key_fixed ≤ name_most + label_most + label_key_fixed
fits name label ok ok' = omega (arith, name_most_lem name ok, label_most_lem label ok')

module _ (name : Name) (label : Label) (d : Dot) (s t store : Bytes) (n used : ℕ) (put : t ≡ put_at s 0 (entry_key name (entry label d))) (count : n ≡ length name + length label + label_key_fixed) where
  key-read : take n t ≡ entry_key name (entry label d)
  key-read = put-read s t (entry_key name (entry label d)) n (length name + length label + label_key_fixed) put count (length_entry_key name (entry label d))

  -- the keys from `low` on, among which its place is
  module _ (low : ℕ) (p : LabelPassed name label (take used store) low) where
    placed : PlacePast (length name) (take used store) (take n t) low
    placed = record { within = p.within; placed = rw (key-read, entry_key_parts) (rw append_assoc at (p.placed (suffix d))) }

  room : used + (length name + length label + label_key_fixed) ≤ length store → used + length (take n t) ≤ length store
  room h = rw (key-read, length_entry_key) h

  inserted : (store' : Bytes) → store' ≡ inserted_key (length name) store used (take n t)
      → store' ≡ inserted_entry name store used (entry label d)
  inserted store' e = rw key-read at e

pub put_key-len-requires : goal.put_key-len-requires
put_key-len-requires c = search (rules, fits)

pub slice_bounds-key-end : goal.slice_bounds-key-end
slice_bounds-key-end c = search (rules, put-room, length_entry_key)

pub slice_bounds-insert_key-end : goal.slice_bounds-insert_key-end
slice_bounds-insert_key-end c = search (rules, put-size, length_entry_key)

pub insert_key-requires : goal.insert_key-requires
insert_key-requires c = (search (rules, name_most_lem), search (rules, room), search (rules, placed))

pub returns : goal.returns
returns c = (search rules, search (rules, inserted))
