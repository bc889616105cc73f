-- The label that comes next in two stores. n is the length of the set's name.
use Rattle.std.specs.Prelude.{ℕ, ◌+◌, ◌≤◌, ◌<◌, true, List, ◌++◌, Option, Some, None, map, ◌≡◌, length, take, drop}
use Rattle.wire.specs.Lists.{all, Ascending}
use Rattle.wire.specs.Bytes.{Bytes}
use Rattle.dots.specs.declared.Dot.{Dot}
use Rattle.dots.specs.Names.{Name, Label, label_ok}
use Rattle.dots.specs.Entries.{entry, compare_entries}
use Rattle.keys.specs.Entry.{entry_ok}
use Rattle.store.specs.Cut.{store_bytes}
use Rattle.store.specs.Place.{label_start}
use Rattle.listing.specs.Listing.{StoredKeys}
use Rattle.merge.specs.declared.NextLabel.{NextLabel}
use Rattle.merge.specs.Sides.{Sides, merged_key_lines, SameSet}

-- start is what the keys of a label begin with in the set that keys are of
pub record LabelStart (n : ℕ) (keys start : Bytes) : Type 0 where
  pub stored : StoredKeys n keys
  pub label : Label
  pub labelled : label_ok label ≡ true
  pub begins : start ≡ label_start stored.name label

-- ascending keys of one label of a set
pub record LabelKeys (name : Name) (label : Label) (keys : Bytes) : Type 0 where
  pub dots : List Dot
  pub written : keys ≡ store_bytes name (map (entry label) dots)
  pub valid : all entry_ok (map (entry label) dots) ≡ true
  pub ascend : Ascending compare_entries (map (entry label) dots)

-- the same of two stores; len is the length of the label
pub record SameLabel (n len : ℕ) (a b : Bytes) : Type 0 where
  pub name : Name
  pub named : length name ≡ n
  pub label : Label
  pub labelled : label_ok label ≡ true
  pub sized : length label ≡ len
  pub first : LabelKeys name label a
  pub second : LabelKeys name label b

-- r is the label that comes next: its keys stand at the front of one or both; the lines of both are its line, if a dot of it is kept, and those of the rests
pub record IsNext (n : ℕ) (a b : Bytes) (r : NextLabel) : Type 0 where
  pub first-within : r.first ≤ length a
  pub second-within : r.second ≤ length b
  pub label-keys : SameLabel n r.len (take r.first a) (take r.second b)
  pub some : 0 < r.first + r.second
  pub rests : SameSet n (drop r.first a) (drop r.second b)
  pub lines : (s : Sides) → merged_key_lines n s a b
      ≡ merged_key_lines n s (take r.first a) (take r.second b) ++ merged_key_lines n s (drop r.first a) (drop r.second b)

-- the same, or the end of both
abbrev pub ComesNext : ℕ → Bytes → Bytes → Option NextLabel → Type 0
ComesNext n a b (Some r) = IsNext n a b r
ComesNext n a b None = (length a ≡ 0) × (length b ≡ 0)
