-- Two sides of a merge, each keys end to end with a tombstone in bytes and a clock's words, and the merged listing of both. n is the length of the
-- set's name.
use Rattle.std.specs.Prelude.{ℕ, List, ◌≡◌}
use Rattle.wire.specs.Bytes.{Bytes}
use Rattle.dots.specs.Wire.{dots_of}
use Rattle.dots.specs.Entries.{Entry, Line, lines_of}
use Rattle.clock.specs.Row.{window_width}
use Rattle.store.specs.Cut.{entries_in}
use Rattle.replica.specs.RowClock.{row_clock}
use Rattle.replica.specs.Read.{Read, merged_entries}
use Rattle.listing.specs.Listing.{live_entries, StoredKeys}

-- what a side says: its clock and what it lists
abbrev pub side_read : ℕ → Bytes → Bytes → List ℕ → Read (row_clock window_width)
side_read n keys tombstone words = record { clock = words; listed = live_entries (dots_of tombstone) (entries_in n keys) }

-- the tombstones and clocks of two sides
pub record Sides : Type 0 where
  pub tombstone : Bytes
  pub words : List ℕ
  pub tombstone' : Bytes
  pub words' : List ℕ

-- what is kept of the keys of both, and its lines
abbrev pub merged_keys : ℕ → Sides → Bytes → Bytes → List Entry
merged_keys n s a b = merged_entries (row_clock window_width) (side_read n a s.tombstone s.words) (side_read n b s.tombstone' s.words')

abbrev pub merged_key_lines : ℕ → Sides → Bytes → Bytes → List Line
merged_key_lines n s a b = lines_of (merged_keys n s a b)

-- stored keys of one set
pub record SameSet (n : ℕ) (a b : Bytes) : Type 0 where
  pub first : StoredKeys n a
  pub second : StoredKeys n b
  pub one_name : first.name ≡ second.name
