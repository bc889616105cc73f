-- The lines of a merged listing, put out one after the other.
use Rattle.std.specs.Prelude.{ℕ, ◌+◌, ◌*◌, ◌≤◌, Bool, true, false, cond, List, map, ◌≡◌, eqb, length}
use Rattle.wire.specs.Bytes.{Bytes}
use Rattle.dots.specs.declared.Dot.{Dot}
use Rattle.dots.specs.Names.{Label, name_most}
use Rattle.dots.specs.Wire.{dots_bytes}
use Rattle.dots.specs.Entries.{entry_dot}
use Rattle.keys.specs.Key.{prefix_fixed}
use Rattle.store.specs.Valid.{store_most}
use Rattle.listing.specs.Listing.{line_fixed, listing_bytes, PutsWanted}
use Rattle.listing.specs.Lines.{label_of}
use Rattle.listing.specs.declared.LinesPut.{LinesPut}
use Rattle.merge.specs.declared.Spot.{Spot}
use Rattle.merge.specs.Sides.{Sides, merged_keys, merged_key_lines, SameSet}
use Rattle.merge.specs.Labels.{SameLabel}
use Rattle.merge.specs.Kept.{put_unless}

-- ---- one line

-- the dots that are kept of two stores
abbrev pub merged_dots : ℕ → Sides → Bytes → Bytes → List Dot
merged_dots n s a b = map entry_dot (merged_keys n s a b)

-- what putting the line of a label counts on: its keys in both stores, and room for the line, unless the run is dry
pub record CanPut (n : ℕ) (spot : Spot) (s : Sides) (a b : Bytes) (room : ℕ) : Type 0 where
  pub label-keys : SameLabel n spot.len a b
  pub first_short : length a ≤ store_most
  pub second_short : length b ≤ store_most
  pub place-low : spot.at ≤ 2 * store_most
  pub has_room : spot.dry ≡ false → spot.at + length (listing_bytes (merged_key_lines n s a b)) ≤ room

-- the label of keys of which the first store or the second has some
unfoldable pub label_in : ℕ → ℕ → Bytes → Bytes → Label
label_in n len a b = cond (eqb (length a) 0) (label_of n b len) (label_of n a len)

-- what reading it counts on: it stands there
pub record LabelWithin (n len : ℕ) (a b : Bytes) : Type 0 where
  pub in_first : (length a ≡ 0 → ⊥) → n + prefix_fixed + len ≤ length a
  pub in_second : length a ≡ 0 → n + prefix_fixed + len ≤ length b

-- its dots are put past its head, in out, which becomes out'; r is how many they are
abbrev pub DotsPut : ℕ → Spot → Sides → Bytes → Bytes → Bytes → Bytes → ℕ → Type 0
DotsPut n spot s a b out out' r =
    (r ≡ length (merged_dots n s a b))
    × (out' ≡ put_unless spot.dry out (spot.at + spot.len + line_fixed) (dots_bytes (merged_dots n s a b)))

-- it is put; r is how many bytes it takes
abbrev pub LinePut : ℕ → Spot → Sides → Bytes → Bytes → Bytes → Bytes → ℕ → Type 0
LinePut n spot s a b out out' r =
    (r ≡ length (listing_bytes (merged_key_lines n s a b)))
    × (out' ≡ put_unless spot.dry out spot.at (listing_bytes (merged_key_lines n s a b)))

-- ---- all lines

-- what putting them counts on: stored keys of one set
pub record Mergeable (n : ℕ) (a b : Bytes) : Type 0 where
  pub short-name : n ≤ name_most
  pub same_set : SameSet n a b
  pub first_short : length a ≤ store_most
  pub second_short : length b ≤ store_most

-- and room for the lines, unless the run is dry
pub record CanMerge (n : ℕ) (dry : Bool) (s : Sides) (a b : Bytes) (room : ℕ) : Type 0 where
  pub keys : Mergeable n a b
  pub has_room : dry ≡ false → length (listing_bytes (merged_key_lines n s a b)) ≤ room

-- all lines are put at the front of out, which becomes out', or only counted
pub record Merges (n : ℕ) (dry : Bool) (s : Sides) (a b out out' : Bytes) (r : LinesPut) : Type 0 where
  pub bytes_are : r.bytes ≡ length (listing_bytes (merged_key_lines n s a b))
  pub labels_are : r.labels ≡ length (merged_key_lines n s a b)
  pub no_more : r.more ≡ false
  pub out-is : out' ≡ put_unless dry out 0 (listing_bytes (merged_key_lines n s a b))

-- all lines are put, or where they do not fit none
abbrev pub PutsAll : ℕ → Sides → Bytes → Bytes → Bytes → Bytes → LinesPut → Type 0
PutsAll n s a b out out' r = PutsWanted true (merged_key_lines n s a b) out out' r
