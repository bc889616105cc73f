-- What the calls that only read count on, and what a listing gives, over the parts of a state. n is the length of the set's name.
use Rattle.std.specs.Prelude.{ℕ, ◌*◌, ◌≤◌, Bool, true, false, not, cond, ◌&&◌, List, [], ◌∷◌, ◌≡◌, eqb, ltb, length, take}
use Rattle.std.proofs.Math.Dec.{compare_is_eq}
use Rattle.wire.specs.Lists.{any, member}
use Rattle.wire.specs.Bytes.{Bytes, compare_bytes}
use Rattle.dots.specs.declared.Answer.{Answer}
use Rattle.dots.specs.declared.Answer.TheVariants.{Done, Damaged, BadName, OtherSet, OutputShort}
use Rattle.dots.specs.Answer.{Refusals}
use Rattle.dots.specs.declared.Dot.{Dot}
use Rattle.dots.specs.Names.{Name, Label, name_most, name_ok}
use Rattle.dots.specs.Dots.{compare_dots, ascending_dots, tombstone_most}
use Rattle.dots.specs.Wire.{dots_of, dot_size, tombstone_size}
use Rattle.dots.specs.Entries.{Entry, Line}
use Rattle.store.specs.Cut.{entries_in}
use Rattle.store.specs.Valid.{store_most, keys_fit}
use Rattle.store.specs.Place.{stretch_end, LabelPassed}
use Rattle.listing.specs.declared.LinesPut.{LinesPut}
use Rattle.listing.specs.Listing.{key_lines, StoredKeys}
use Rattle.calls.specs.declared.Listed.{Listed}
use Rattle.calls.specs.declared.Paged.{Paged}
use Rattle.calls.specs.declared.SetName.{SetName}
use Rattle.calls.specs.declared.Tombstone.{Tombstone}
use Rattle.calls.specs.Refusals.{bad_start}
use Rattle.steps.specs.Tests.{Tombstoned}

-- ---- lines put out

-- stored keys, and the tombstone of an undamaged state
pub record Readable (n : ℕ) (keys tombstone : Bytes) (count : ℕ) : Type 0 where
  pub short-name : n ≤ name_most
  pub keys-short : length keys ≤ store_most
  pub stored : StoredKeys n keys
  pub tomb : Tombstoned tombstone count

-- the lines of their listing
abbrev pub lines_in : ℕ → Bytes → Bytes → ℕ → List Line
lines_in n keys tombstone count = key_lines n keys (take (count * dot_size) tombstone)

-- refusal 13, where lines are left and none was put
unfoldable pub put_answer : LinesPut → Answer
put_answer put = cond (put.more && eqb put.labels 0) OutputShort Done

-- what a listing and a page give of the lines put out
abbrev pub listed_of : LinesPut → Listed
listed_of put = record { answer = put_answer put; written = put.bytes; labels = put.labels }

unfoldable pub paged_of : LinesPut → Paged
paged_of put = record { answer = put_answer put; written = put.bytes; labels = put.labels; more = put.more && ltb 0 put.labels }

-- refusals 1 and 5, which a page and a lookup have
abbrev pub early_refusals : Bool → Bool → Refusals
early_refusals damage bad = (damage, Damaged) ∷ (bad, BadName) ∷ []

-- ---- page

-- where a page starts: past the keys of its starting label, and at the front for an empty one
unfoldable pub page_start : Name → Label → Bytes → ℕ
page_start name start bytes = cond (eqb (length start) 0) 0 (stretch_end name start bytes)

-- keys and name of a set, a starting label, and a number of bytes that come before all its keys
pub record Startable (keys : Bytes) (name : Name) (start : Label) (low : ℕ) : Type 0 where
  pub named : name_ok name ≡ true
  pub started : bad_start start ≡ false
  pub passed : LabelPassed name start keys low

-- r is where a page starts in the keys of a set
abbrev pub IsStart : Bytes → Name → Label → ℕ → Type 0
IsStart keys name start r = (r ≡ page_start name start keys) × (r ≤ length keys)

-- ---- merged read

-- its refusals before the walk: "Either state damaged: 1, then different sets: 7"; by whether one is damaged, and by their set names
abbrev pub set_refusals : Bool → SetName → SetName → Refusals
set_refusals damage name given = (damage, Damaged) ∷ (not (compare_is_eq (compare_bytes (take given.len given.bytes) (take name.len name.bytes))), OtherSet) ∷ []

-- ---- lookup

-- the dots that a tombstone holds
abbrev pub removed_dots : Tombstone → List Dot
removed_dots t = dots_of (take (t.count * dot_size) t.bytes)

-- keys of a label, and the tombstone of an undamaged state
pub record LiveTestable (n : ℕ) (keys : Bytes) (tombstone : Tombstone) : Type 0 where
  pub short-name : n ≤ name_most
  pub keys-fit : keys_fit n keys ≡ true
  pub few : tombstone.count ≤ tombstone_most
  pub ascends : ascending_dots (removed_dots tombstone) ≡ true
  pub size : length tombstone.bytes ≡ tombstone_size

-- some key's dot is not in the tombstone
abbrev pub any_live : ℕ → Bytes → Tombstone → Bool
any_live n keys tombstone = any (λ (e : Entry). not (member compare_dots e.dot (removed_dots tombstone))) (entries_in n keys)
