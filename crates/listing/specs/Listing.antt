-- "Listing: each label with at least one stored key whose dot is not in the tombstone, ascending: label length, label,
-- number of such dots (2 bytes, high first), the dots (9 bytes each, ascending)."
use Rattle.std.specs.Prelude.{ℕ, ◌≤◌, Bool, true, false, not, cond, ◌&&◌, List, [], ◌∷◌, ◌++◌, ◌≡◌, ltb, length}
use Rattle.wire.specs.Lists.{keep, member, all, Ascending}
use Rattle.wire.specs.Bytes.{Bytes, big_endian, put_at}
use Rattle.dots.specs.declared.Dot.{Dot}
use Rattle.dots.specs.Names.{Name, name_most}
use Rattle.dots.specs.Dots.{compare_dots}
use Rattle.dots.specs.Wire.{dots_bytes, dots_of}
use Rattle.dots.specs.Entries.{Entry, compare_entries, Line, lines_of}
use Rattle.keys.specs.Entry.{entry_ok}
use Rattle.store.specs.Cut.{store_bytes, entries_in}
use Rattle.store.specs.Valid.{store_most}
use Rattle.replica.specs.Page.{fitting, more_than_fit}
use Rattle.listing.specs.declared.LinesPut.{LinesPut}

-- whether a dot is not in the tombstone
abbrev pub is_live : List Dot → Dot → Bool
is_live tombstone d = not (member compare_dots d tombstone)

-- the entries whose dots are not in the tombstone
abbrev pub live_entries : List Dot → List Entry → List Entry
live_entries tombstone es = keep (λ (e : Entry). is_live tombstone e.dot) es

abbrev pub lines_of_live : List Dot → List Entry → List Line
lines_of_live tombstone es = lines_of (live_entries tombstone es)

-- bytes of a line beside its label and its dots
abbrev pub line_fixed : ℕ
line_fixed = 3

abbrev pub line_bytes : Line → Bytes
line_bytes l = length l.label ∷ (l.label ++ (big_endian 2 (length l.dots) ++ dots_bytes l.dots))

abbrev pub line_size : Line → ℕ
line_size l = length (line_bytes l)

unfoldable pub listing_bytes : List Line → Bytes
listing_bytes [] = []
listing_bytes (l ∷ ls) = line_bytes l ++ listing_bytes ls

-- ---- the listing of keys end to end, with a tombstone in bytes

abbrev pub key_lines : ℕ → Bytes → Bytes → List Line
key_lines n keys tombstone = lines_of_live (dots_of tombstone) (entries_in n keys)

-- keys end to end as an undamaged store has them: those of ascending entries of a set whose name has n bytes
pub record StoredKeys (n : ℕ) (keys : Bytes) : Type 0 where
  pub name : Name
  pub named : length name ≡ n
  pub written : store_bytes name (entries_in n keys) ≡ keys
  pub valid : all entry_ok (entries_in n keys) ≡ true
  pub ascend : Ascending compare_entries (entries_in n keys)

-- what a walk over them counts on
abbrev pub CanList : ℕ → Bytes → Type 0
CanList n keys = (n ≤ name_most) × (length keys ≤ store_most) × StoredKeys n keys

-- of the lines of a listing those are put at the front of out, which becomes out'; the rest of it keeps its values
pub record PutsLines (ls put : List Line) (out out' : Bytes) (r : LinesPut) : Type 0 where
  pub bytes_are : r.bytes ≡ length (listing_bytes put)
  pub labels_are : r.labels ≡ length put
  pub more-is : r.more ≡ ltb (length put) (length ls)
  pub out-is : out' ≡ put_at out 0 (listing_bytes put)

-- as many whole lines as fit; where all are wanted and do not fit, none
unfoldable pub wanted_lines : Bool → ℕ → List Line → List Line
wanted_lines all room ls = cond (all && ltb room (length (listing_bytes ls))) [] (fitting line_size room ls)

abbrev pub PutsFitting : List Line → Bytes → Bytes → LinesPut → Type 0
PutsFitting ls out out' r = PutsLines ls (fitting line_size (length out) ls) out out' r

-- the same, or a dry run, which only tells whether more follow
pub record PutsOrCounts (dry : Bool) (ls : List Line) (out out' : Bytes) (r : LinesPut) : Type 0 where
  pub more-is : r.more ≡ more_than_fit line_size (length out) ls
  pub counts : dry ≡ true → out' ≡ out
  pub puts : dry ≡ false → PutsFitting ls out out' r

abbrev pub PutsWanted : Bool → List Line → Bytes → Bytes → LinesPut → Type 0
PutsWanted all ls out out' r = PutsLines ls (wanted_lines all (length out) ls) out out' r
