-- The line at the front of keys end to end: where its keys end, how many of its dots are listed, and its bytes. n is the length of the set's name.
use Rattle.std.specs.Prelude.{ℕ, ◌+◌, ◌*◌, ◌≤◌, ◌<◌, Bool, true, cond, ◌&&◌, List, [], ◌∷◌, ◌++◌, map, ◌≡◌, eqb, leb, length, take, drop, Option, None, Some}
use Rattle.wire.specs.Lists.{keep, all}
use Rattle.wire.specs.Bytes.{Bytes, big_endian, part_at, put_at, starts_with}
use Rattle.dots.specs.declared.Dot.{Dot}
use Rattle.dots.specs.Names.{Label, name_most, label_most}
use Rattle.dots.specs.Wire.{dots_of, dot_size}
use Rattle.slots.specs.declared.SlottedDots.{SlottedDots}
use Rattle.dots.specs.Entries.{entry_dot, Line, line}
use Rattle.keys.specs.Key.{label_key_fixed, prefix_fixed}
use Rattle.store.specs.Cut.{keys_of, key_dot, entries_in}
use Rattle.store.specs.Valid.{store_most}
use Rattle.listing.specs.declared.ListedLine.{ListedLine}
use Rattle.listing.specs.Listing.{is_live, line_fixed, line_size, lines_of_live, listing_bytes, StoredKeys}

-- ---- one line

-- bytes of each of its keys
abbrev pub key_size : ℕ → ListedLine → ℕ
key_size n l = n + l.len + label_key_fixed

-- the label, which stands in the first key
abbrev pub label_of : ℕ → Bytes → ℕ → Label
label_of n keys len = part_at keys (n + prefix_fixed) len

-- the dots of keys end to end, and those that are not in the tombstone
abbrev pub dots_in : ℕ → Bytes → List Dot
dots_in n keys = map entry_dot (entries_in n keys)

abbrev pub listed_dots : ℕ → Bytes → List Dot → List Dot
listed_dots n keys tombstone = keep (is_live tombstone) (dots_in n keys)

-- whether a dot is listed: those are that are not among the dead ones, and all where none are given
abbrev pub listed_by : Option SlottedDots → Dot → Bool
listed_by None d = true
listed_by (Some dead) d = is_live (dots_of dead.dots.now) d

-- the line with one more key of its label
unfoldable pub with_key : ℕ → Bytes → List Dot → ListedLine → ListedLine
with_key n keys tombstone l = record {
  len = l.len;
  end = l.end + key_size n l;
  count = l.count + cond (is_live tombstone (key_dot (part_at keys l.end (key_size n l)))) 1 0;
  all = is_live tombstone (key_dot (part_at keys l.end (key_size n l))) && l.all;
}

-- what this counts on: the key stands in the keys, and the count in its bounds
abbrev pub CanAddKey : ℕ → Bytes → ListedLine → Type 0
CanAddKey n keys l = (l.end + key_size n l ≤ length keys) × (l.count ≤ store_most) × (length keys ≤ store_most)

-- whether the key after those of a line begins, past the set's prefix, with the line's label and its closing 00
unfoldable pub goes_on : ℕ → Bytes → ListedLine → Bool
goes_on n keys l =
    leb (l.end + (n + prefix_fixed)) (length keys)
    && starts_with (part_at keys (n + prefix_fixed) (l.len + 1)) (drop (l.end + (n + prefix_fixed)) keys)

-- what this counts on: the label and its closing 00 stand in the keys
abbrev pub CanGoOn : ℕ → Bytes → ListedLine → Type 0
CanGoOn n keys l = (1 ≤ l.len) × (n + prefix_fixed + (l.len + 1) ≤ length keys) × (length keys ≤ store_most) × (l.end ≤ length keys)

-- a label with its dots, if there are any
abbrev pub line_if : Label → List Dot → List Line
line_if label [] = []
line_if label (d ∷ ds) = line label (d ∷ ds) ∷ []

-- what the line at the front of keys adds to a listing
abbrev pub lines_of_line : ℕ → Bytes → List Dot → ListedLine → List Line
lines_of_line n keys tombstone l = line_if (label_of n keys l.len) (listed_dots n (take l.end keys) tombstone)

-- and how many bytes
unfoldable pub listed_size : ListedLine → ℕ
listed_size l = cond (eqb l.count 0) 0 (line_fixed + l.len + dot_size * l.count)

-- r is the line at the front of keys: its keys, those up to its end, are of one length; the lines of all keys are it, if a dot of it is listed, and the lines of the keys after it
pub record FirstLine (n : ℕ) (keys : Bytes) (tombstone : List Dot) (r : ListedLine) : Type 0 where
  pub some : 0 < r.end
  pub within : r.end ≤ length keys
  pub label-within : n + prefix_fixed + r.len ≤ length keys
  pub label-short : r.len ≤ label_most
  pub sized : all (λ (k : Bytes). eqb (length k) (key_size n r)) (keys_of n (take r.end keys)) ≡ true
  pub count-is : r.count ≡ length (listed_dots n (take r.end keys) tombstone)
  pub all-is : r.all ≡ true → listed_dots n (take r.end keys) tombstone ≡ dots_in n (take r.end keys)
  pub few : 16 * r.count ≤ r.end
  pub short : line_fixed + r.len + dot_size * r.count ≤ r.end
  pub rest : StoredKeys n (drop r.end keys)
  pub lines : lines_of_live tombstone (entries_in n keys) ≡ lines_of_line n keys tombstone r ++ lines_of_live tombstone (entries_in n (drop r.end keys))

-- ---- its bytes

-- what stands before its dots: the label's length, the label, the number of dots
abbrev pub line_head : Label → ℕ → Bytes
line_head label count = length label ∷ (label ++ big_endian 2 count)

-- what writing the dots of keys of one label counts on: keys of one length, and room for the listed dots
abbrev pub CanPutDots : ℕ → ℕ → Bytes → Option SlottedDots → ℕ → Type 0
CanPutDots n len keys dead room =
    (n ≤ name_most) × (len ≤ label_most) × (all (λ (k : Bytes). eqb (length k) (n + len + label_key_fixed)) (keys_of n keys) ≡ true)
    × (dot_size * length (keep (listed_by dead) (dots_in n keys)) ≤ room)

-- the line's label with its listed dots
abbrev pub line_of : ℕ → Bytes → List Dot → ListedLine → Line
line_of n keys tombstone l = line (label_of n keys l.len) (listed_dots n (take l.end keys) tombstone)

-- what writing the line at the front of keys counts on: room for it
abbrev pub CanPutLine : ℕ → Bytes → List Dot → ListedLine → ℕ → Type 0
CanPutLine n keys tombstone l room = (n ≤ name_most) × (length keys ≤ store_most) × FirstLine n keys tombstone l × (line_size (line_of n keys tombstone l) ≤ room)

abbrev pub CanPutListed : ℕ → Bytes → List Dot → ListedLine → ℕ → Type 0
CanPutListed n keys tombstone l room = (n ≤ name_most) × (length keys ≤ store_most) × FirstLine n keys tombstone l × (listed_size l ≤ room)

-- lines are put at the front of out, which becomes out'; r is how many they are
abbrev pub ListedPut : List Line → Bytes → Bytes → ℕ → Type 0
ListedPut ls out out' r = (r ≡ length ls) × (out' ≡ put_at out 0 (listing_bytes ls))
