-- The pass over the keys of a store, key by key: what each of its functions counts on and tells.
use Rattle.std.specs.Prelude.{◌≡◌, ℕ, ◌+◌, ◌-◌, ◌*◌, ◌^◌, ◌≤◌, Bool, true, false, ◌&&◌, ◌⊎◌, Option, None, Some, List, ◌++◌, map, length, get_or, take, drop, ◌==◌, ◌≢◌, nat_le, slice_index}
use mir.Syntax.{w8}
use mir.Val.{Fits}
use Rattle.wire.specs.Lists.{all, is_lt, ascends_from}
use Rattle.wire.specs.Bytes.{Bytes, between, compare_bytes, number_at, from_little_endian}
use Rattle.search.specs.Marks.{mark_place}
use Rattle.dots.specs.Names.{Name, Label, name_ok, name_most, label_most}
use Rattle.dots.specs.Dots.{actor_most, actor_of, dot_of}
use Rattle.clock.specs.Clock.{sees}
use Rattle.keys.specs.Entry.{prefix}
use Rattle.keys.specs.Key.{label_key_fixed, prefix_fixed, suffix_size}
use Rattle.store.specs.declared.KeyTail.{KeyTail}
use Rattle.store.specs.declared.LabelEnd.{LabelEnd}
use Rattle.store.specs.declared.Prefix.{Prefix}
use Rattle.store.specs.Cut.{keys_of}
use Rattle.store.specs.Valid.{key_ok, used_ok}
use Rattle.store.specs.Place.{LabelPassed}
use Rattle.store.specs.Front.{TailIn, tail_of}

-- bytes of what a set's keys begin with, of a key, and of a key past its prefix, at most
abbrev pub prefix_most : ℕ
prefix_most = name_most + prefix_fixed

abbrev pub key_most : ℕ
key_most = name_most + label_most + label_key_fixed

abbrev pub tail_most : ℕ
tail_most = label_most + suffix_size

-- ---- what the keys of a set begin with

-- the set's name in it
abbrev pub name_in : Bytes → Name
name_in start = take (length start - prefix_fixed) (drop 2 start)

abbrev pub IsStart : Bytes → Type 0
IsStart start = (name_ok (name_in start) ≡ true) × (start ≡ prefix (name_in start))

-- for comparing up to 8 bytes at once: the bits of a word that count, and what they are
pub record IsPrefix (start : Bytes) (p : Prefix) : Type 0 where
  pub size : p.len ≡ length start
  pub few : length start ≤ prefix_most
  pub counts : length start ≤ 8 → p.mask ≡ 2 ^ (8 * length start) - 1
  pub is : length start ≤ 8 → p.pattern ≡ from_little_endian start

-- ---- a label and its dot

-- the mark of a label's closing 00, where it is kept, tells how long the label is
abbrev pub MarkTells : ℕ → ℕ → Type 0
MarkTells mark len = (mark ≢ 0) → (len ≡ mark_place mark) × (1 ≤ len)

-- a label that ends after z bytes: "1 to 32 bytes"
abbrev pub LabelIs : ℕ → Option LabelEnd → Type 0
LabelIs z None = between 1 label_most z ≡ false
LabelIs z (Some l) = (l.len ≡ z) × (between 1 label_most z ≡ true) × MarkTells l.mark l.len

-- actor, 00 and counter from a place on are a dot that the clock sees
unfoldable pub dot_seen : List ℕ → Bytes → ℕ → Bool
dot_seen words t at =
    nat_le 1 (slice_index t at) && nat_le (slice_index t at) actor_most && slice_index t (at + 1) == 0 && sees words (dot_of (actor_of (slice_index t at)) (number_at 8 t (at + 2)))

-- label, 00, actor, 00 and counter, of so many bytes in all, or 0 where they break a rule
abbrev pub AfterIs : ℕ → Option LabelEnd → Type 0
AfterIs size None = size ≡ 0
AfterIs size (Some l) = (size ≡ l.len + suffix_size) × (1 ≤ l.len) × MarkTells l.mark l.len

-- ---- the keys so far

-- the rules of keys that come after one with the bytes b from its label on
unfoldable pub rest_ok : Name → List ℕ → Bytes → List Bytes → Bool
rest_ok name words b ks = all (key_ok name words) ks && ascends_from compare_bytes b (map (drop (length name + prefix_fixed)) ks)

-- bytes that come before all that begin with a label
abbrev pub BeforeAll : Bytes → Label → Type 0
BeforeAll s label = (tail : Bytes) → is_lt (compare_bytes s (label ++ tail)) ≡ true

-- the keys up to the end of the last one keep the rules, so that the others decide; if the last comes before all keys of a label, so do all up to its end
pub record Passing (name : Name) (words : List ℕ) (keys : Bytes) (last : KeyTail) : Type 0 where
  pub tail_in : TailIn keys last
  pub marked : MarkTells last.mark last.len
  pub decides : used_ok name words keys ≡ rest_ok name words (tail_of keys last) (keys_of (length name) (drop last.end keys))
  pub tells : (label : Label) → BeforeAll (tail_of keys last) label → LabelPassed name label keys last.end

-- the rules are broken, or kept by the keys up to one that ends at `least` or past it
abbrev pub NextIs : Name → List ℕ → Bytes → ℕ → Option KeyTail → Type 0
NextIs name words keys least None = used_ok name words keys ≡ false
NextIs name words keys least (Some last) = Passing name words keys last × (least ≤ last.end)

-- numbers that fit a byte each, as those of lent bytes do
abbrev pub AreBytes : Bytes → Type 0
AreBytes bytes = (i : ℕ) → Fits w8 (get_or bytes i 0)

-- what a key with room for the longest is read by
abbrev pub CanRead : Bytes → Prefix → List ℕ → Bytes → KeyTail → Type 0
CanRead start p words keys last = IsStart start × IsPrefix start p × Passing (name_in start) words keys last

-- how many bytes come before all keys of a label: as many as before, or those up to the end of a last key that does
abbrev pub LowAfter : Bytes → Label → KeyTail → ℕ → ℕ → Type 0
LowAfter keys label last low r = (r ≡ low) ⊎ ((r ≡ last.end) × (is_lt (compare_bytes (tail_of keys last) label) ≡ true))
