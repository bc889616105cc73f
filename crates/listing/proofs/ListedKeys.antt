-- A walk over keys end to end: each key has room for its fields, says one entry, and leaves the entries of the keys after it. Assumes nothing.
use mathlib.Core.Path.{◌≡◌, refl, sym, ap, ◌∙◌}
use mathlib.Core.Bool.{Bool, true, false, not, ◌&&◌}
use mathlib.Core.List.{List, [], ◌∷◌}
use Prim.Native.Nat.{ℕ, ◌+◌, ◌-◌, ◌≤◌, ◌<◌}
use native.Mathlib.Omega.{arith}
use lib.Dec.{leb}
use lib.ListN.{length, take, drop, drop_of_length-le}
use borrow.Author.Tests.{leb-true}
use Rattle.wire.specs.Lists.{any, all, member}
use Rattle.wire.specs.Bytes.{Bytes, part_at, between}
use Rattle.wire.proofs.Tests.{both_left, both_right}
use Rattle.wire.proofs.Parts.{rest_part, size-part}
use Rattle.dots.specs.declared.Dot.{Dot}
use Rattle.dots.specs.Names.{name_most, label_most}
use Rattle.dots.specs.Dots.{compare_dots}
use Rattle.dots.specs.Entries.{Entry}
use Rattle.keys.specs.Key.{label_key_fixed, suffix_size}
use Rattle.store.specs.Cut.{key_length, keys_after, key_dot, key_says, entries_in}
use Rattle.store.specs.Valid.{keys_fit}
use Rattle.store.proofs.Walk.{first_key_lem, key-size, end-within as key-within}
use Rattle.reader.specs.Reading.{key_end}
use Rattle.reader.proofs.KeyEnds.{key_end_is}
use Rattle.listing.specs.Listing.{is_live}

-- a key at a place of keys end to end: the entry that it says, whether a tombstone has its dot, and the keys after it
pub record KeyAt (n : ℕ) (keys : Bytes) (tombstone : List Dot) (at end : ℕ) (dead : Bool) : Type 0 where
  pub says : entries_in n (drop at keys) ≡ key_says n (part_at keys at (end - at)) ∷ entries_in n (drop end keys)
  pub live-is : not dead ≡ is_live tombstone (key_dot (part_at keys at (end - at)))
  pub rest-fits : keys_fit n (drop end keys) ≡ true
  pub later : at < end
  pub within : end ≤ length keys

-- ---- the key at a place

module _ (n : ℕ) (keys : Bytes) (at end : ℕ) (short : n ≤ name_most) (more : at < length keys) (fit : keys_fit n (drop at keys) ≡ true) (read : end ≡ key_end keys at n) where
  abbrev len : ℕ
  len = key_length n (take (length keys - at) (drop at keys))

  end_is : end ≡ at + len
  end_is = read ∙ key_end_is keys at n more short ∙ ap (λ (s : Bytes). at + key_length n s) (sym (rest_part keys at))

  fits : (between (n + (label_key_fixed + 1)) (n + label_key_fixed + label_most) len && keys_fit n (drop (at + len) keys)) ≡ true
  unfolding keys_fit all
  fits = rw (first_key_lem n keys at len more refl, key-size n keys at len more refl) at fit

  sized : between (n + (label_key_fixed + 1)) (n + label_key_fixed + label_most) len ≡ true
  sized = both_left (between (n + (label_key_fixed + 1)) (n + label_key_fixed + label_most) len) (keys_fit n (drop (at + len) keys)) fits

  low : n + (label_key_fixed + 1) ≤ len
  low = leb-true (n + (label_key_fixed + 1)) len (both_left (leb (n + (label_key_fixed + 1)) len) (leb len (n + label_key_fixed + label_most)) sized)

  pub end-within : end ≤ length keys
  end-within = let h = key-within n keys at len more refl in omega (arith, end_is)

  pub end_later : at ≤ end
  end_later = omega (arith, end_is)

  part-is : take (end - at) (drop at keys) ≡ take len (drop at keys)
  part-is = rw (end_is, size-part)

  pub dot-room : suffix_size - 1 ≤ length (take (end - at) (drop at keys))
  dot-room = rw (part-is, key-size n keys at len more refl) (omega (arith, low))

  -- the key as it was read
  pub key-at : (tombstone : List Dot) (dot : Dot) (dead : Bool) → dot ≡ key_dot (take (end - at) (drop at keys)) → dead ≡ member compare_dots dot tombstone
      → KeyAt n keys tombstone at end dead
  unfolding entries_in
  key-at tombstone dot dead said tested = record {
    says = rw (part-is, end_is, first_key_lem n keys at len more refl);
    live-is = ap not (tested ∙ ap (λ (d : Dot). member compare_dots d tombstone) said);
    rest-fits = rw end_is (both_right (between (n + (label_key_fixed + 1)) (n + label_key_fixed + label_most) len) (keys_fit n (drop (at + len) keys)) fits);
    later = omega (arith, end_is, low);
    within = end-within;
  }

-- no keys are left
pub no_entries : (n : ℕ) (keys : Bytes) (at : ℕ) → length keys ≤ at → entries_in n (drop at keys) ≡ []
unfolding entries_in keys_after
no_entries n keys at h = rw (drop_of_length-le keys h)

-- whether some entry's dot is not in a tombstone
abbrev pub some_live : List Dot → List Entry → Bool
some_live tombstone es = any (λ (e : Entry). is_live tombstone e.dot) es

-- whether some dot is live: here, or of the keys after it
module _ (n : ℕ) (keys : Bytes) (tombstone : List Dot) (at end : ℕ) (dead : Bool) (key : KeyAt n keys tombstone at end dead)
    (whole : Bool) (inv : whole ≡ some_live tombstone (entries_in n (drop at keys))) where
  pub live_here : dead ≡ false → true ≡ whole
  unfolding any
  live_here t = sym (inv ∙ rw (key.says, ← key.live-is, t))

  pub live-later : dead ≡ true → whole ≡ some_live tombstone (entries_in n (drop end keys))
  unfolding any
  live-later t = inv ∙ rw (key.says, ← key.live-is, t)
