-- A merged listing is no longer than the keys of both sides. Assumes nothing.
use mathlib.Core.Bool.{Bool, true, false}
use mathlib.Core.List.{List, [], ◌∷◌}
use Prim.Native.Nat.{ℕ, ◌+◌, ◌≤◌, Ordering}
use native.Mathlib.Omega.{arith}
use lib.ListN.{length, length-append}
use Rattle.wire.specs.Lists.{cons_if, keep, place, insert, insert_all}
use Rattle.dots.specs.declared.Dot.{Dot}
use Rattle.dots.specs.Names.{Name}
use Rattle.dots.specs.Wire.{dot_size}
use Rattle.dots.specs.Entries.{Entry, compare_entries, lines_of}
use Rattle.keys.specs.Entry.{entry_key}
use Rattle.keys.proofs.EntryKeys.{length_entry_key}
use Rattle.store.specs.Cut.{end_to_end, store_bytes}
use Rattle.listing.specs.Listing.{line_fixed, listing_bytes}
use Rattle.listing.proofs.Folds.{prepend-bytes}
use Rattle.replica.specs.Clock.{ClockModel}
use Rattle.replica.specs.Read.{Read, kept_beside, merged_entries}
use Rattle.replica.proofs.Walk.{live_key, side_of, merged_from}

-- what an entry adds to a listing, at most: a line of its own
abbrev weight : Entry → ℕ
weight e = length e.label + line_fixed + dot_size

unfoldable weights : List Entry → ℕ
weights [] = 0
weights (e ∷ es) = weight e + weights es

-- ---- lines

lines-size : (es : List Entry) → length (listing_bytes (lines_of es)) ≤ weights es
unfolding lines_of weights listing_bytes
lines-size [] = omega arith
lines-size (e ∷ es) = omega (arith, prepend-bytes e (lines_of es), lines-size es)

-- ---- entries of both

keep_weighs : (p : Entry → Bool) (es : List Entry) → weights (keep p es) ≤ weights es
unfolding keep weights
keep_weighs p [] = omega arith
keep_weighs p (e ∷ es) = go (p e) (keep_weighs p es)
  where
    go : (b : Bool) → weights (keep p es) ≤ weights es → weights (cons_if b e (keep p es)) ≤ weight e + weights es
    go true h = omega arith
    go false h = omega arith

insert_weighs : (e : Entry) (es : List Entry) → weights (insert compare_entries e es) ≤ weight e + weights es
unfolding insert weights
insert_weighs e [] = omega arith
insert_weighs e (f ∷ es) = go (compare_entries e f) (insert_weighs e es)
  where
    go : (o : Ordering) → weights (insert compare_entries e es) ≤ weight e + weights es → weights (place o e f es (insert compare_entries e es)) ≤ weight e + (weight f + weights es)
    go Ordering.lt h = omega arith
    go Ordering.eq h = omega arith
    go Ordering.gt h = omega arith

all_weigh : (es fs : List Entry) → weights (insert_all compare_entries es fs) ≤ weights es + weights fs
unfolding insert_all weights
all_weigh [] fs = omega arith
all_weigh (e ∷ es) fs = omega (arith, all_weigh es (insert compare_entries e fs), insert_weighs e fs)

-- ---- keys

keys_weigh : (name : Name) (es : List Entry) → weights es ≤ length (store_bytes name es)
unfolding store_bytes end_to_end weights
keys_weigh name [] = omega arith
keys_weigh name (e ∷ es) = omega (arith, length-append (entry_key name e) (store_bytes name es), length_entry_key name e, keys_weigh name es)

module _ (C : ClockModel) (v w : C.Clock) (dead dead' : List Dot) (name name' : Name) (xs ys : List Entry) where
  pub merged-short : length (listing_bytes (lines_of (merged_from C v w dead dead' xs ys))) ≤ length (store_bytes name xs) + length (store_bytes name' ys)
  unfolding merged_entries
  merged-short =
      let r : Read C = side_of C v dead xs in
      let t : Read C = side_of C w dead' ys in
      omega (
        arith,
        lines-size (merged_from C v w dead dead' xs ys),
        all_weigh (keep (kept_beside C t) r.listed) (keep (kept_beside C r) t.listed),
        keep_weighs (kept_beside C t) r.listed,
        keep_weighs (kept_beside C r) t.listed,
        keep_weighs (live_key dead) xs,
        keep_weighs (live_key dead') ys,
        keys_weigh name xs,
        keys_weigh name' ys,
      )
