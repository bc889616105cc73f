-- Where a page starts: from there on come the keys of the labels after the starting one, and their lines are those of the listing. Assumes nothing.
use Prim.Native.Nat.{◌≤◌}
use mathlib.Core.Path.{◌≡◌, refl, sym, ap, ◌∙◌}
use mathlib.Core.Bool.{Bool, true, false, not, cond, ◌&&◌, ◌||◌, and_comm}
use mathlib.Core.List.{List, [], ◌∷◌}
use native.Mathlib.Omega.{arith}
use lib.Dec.{eqb}
use lib.ListN.{length, drop}
use borrow.Author.Tests.{eqb-true, not-false}
use Rattle.wire.specs.Lists.{◌∈◌, keep, all, compare_lists}
use Rattle.wire.specs.Bytes.{Bytes}
use Rattle.wire.proofs.Lists.{keep_all, all-member, ascending-keep}
use Rattle.dots.specs.Names.{Name, Label, label_ok}
use Rattle.dots.specs.Entries.{Entry, compare_entries, lines_of}
use Rattle.dots.proofs.Orders as orders
use Rattle.keys.specs.Entry.{entry_ok}
use Rattle.store.specs.Cut.{store_bytes, entries_in}
use Rattle.store.specs.Place.{stretch_end}
use Rattle.store.proofs.RoundTrip.{UsedEntries, label-size}
use Rattle.store.proofs.Stretches.{keep-keep, all_keep, past-stretch}
use Rattle.listing.specs.Listing.{is_live, lines_of_live, StoredKeys}
use Rattle.listing.proofs.LineWalks.{read_again, stored_again}
use Rattle.replica.specs.Machine.{listing}
use Rattle.replica.specs.Page.{is_after, lines_after}
use Rattle.replica.proofs.Matching.{lines_matching}
use Rattle.calls.specs.declared.State.{State}
use Rattle.calls.specs.State.{clock_model, name_of, tombstone_dots, used_part, entries, view, Sized}
use Rattle.calls.specs.Damage.{damaged}
use Rattle.calls.specs.Refusals.{bad_start}
use Rattle.calls.proofs.Clauses.{undamaged, entries_of_lem}
use Rattle.reads.specs.Reads.{page_start}
use Rattle.reads.proofs.ReadCalls.{name-size, stretch-within}

pub start-within : (name : Name) (start : Label) (bytes : Bytes) → page_start name start bytes ≤ length bytes
unfolding page_start
start-within name start bytes = by (eqb (length start) 0)
  where
    by : (b : Bool) → cond b 0 (stretch_end name start bytes) ≤ length bytes
    by true = omega arith
    by false = (stretch-within name start bytes).1

-- an empty label comes before every other
front : (start l : Label) → length start ≡ 0 → 1 ≤ length l → is_after start l ≡ true
unfolding compare_lists
front [] [] none some = let no : ⊥ = omega arith in absurd no
front [] (b ∷ bs) none some = refl
front (a ∷ t) l none some = let no : ⊥ = omega arith in absurd no

module _ (st : State) (store : Bytes) (start : Label) (sized : Sized st) (f : damaged st store ≡ false) (ok : bad_start start ≡ false) where
  abbrev all-entries : List Entry
  all-entries = entries st store

  abbrev after : Entry → Bool
  after e = is_after start e.label

  abbrev later : List Entry
  later = keep after all-entries

  held : UsedEntries (name_of st) st.clock.words (used_part st store) all-entries
  held = entries_of_lem st store (undamaged st store f)

  later-valid : all entry_ok later ≡ true
  later-valid = all_keep after entry_ok all-entries held.valid

  from_start : drop (page_start (name_of st) start (used_part st store)) (used_part st store) ≡ store_bytes (name_of st) later
  unfolding page_start
  from_start = by (eqb (length start) 0) refl ok
    where
      first : length start ≡ 0 → (e : Entry) → e ∈ all-entries → after e ≡ true
      first none e m = front start e.label none (label-size (name_of st) e (all-member entry_ok all-entries held.valid e m)).0

      by : (b : Bool) → eqb (length start) 0 ≡ b → not (b || label_ok start) ≡ false
          → drop (cond b 0 (stretch_end (name_of st) start (used_part st store))) (used_part st store) ≡ store_bytes (name_of st) later
      by true e o = sym held.written ∙ ap (store_bytes (name_of st)) (sym (keep_all after all-entries (first (eqb-true (length start) 0 e))))
      by false e o = rw held.written at (past-stretch start (name_of st) (not-false (label_ok start) o) all-entries held.valid held.ascend)

  pub start-stored : StoredKeys st.name.len (drop (page_start (name_of st) start (used_part st store)) (used_part st store))
  start-stored =
      rw from_start
      (stored_again st.name.len (name_of st) (name-size st store sized f) later later-valid (ascending-keep compare_entries orders.entries after all-entries held.ascend))

  pub start-lines : lines_of_live (tombstone_dots st) (entries_in st.name.len (drop (page_start (name_of st) start (used_part st store)) (used_part st store)))
      ≡ lines_after start (listing clock_model (view st store))
  unfolding listing view
  start-lines =
      rw (from_start, read_again st.name.len (name_of st) (name-size st store sized f) later later-valid)
      (ap lines_of swapped ∙ lines_matching (is_after start) (keep live all-entries) (ascending-keep compare_entries orders.entries live all-entries held.ascend))
    where
      live : Entry → Bool
      live e = is_live (tombstone_dots st) e.dot

      swapped : keep live later ≡ keep after (keep live all-entries)
      swapped =
          sym (keep-keep after live (λ (e : Entry). after e && live e) (λ e. refl) all-entries)
          ∙ keep-keep live after (λ (e : Entry). after e && live e) (λ e. and_comm (after e) (live e)) all-entries
