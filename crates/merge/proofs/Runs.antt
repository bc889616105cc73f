-- The keys of one label at the front of stored keys: a walk over them, which are all as long. Assumes nothing.
use mathlib.Core.Path.{◌≡◌, refl, sym, ap, ◌∙◌}
use mathlib.Core.Bool.{Bool, true, false, not}
use mathlib.Core.List.{List, [], ◌∷◌, ◌++◌}
use Prim.Native.Nat.{ℕ, ◌+◌, ◌-◌, ◌≤◌, ◌<◌}
use native.Mathlib.Omega.{arith}
use lib.ListN.{length, take, drop, length-append, length-drop, drop_of_length-le}
use lib.Seq.{drop_at, drop-drop}
use borrow.Author.Tests.{leb-true, not-true, not-false}
use Rattle.wire.specs.Lists.{all}
use Rattle.wire.specs.Bytes.{Bytes, starts_with}
use Rattle.wire.proofs.Tests.{both}
use Rattle.wire.proofs.Parts.{rest_part}
use Rattle.dots.specs.Names.{Name, Label, label_most, label_ok, text_ok}
use Rattle.dots.specs.Entries.{Entry}
use Rattle.keys.specs.Key.{label_key_fixed, prefix_fixed}
use Rattle.keys.specs.Entry.{entry_ok, entry_key}
use Rattle.keys.proofs.EntryKeys.{length_entry_key, length-prefix}
use Rattle.store.specs.Cut.{end_to_end, store_bytes, keys_after, keys_of, entries_in}
use Rattle.store.specs.Place.{length_while, label_start}
use Rattle.store.proofs.RoundTrip.{keys-written}
use Rattle.store.proofs.Stretches.{same, begins-key, begins_alone}
use Rattle.listing.proofs.Listings.{same-label}
use Rattle.merge.specs.Labels.{LabelStart}

-- what the keys of a label begin with is so long
pub length-start : (name : Name) (label : Label) → length (label_start name label) ≡ length name + prefix_fixed + (length label + 1)
unfolding label_start
length-start name label = rw (length-append, length-append, length-prefix)

-- the keys from `at` on, and how far the run goes
pub record RunLeft (n : ℕ) (keys start : Bytes) (size at : ℕ) : Type 0 where
  pub name : Name
  pub named : length name ≡ n
  pub label : Label
  pub labelled : label_ok label ≡ true
  pub begins : start ≡ label_start name label
  pub sized : size ≡ n + length label + label_key_fixed
  pub left : List Entry
  pub valid : all entry_ok left ≡ true
  pub within : at ≤ length keys
  pub left_is : drop at keys ≡ store_bytes name left
  pub whole : length_while (starts_with start) (keys_of n keys) ≡ at + length_while (starts_with start) (keys_of n (drop at keys))

module _ (n : ℕ) (keys start : Bytes) (s : LabelStart n keys start) where
  pub start-long : length start ≡ n + prefix_fixed + (length s.label + 1)
  start-long = ap length s.begins ∙ length-start s.stored.name s.label ∙ rw s.stored.named

  pub label-short : length s.label ≤ label_most
  unfolding text_ok
  label-short = let l = s.labelled in leb-true (length s.label) label_most (search both)

  pub run-start : (size : ℕ) → size ≡ n + (length start - (n + prefix_fixed + 1)) + label_key_fixed → RunLeft n keys start size 0
  run-start size e = record {
    name = s.stored.name;
    named = s.stored.named;
    label = s.label;
    labelled = s.labelled;
    begins = s.begins;
    sized = omega (arith, start-long);
    left = entries_in n keys;
    valid = s.stored.valid;
    within = omega arith;
    left_is = sym s.stored.written;
    whole = omega arith;
  }

module _ (n : ℕ) (keys start : Bytes) (size at : ℕ) (r : RunLeft n keys start size at) where
  pub run_end : length keys ≤ at → at ≡ length_while (starts_with start) (keys_of n keys)
  unfolding length_while keys_after
  run_end h = omega (arith, rw (drop_of_length-le keys h) at r.whole)

  -- a key comes next
  module _ (more : at < length keys) (tested : Bool) (said : tested ≡ starts_with start (take (length keys - at) (drop at keys))) where
    record Turned : Type 0 where
      stops : not tested ≡ true → at ≡ length_while (starts_with start) (keys_of n keys)
      goes_on : not tested ≡ false → RunLeft n keys start size (at + size)

    -- it is the key of an entry
    module _ (e : Entry) (es : List Entry) (q : r.left ≡ e ∷ es) where
      abbrev key : Bytes
      key = entry_key r.name e

      all-ok : all entry_ok (e ∷ es) ≡ true
      all-ok = rw q at r.valid

      ok : entry_ok e ≡ true
      unfolding all
      ok = let v = all-ok in search both

      rest_ok_lem : all entry_ok es ≡ true
      unfolding all
      rest_ok_lem = let v = all-ok in search both

      left_are : drop at keys ≡ key ++ store_bytes r.name es
      unfolding store_bytes end_to_end
      left_are = r.left_is ∙ ap (store_bytes r.name) q

      rest-is : drop (at + length key) keys ≡ store_bytes r.name es
      rest-is = sym (drop-drop (length key) at keys) ∙ ap (drop (length key)) left_are ∙ drop_at key (store_bytes r.name es) (length key) refl

      keys_are : keys_of n (drop at keys) ≡ key ∷ keys_of n (drop (at + length key) keys)
      keys_are =
          rw (← r.named)
          (ap (keys_of (length r.name)) (r.left_is ∙ ap (store_bytes r.name) q) ∙ keys-written r.name (e ∷ es) all-ok
          ∙ ap (λ (ks : List Bytes). key ∷ ks) (sym (ap (keys_of (length r.name)) rest-is ∙ keys-written r.name es rest_ok_lem)))

      tests_label : tested ≡ same r.label e
      tests_label = said ∙ rw (rest_part, left_are, r.begins) (begins-key r.label r.name r.labelled e ok (store_bytes r.name es))

      tests_key : starts_with start key ≡ tested
      tests_key = rw r.begins (begins_alone r.label r.name r.labelled e ok) ∙ sym tests_label

      stopped : tested ≡ false → at ≡ length_while (starts_with start) (keys_of n keys)
      unfolding length_while
      stopped f =
          let none : length_while (starts_with start) (keys_of n (drop at keys)) ≡ 0 = rw (keys_are, tests_key, f) in
          omega (arith, r.whole)

      went_on : tested ≡ true → RunLeft n keys start size (at + size)
      unfolding length_while
      went_on t =
          let some : length_while (starts_with start) (keys_of n (drop at keys)) ≡ length key + length_while (starts_with start) (keys_of n (drop (at + length key) keys)) = rw (keys_are, tests_key, t) in
          let label : e.label ≡ r.label = same-label e.label r.label (sym tests_label ∙ t) in
          let long : length key ≡ size = length_entry_key r.name e ∙ rw (label, r.named, r.sized) in
          let rest : length_while (starts_with start) (keys_of n (drop (at + length key) keys)) ≡ length_while (starts_with start) (keys_of n (drop (at + size) keys)) = rw long in
          record {
            name = r.name;
            named = r.named;
            label = r.label;
            labelled = r.labelled;
            begins = r.begins;
            sized = r.sized;
            left = es;
            valid = rest_ok_lem;
            within = omega (arith, ap length left_are, length-append key (store_bytes r.name es), length-drop at keys);
            left_is = rw (← long) rest-is;
            whole = omega (arith, r.whole);
          }

    turn : (es : List Entry) → r.left ≡ es → Turned
    unfolding store_bytes end_to_end
    turn [] q =
        let none : length (drop at keys) ≡ 0 = ap length (r.left_is ∙ ap (store_bytes r.name) q) in
        absurd (omega (arith, length-drop at keys))
    turn (e ∷ es) q = record { stops = λ t. stopped e es q (not-true tested t); goes_on = λ t. went_on e es q (not-false tested t) }

  module _ (more : at < length keys) (tested : Bool) (said : tested ≡ starts_with start (take (length keys - at) (drop at keys))) where
    pub run-stops : not tested ≡ true → at ≡ length_while (starts_with start) (keys_of n keys)
    run-stops = (turn more tested said r.left refl).stops

    pub run_goes_on : not tested ≡ false → RunLeft n keys start size (at + size)
    run_goes_on = (turn more tested said r.left refl).goes_on
