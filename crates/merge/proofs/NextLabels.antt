-- The label that comes next in two stores: its keys at the front of each, and the rests. Assumes nothing.
use mathlib.Core.Path.{◌≡◌, refl, sym, ap, ap₂, ◌∙◌, subst}
use mathlib.Core.Logic.{◌⊎◌, inl, inr}
use mathlib.Core.Bool.{true, not, cond, true≢false}
use mathlib.Core.List.Memᴰ
use mathlib.Core.List.{List, [], ◌∷◌, ◌++◌, map, append_assoc}
use Prim.Native.Nat.{ℕ, ◌+◌, ◌-◌, ◌≤◌, ◌<◌, Ordering}
use native.Mathlib.Omega.{arith}
use lib.Dec.{compare_is_eq}
use lib.ListN.{length, take, drop, length-append}
use lib.Seq.{take_at, take-append_seam, drop-append_seam}
use Rattle.std.specs.Prelude.{Some, None}
use Rattle.wire.specs.Lists.{◌∈◌, keep, all, is_lt, Less, Ascending}
use Rattle.wire.specs.Bytes.{Bytes, big_endian, compare_bytes, starts_with}
use Rattle.wire.proofs.Tests.{both, holds, pass}
use Rattle.wire.proofs.Lists.{keep-member, member-keep, all-member, ascending-keep}
use Rattle.wire.proofs.Orders.{bytes_lawful}
use Rattle.wire.proofs.BigEndian.{length-big_endian}
use Rattle.dots.specs.declared.Dot.{Dot}
use Rattle.dots.specs.Names.{Name, Label, label_ok}
use Rattle.dots.specs.Entries.{Entry, entry, entry_dot, compare_entries, Line, lines_of}
use Rattle.dots.specs.Wire.{dots_of}
use Rattle.dots.proofs.Orders.{entries}
use Rattle.clock.specs.Row.{window_width}
use Rattle.keys.specs.Key.{label_key_fixed, suffix_size}
use Rattle.keys.specs.Entry.{entry_ok, entry_key, suffix}
use Rattle.keys.proofs.EntryKeys.{entry_key_parts, length_entry_key}
use Rattle.store.specs.Cut.{end_to_end, store_bytes, keys_of, entries_in}
use Rattle.store.specs.Place.{length_while, label_start}
use Rattle.store.proofs.RoundTrip.{keys-written, store-append}
use Rattle.store.proofs.Stretches.{lower, same, keep-front, while_kept, begins_alone, same-front, all_keep}
use Rattle.replica.specs.RowClock.{row_clock}
use Rattle.replica.proofs.Walk.{merged_from}
use Rattle.listing.specs.Listing.{StoredKeys}
use Rattle.listing.proofs.Listings.{same-label}
use Rattle.listing.proofs.LineWalks.{read_again, length-first}
use Rattle.merge.specs.declared.NextLabel.{NextLabel}
use Rattle.merge.specs.Step.{first_key, second_lower}
use Rattle.merge.specs.Sides.{Sides, merged_key_lines, SameSet}
use Rattle.merge.specs.Labels.{LabelStart, LabelKeys, ComesNext}
use Rattle.merge.proofs.Splits.{OfLabel, AboveLabel, merged_lines_split}
use Rattle.merge.proofs.Heads.{NoneLower, Head, BothEnd, next-head}

-- ---- one store, and a label that none of it is lower than

-- entries of one label are that label with their dots
pub of_label : (l : Label) (es : List Entry) → OfLabel l es → map (entry l) (map entry_dot es) ≡ es
of_label l [] here = refl
of_label l (e ∷ es) here =
    ap₂ ◌∷◌ (ap (λ (m : Label). entry m e.dot) (sym (here e (Memᴰ.head refl)))) (of_label l es (λ x m. here x (Memᴰ.tail m)))

module _ (l : Label) (es : List Entry) where
  -- those of the label, and the others
  abbrev pub own : List Entry
  own = keep (same l) es

  abbrev pub others : List Entry
  others = keep (λ (e : Entry). not (same l e)) es

  pub own-label : OfLabel l own
  own-label e m = same-label e.label l (holds (same l e) (keep-member (same l) es m).1)

  module _ (none : NoneLower l es) where
    pub others-above : AboveLabel l others
    others-above e m =
        let k = keep-member (λ (x : Entry). not (same l x)) es m in
        go (compare_bytes e.label l) refl (all-member (λ (x : Entry). not (lower l x)) es none e k.0) (holds (not (same l e)) k.1)
      where
        go : (o : Ordering) → compare_bytes e.label l ≡ o → not (is_lt o) ≡ true → not (compare_is_eq o) ≡ true → Less compare_bytes l e.label
        go Ordering.lt q t u = absurd (true≢false (sym t))
        go Ordering.eq q t u = absurd (true≢false (sym u))
        go Ordering.gt q t u = bytes_lawful.turn e.label l q

    module _ (up : Ascending compare_entries es) where
      pub own_first : own ++ others ≡ es
      own_first = keep-front (same l) es (same-front l es up none)

      module _ (name : Name) (ok : label_ok l ≡ true) (valid : all entry_ok es ≡ true) where
        pub run_is : length_while (starts_with (label_start name l)) (keys_of (length name) (store_bytes name es)) ≡ length (store_bytes name own)
        run_is = rw (keys-written name es valid) (while_kept name (starts_with (label_start name l)) (same l) (λ e v. begins_alone l name ok e v) es valid (same-front l es up none))

        cut : store_bytes name es ≡ store_bytes name own ++ store_bytes name others
        cut = ap (store_bytes name) (sym own_first) ∙ store-append name own others

        pub front-is : take (length (store_bytes name own)) (store_bytes name es) ≡ store_bytes name own
        front-is = rw cut (take-append_seam (store_bytes name own) (store_bytes name others))

        pub rest-is : drop (length (store_bytes name own)) (store_bytes name es) ≡ store_bytes name others
        rest-is = rw cut (drop-append_seam (store_bytes name own) (store_bytes name others))

        own-valid : all entry_ok own ≡ true
        own-valid = all_keep (same l) entry_ok es valid

        others-valid : all entry_ok others ≡ true
        others-valid = all_keep (λ (e : Entry). not (same l e)) entry_ok es valid

        others_up : Ascending compare_entries others
        others_up = ascending-keep compare_entries entries (λ (e : Entry). not (same l e)) es up

        -- in keys that are written so, cut after the run
        module _ (n : ℕ) (named : length name ≡ n) (keys : Bytes) (written : store_bytes name es ≡ keys) (size : ℕ) (run : size ≡ length (store_bytes name own)) where
          front_are : take size keys ≡ store_bytes name own
          front_are = rw run (ap (take (length (store_bytes name own))) (sym written) ∙ front-is)

          rest_are : drop size keys ≡ store_bytes name others
          rest_are = rw run (ap (drop (length (store_bytes name own))) (sym written) ∙ rest-is)

          pub front-entries : entries_in n (take size keys) ≡ own
          front-entries = ap (entries_in n) front_are ∙ read_again n name named own own-valid

          pub rest-entries : entries_in n (drop size keys) ≡ others
          rest-entries = ap (entries_in n) rest_are ∙ read_again n name named others others-valid

          pub front-keys : LabelKeys name l (take size keys)
          front-keys = record {
            dots = map entry_dot own;
            written = front_are ∙ ap (store_bytes name) (sym (of_label l own own-label));
            valid = rw (of_label l own own-label) own-valid;
            ascend = subst (Ascending compare_entries) (sym (of_label l own own-label)) (ascending-keep compare_entries entries (same l) es up);
          }

          pub rest-stored : StoredKeys n (drop size keys)
          rest-stored = record {
            name = name;
            named = named;
            written = ap (store_bytes name) rest-entries ∙ sym rest_are;
            valid = ap (all entry_ok) rest-entries ∙ others-valid;
            ascend = subst (Ascending compare_entries) (sym rest-entries) others_up;
          }

          pub some-own : (e : Entry) → e ∈ es → e.label ≡ l → 0 < size
          some-own e m q = go own refl
            where
              held : e ∈ keep (same l) es
              held = member-keep (same l) es m (pass (ap (λ (k : Label). compare_is_eq (compare_bytes k l)) q ∙ ap compare_is_eq (bytes_lawful.self l)))

              go : (fs : List Entry) → keep (same l) es ≡ fs → 0 < size
              go [] z = absurd (Memᴰ.not-nil (subst (λ (gs : List Entry). e ∈ gs) z held))
              go (f ∷ fs) z = omega (arith, run, ap (λ (gs : List Entry). length (store_bytes name gs)) z, length-first n name named f fs)

-- ---- two stores

-- a key up to its label's closing 00
key-start : (name : Name) (e : Entry) → take (length (entry_key name e) - (suffix_size - 1)) (entry_key name e) ≡ label_start name e.label
unfolding label_start suffix
key-start name e =
    let d : Dot = e.dot in
    let tail : Bytes = d.actor.number ∷ 0 ∷ big_endian 8 d.counter.number in
    let start : Bytes = label_start name e.label in
    let parts : entry_key name e ≡ start ++ tail = entry_key_parts name e ∙ rw (append_assoc, append_assoc) in
    let long : length start ≡ length (entry_key name e) - (suffix_size - 1) = omega (arith, ap length parts, length-append start tail, length-big_endian 8 d.counter.number) in
    ap (take (length (entry_key name e) - (suffix_size - 1))) parts ∙ take_at start tail (length (entry_key name e) - (suffix_size - 1)) long

module _ (n : ℕ) (a b : Bytes) (set : SameSet n a b) where
  abbrev name : Name
  name = set.first.name

  abbrev xs : List Entry
  xs = entries_in n a

  abbrev ys : List Entry
  ys = entries_in n b

  named : length name ≡ n
  named = set.first.named

  second-written : store_bytes name ys ≡ b
  second-written = rw set.one_name set.second.written

  no_length : length (store_bytes name []) ≡ 0
  unfolding store_bytes end_to_end
  no_length = refl

  module _ (key : Bytes) where
    pub next-key : key ≡ cond (second_lower n a b) (first_key n b) (first_key n a) → BothEnd xs ys key ⊎ Head name xs ys key
    next-key h = next-head name key xs ys set.first.valid set.second.valid set.first.ascend set.second.ascend (rw (set.first.written, second-written, named) h)

    -- the key is empty exactly at the end of both
    pub ends : BothEnd xs ys key ⊎ Head name xs ys key → length key ≡ 0 → BothEnd xs ys key
    ends (inl e) z = e
    ends (inr h) z = absurd (omega (arith, ap length h.key-is, length_entry_key name h.head))

    pub heads : BothEnd xs ys key ⊎ Head name xs ys key → (length key ≡ 0 → ⊥) → Head name xs ys key
    heads (inl e) z = absurd (z (ap length e.no_key))
    heads (inr h) z = h

    -- the end of both
    pub none-next : BothEnd xs ys key → ComesNext n a b None
    none-next e = (ap length (sym set.first.written ∙ ap (store_bytes name) e.first-none) ∙ no_length, ap length (sym second-written ∙ ap (store_bytes name) e.second_none) ∙ no_length)

    module _ (h : Head name xs ys key) where
      abbrev label : Label
      label = h.head.label

      label-ok : label_ok label ≡ true
      unfolding entry_ok
      label-ok = let o = h.ok in search both

      pub key-long : length key ≡ n + length label + label_key_fixed
      key-long = ap length h.key-is ∙ length_entry_key name h.head ∙ rw named

      abbrev start : Bytes
      start = take (length key - (suffix_size - 1)) key

      begins : start ≡ label_start name label
      begins = ap (λ (k : Bytes). take (length k - (suffix_size - 1)) k) h.key-is ∙ key-start name h.head

      pub first-start : LabelStart n a start
      first-start = record { stored = set.first; label = label; labelled = label-ok; begins = begins }

      pub second-start : LabelStart n b start
      second-start = record { stored = set.second; label = label; labelled = label-ok; begins = begins ∙ ap (λ (m : Name). label_start m label) set.one_name }

      run_length : (keys : Bytes) (es : List Entry) → store_bytes name es ≡ keys → NoneLower label es → Ascending compare_entries es → all entry_ok es ≡ true
          → length_while (starts_with start) (keys_of n keys) ≡ length (store_bytes name (own label es))
      run_length keys es written none up valid =
          ap (λ (s : Bytes). length_while (starts_with s) (keys_of n keys)) begins
          ∙ ap (λ (m : ℕ). length_while (starts_with (label_start name label)) (keys_of m keys)) (sym named)
          ∙ ap (λ (s : Bytes). length_while (starts_with (label_start name label)) (keys_of (length name) s)) (sym written)
          ∙ run_is label es none up name label-ok valid

      module _ (r : NextLabel) (long : r.len ≡ length key - (n + label_key_fixed))
          (first_run : r.first ≡ length_while (starts_with start) (keys_of n a)) (first_fits_lem : r.first ≤ length a)
          (second_run : r.second ≡ length_while (starts_with start) (keys_of n b)) (second_fits : r.second ≤ length b) where
        first-is : r.first ≡ length (store_bytes name (own label xs))
        first-is = first_run ∙ run_length a xs set.first.written h.first-higher set.first.ascend set.first.valid

        second_is : r.second ≡ length (store_bytes name (own label ys))
        second_is = second_run ∙ run_length b ys second-written h.second-higher set.second.ascend set.second.valid

        abbrev Lines : Sides → List Entry → List Entry → List Line
        Lines s es fs = lines_of (merged_from (row_clock window_width) s.words s.words' (dots_of s.tombstone) (dots_of s.tombstone') es fs)

        lines_are : (s : Sides) → merged_key_lines n s a b
            ≡ merged_key_lines n s (take r.first a) (take r.second b) ++ merged_key_lines n s (drop r.first a) (drop r.second b)
        lines_are s =
            let up = set.first.ascend in
            let up' = set.second.ascend in
            let low = h.first-higher in
            let low' = h.second-higher in
            let ok = set.first.valid in
            let ok' = set.second.valid in
            let whole = own_first label xs low up in
            let whole' = own_first label ys low' up' in
            ap₂ (Lines s) (sym whole) (sym whole')
            ∙ merged_lines_split (row_clock window_width) label s.words s.words' (dots_of s.tombstone) (dots_of s.tombstone') (own label xs) (others label xs) (own label ys) (others label ys)
            (own-label label xs) (own-label label ys) (others-above label xs low) (others-above label ys low') (subst (Ascending compare_entries) (sym whole') up')
            ∙ ap₂ ◌++◌
            (ap₂ (Lines s) (sym (front-entries label xs low up name label-ok ok n named a set.first.written r.first first-is)) (sym (front-entries label ys low' up' name label-ok ok' n named b second-written r.second second_is)))
            (ap₂ (Lines s) (sym (rest-entries label xs low up name label-ok ok n named a set.first.written r.first first-is)) (sym (rest-entries label ys low' up' name label-ok ok' n named b second-written r.second second_is)))

        some-keys : (h.head ∈ xs) ⊎ (h.head ∈ ys) → 0 < r.first + r.second
        some-keys (inl m) =
            let p = some-own label xs h.first-higher set.first.ascend name label-ok set.first.valid n named a set.first.written r.first first-is h.head m refl in
            omega arith
        some-keys (inr m) =
            let p = some-own label ys h.second-higher set.second.ascend name label-ok set.second.valid n named b second-written r.second second_is h.head m refl in
            omega arith

        pub one_next : ComesNext n a b (Some r)
        unfolding rest-stored
        one_next = record {
          first-within = first_fits_lem;
          second-within = second_fits;
          label-keys = record {
            name = name;
            named = named;
            label = label;
            labelled = label-ok;
            sized = omega (arith, key-long);
            first = front-keys label xs h.first-higher set.first.ascend name label-ok set.first.valid n named a set.first.written r.first first-is;
            second = front-keys label ys h.second-higher set.second.ascend name label-ok set.second.valid n named b second-written r.second second_is;
          };
          some = some-keys h.held;
          rests = record {
            first = rest-stored label xs h.first-higher set.first.ascend name label-ok set.first.valid n named a set.first.written r.first first-is;
            second = rest-stored label ys h.second-higher set.second.ascend name label-ok set.second.valid n named b second-written r.second second_is;
            one_name = refl;
          };
          lines = lines_are;
        }
