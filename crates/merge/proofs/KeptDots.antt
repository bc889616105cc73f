-- A walk over the keys of one label in two stores, which puts the dots that are kept. Assumes nothing.
use mathlib.Core.Path.{◌≡◌, refl, sym, ap, ap₂, ◌∙◌, subst}
use mathlib.Core.Logic.{⊎_elim}
use mathlib.Core.Bool.{Bool, true, false, cond, ◌||◌, false≢true}
use mathlib.Core.List.Memᴰ
use mathlib.Core.List.{List, [], ◌∷◌, ◌++◌, map, append_assoc, append-nil}
use Prim.Native.Nat.{ℕ, ◌+◌, ◌-◌, ◌*◌, ◌≤◌, ◌<◌}
use native.Mathlib.Omega.{arith}
use lib.ListN.{length, drop, length-append, length-drop}
use lib.Seq.{take_at, drop_at}
use borrow.Author.Tests.{leb-true, lt-ltb, le-ltb}
use Rattle.std.specs.Prelude.{Option, Some, None}
use Rattle.wire.specs.Lists.{cons_if, all, Ascending}
use Rattle.wire.specs.Bytes.{Bytes}
use Rattle.wire.proofs.Tests.{both}
use Rattle.dots.specs.declared.Dot.{Dot}
use Rattle.dots.specs.Names.{Name, Label, label_most, label_ok, text_ok}
use Rattle.dots.specs.Wire.{dots_of, dots_bytes, dot_size}
use Rattle.dots.specs.Entries.{Entry, entry, entry_dot, compare_entries, Line, line, lines_of}
use Rattle.dots.proofs.RoundTrip.{length-dots, dots-append}
use Rattle.dots.proofs.Lines.{lines_of_label}
use Rattle.clock.specs.Row.{window_width}
use Rattle.keys.specs.Key.{label_key_fixed}
use Rattle.keys.specs.Entry.{entry_ok, entry_key}
use Rattle.keys.proofs.EntryKeys.{length_entry_key}
use Rattle.store.specs.Cut.{end_to_end, store_bytes, entries_in}
use Rattle.store.specs.Valid.{store_most}
use Rattle.store.proofs.KeySays.{dot_said}
use Rattle.replica.specs.RowClock.{row_clock}
use Rattle.replica.proofs.Walk.{merged_from, merged-none}
use Rattle.listing.specs.Listing.{line_fixed, line_bytes, listing_bytes}
use Rattle.listing.specs.Lines.{line_if}
use Rattle.listing.proofs.Listings.{length-line}
use Rattle.listing.proofs.ListedKeys.{no_entries}
use Rattle.listing.proofs.LineWalks.{read_again}
use Rattle.merge.specs.declared.NextDot.{NextDot}
use Rattle.merge.specs.declared.Spot.{Spot}
use Rattle.merge.specs.Sides.{Sides, merged_keys, merged_key_lines}
use Rattle.merge.specs.Labels.{LabelKeys, SameLabel}
use Rattle.merge.specs.Kept.{first_dot, next_in, keeps_next, put_unless}
use Rattle.merge.specs.Lines.{merged_dots, CanPut}
use Rattle.merge.proofs.Splits.{OfLabel, merged-label}
use Rattle.merge.proofs.Sizes.{merged-short}
use Rattle.merge.proofs.NextLabels.{of_label}
use Rattle.merge.proofs.Turns.{first-of, merged_dots_from, DotTurn, Turned, dot-turn}
use Rattle.merge.proofs.Puts.{unless_nothing, unless_next, length_unless, PutIf}

-- ---- the keys of a label

map-append : (l : Label) (ds es : List Dot) → map (entry l) (ds ++ es) ≡ map (entry l) ds ++ map (entry l) es
map-append l [] es = refl
map-append l (d ∷ ds) es = ap (λ (t : List Entry). entry l d ∷ t) (map-append l ds es)

all_of_label : (l : Label) (ds : List Dot) → OfLabel l (map (entry l) ds)
all_of_label l [] e m = absurd (Memᴰ.not-nil m)
all_of_label l (d ∷ ds) e m = ⊎_elim (λ q. ap (λ (x : Entry). x.label) q) (all_of_label l ds e) (Memᴰ.cases_cons m)

module _ (name : Name) (l : Label) where
  abbrev bytes_of : List Dot → Bytes
  bytes_of ds = store_bytes name (map (entry l) ds)

  abbrev size : ℕ
  size = length name + length l + label_key_fixed

  key-size : (d : Dot) → length (entry_key name (entry l d)) ≡ size
  key-size d = length_entry_key name (entry l d)

  first-bytes : (d : Dot) (ds : List Dot) → bytes_of (d ∷ ds) ≡ entry_key name (entry l d) ++ bytes_of ds
  unfolding store_bytes end_to_end
  first-bytes d ds = refl

  length_more : (d : Dot) (ds : List Dot) → length (bytes_of (d ∷ ds)) ≡ size + length (bytes_of ds)
  length_more d ds = ap length (first-bytes d ds) ∙ length-append (entry_key name (entry l d)) (bytes_of ds) ∙ rw (key-size d)

  no_bytes : length (bytes_of []) ≡ 0
  unfolding store_bytes end_to_end
  no_bytes = refl

  -- the first dot
  first-is : (ds : List Dot) → all entry_ok (map (entry l) ds) ≡ true → first_dot size (bytes_of ds) ≡ first-of ds
  unfolding first_dot all
  first-is [] v = rw (lt-ltb (length (bytes_of [])) size (omega (arith, no_bytes)))
  first-is (d ∷ ds) v =
      rw (le-ltb (length (bytes_of (d ∷ ds))) size (omega (arith, length_more d ds)), first-bytes d ds, take_at (entry_key name (entry l d)) (bytes_of ds) size (key-size d))
      (ap (λ (x : Dot). Some x) (dot_said name (entry l d) (search both)))

  -- past one more, if there is one
  module _ (b : Bool) (d : Dot) (ds : List Dot) where
    past : drop (cond b size 0) (bytes_of (cons_if b d ds)) ≡ bytes_of ds
    past = go b
      where
        go : (c : Bool) → drop (cond c size 0) (bytes_of (cons_if c d ds)) ≡ bytes_of ds
        go true = rw (first-bytes d ds) (drop_at (entry_key name (entry l d)) (bytes_of ds) size (key-size d))
        go false = refl

    past-within : cond b size 0 ≤ length (bytes_of (cons_if b d ds))
    past-within = go b
      where
        go : (c : Bool) → cond c size 0 ≤ length (bytes_of (cons_if c d ds))
        go true = omega (arith, length_more d ds)
        go false = omega arith

    past-valid : all entry_ok (map (entry l) (cons_if b d ds)) ≡ true → all entry_ok (map (entry l) ds) ≡ true
    unfolding all
    past-valid = go b
      where
        go : (c : Bool) → all entry_ok (map (entry l) (cons_if c d ds)) ≡ true → all entry_ok (map (entry l) ds) ≡ true
        go true v = search both
        go false v = v

    past_up : Ascending compare_entries (map (entry l) (cons_if b d ds)) → Ascending compare_entries (map (entry l) ds)
    past_up = go b
      where
        go : (c : Bool) → Ascending compare_entries (map (entry l) (cons_if c d ds)) → Ascending compare_entries (map (entry l) ds)
        go true u = u.1
        go false u = u

  -- of keys
  pub past-keys : (keys : Bytes) (k : LabelKeys name l keys) (b : Bool) (d : Dot) (ds : List Dot) → k.dots ≡ cons_if b d ds
      → (rest : Bytes) → rest ≡ drop (cond b size 0) keys → LabelKeys name l rest
  past-keys keys k b d ds q rest e = record {
    dots = ds;
    written = e ∙ ap (drop (cond b size 0)) (k.written ∙ ap (λ (t : List Dot). bytes_of t) q) ∙ past b d ds;
    valid = past-valid b d ds (ap (λ (t : List Dot). all entry_ok (map (entry l) t)) (sym q) ∙ k.valid);
    ascend = past_up b d ds (subst (λ (t : List Dot). Ascending compare_entries (map (entry l) t)) q k.ascend);
  }

  pub past_fits : (keys : Bytes) (k : LabelKeys name l keys) (b : Bool) (d : Dot) (ds : List Dot) → k.dots ≡ cons_if b d ds → cond b size 0 ≤ length keys
  past_fits keys k b d ds q = omega (arith, past-within b d ds, ap (λ (t : List Dot). length (bytes_of t)) q, ap length k.written)

  pub keys-entries : (n : ℕ) → length name ≡ n → (keys : Bytes) (k : LabelKeys name l keys) → entries_in n keys ≡ map (entry l) k.dots
  keys-entries n named keys k = ap (entries_in n) k.written ∙ read_again n name named (map (entry l) k.dots) k.valid

-- ---- the line of a label

lines_if : (l : Label) (ds : List Dot) → lines_of (map (entry l) ds) ≡ line_if l ds
unfolding lines_of
lines_if l [] = refl
lines_if l (d ∷ ds) = lines_of_label l d ds

module _ (n len : ℕ) (s : Sides) (a b : Bytes) (k : SameLabel n len a b) where
  abbrev label : Label
  label = k.label

  abbrev dots : List Dot
  dots = merged_dots n s a b

  -- what is kept is of the label
  pub kept_label : map (entry label) dots ≡ merged_keys n s a b
  kept_label =
      of_label label (merged_keys n s a b)
      (subst (λ (x : List Entry × List Entry). OfLabel label (merged_from (row_clock window_width) s.words s.words' (dots_of s.tombstone) (dots_of s.tombstone') x.0 x.1))
      (ap₂ (λ p q. (p, q)) (sym (keys-entries k.name label n k.named a k.first)) (sym (keys-entries k.name label n k.named b k.second)))
      (merged-label (row_clock window_width) s.words s.words' (dots_of s.tombstone) (dots_of s.tombstone') (map (entry label) k.first.dots) (map (entry label) k.second.dots) label
      (all_of_label label k.first.dots) (all_of_label label k.second.dots)))

  pub label-lines : merged_key_lines n s a b ≡ line_if label dots
  label-lines = ap lines_of (sym kept_label) ∙ lines_if label dots

  -- how many bytes it takes, where a dot is kept
  line-size : (d : Dot) (ds : List Dot) → dots ≡ d ∷ ds → length (listing_bytes (merged_key_lines n s a b)) ≡ len + line_fixed + dot_size * length dots
  unfolding listing_bytes
  line-size d ds q =
      ap (λ (ls : List Line). length (listing_bytes ls)) (label-lines ∙ ap (line_if label) q)
      ∙ ap length (append-nil (line_bytes (line label (d ∷ ds)))) ∙ length-line label (d ∷ ds)
      ∙ ap (λ (t : List Dot). length label + line_fixed + dot_size * length t) (sym q) ∙ rw k.sized

  pub line-bytes : 0 < length dots → length (listing_bytes (merged_key_lines n s a b)) ≡ len + line_fixed + dot_size * length dots
  line-bytes h = go dots refl
    where
      go : (ds : List Dot) → merged_dots n s a b ≡ ds → length (listing_bytes (merged_key_lines n s a b)) ≡ len + line_fixed + dot_size * length (merged_dots n s a b)
      go [] q = absurd (omega (arith, ap length q))
      go (d ∷ ds) q = line-size d ds q

  lines-short : length (listing_bytes (merged_key_lines n s a b)) ≤ length a + length b
  lines-short =
      let first = ap (store_bytes k.name) (keys-entries k.name label n k.named a k.first) ∙ sym k.first.written in
      let second = ap (store_bytes k.name) (keys-entries k.name label n k.named b k.second) ∙ sym k.second.written in
      omega (
        arith,
        merged-short (row_clock window_width) s.words s.words' (dots_of s.tombstone) (dots_of s.tombstone') k.name k.name (entries_in n a) (entries_in n b),
        ap length first,
        ap length second,
      )

  pub dots-few : dot_size * length dots ≤ length a + length b
  dots-few = go dots refl
    where
      go : (ds : List Dot) → merged_dots n s a b ≡ ds → dot_size * length (merged_dots n s a b) ≤ length a + length b
      go [] q = omega (arith, ap length q)
      go (d ∷ ds) q = omega (arith, line-size d ds q, lines-short)

-- ---- the walk

-- the dots that are put, and the keys that are left, of a set whose name has m bytes
pub record DotsLeft (n len : ℕ) (s : Sides) (dry : Bool) (from : ℕ) (a b o out : Bytes) (count m : ℕ) (a' b' : Bytes) : Type 0 where
  pub same-name : m ≡ n
  pub name : Name
  pub named : length name ≡ n
  pub label : Label
  pub sized : length label ≡ len
  pub first : LabelKeys name label a'
  pub second : LabelKeys name label b'
  pub done : List Dot
  pub kept : merged_keys n s a b ≡ map (entry label) done ++ merged_keys n s a' b'
  pub counted : count ≡ length done
  pub out-is : out ≡ put_unless dry o from (dots_bytes done)
  pub same_size : length out ≡ length o

pub walk_start : (n len : ℕ) (s : Sides) (dry : Bool) (from : ℕ) (a b o : Bytes) → SameLabel n len a b → DotsLeft n len s dry from a b o o 0 n a b
unfolding dots_bytes
walk_start n len s dry from a b o k = record {
  same-name = refl;
  name = k.name;
  named = k.named;
  label = k.label;
  sized = k.sized;
  first = k.first;
  second = k.second;
  done = [];
  kept = refl;
  counted = refl;
  out-is = unless_nothing dry o from;
  same_size = refl;
}

module _ (n len : ℕ) (s : Sides) (dry : Bool) (from : ℕ) (a b o out : Bytes) (count m : ℕ) (a' b' : Bytes) (w : DotsLeft n len s dry from a b o out count m a' b') where
  abbrev key_size : ℕ
  key_size = n + len + label_key_fixed

  size_is : length w.name + length w.label + label_key_fixed ≡ key_size
  size_is = rw (w.named, w.sized)

  -- what is left, as the dots of a label
  left_is : merged_keys n s a' b' ≡ merged_dots_from w.label s w.first.dots w.second.dots
  left_is =
      ap₂ (merged_from (row_clock window_width) s.words s.words' (dots_of s.tombstone) (dots_of s.tombstone'))
      (keys-entries w.name w.label n w.named a' w.first) (keys-entries w.name w.label n w.named b' w.second)

  -- the dots that are kept
  all-dots : (es : List Entry) → merged_keys n s a' b' ≡ es → merged_dots n s a b ≡ w.done ++ map entry_dot es
  all-dots es q = ap (map entry_dot) (w.kept ∙ ap (λ (t : List Entry). map (entry w.label) w.done ++ t) q) ∙ split w.done
    where
      split : (ds : List Dot) → map entry_dot (map (entry w.label) ds ++ es) ≡ ds ++ map entry_dot es
      split [] = refl
      split (d ∷ ds) = ap (λ (t : List Dot). d ∷ t) (split ds)

  pub few-done : length w.done ≤ length (merged_dots n s a b)
  few-done = let more = merged_keys n s a' b' in omega (arith, ap length (all-dots more refl), length-append w.done (map entry_dot more))

  walk_end : length a' ≤ 0 → length b' ≤ 0 → (count ≡ length (merged_dots n s a b)) × (out ≡ put_unless dry o from (dots_bytes (merged_dots n s a b)))
  walk_end h k =
      let none : merged_keys n s a' b' ≡ [] =
      ap₂ (merged_from (row_clock window_width) s.words s.words' (dots_of s.tombstone) (dots_of s.tombstone')) (no_entries n a' 0 h) (no_entries n b' 0 k)
      ∙ merged-none (row_clock window_width) s.words s.words' (dots_of s.tombstone) (dots_of s.tombstone') in
      let all : merged_dots n s a b ≡ w.done = all-dots [] none ∙ append-nil w.done in
      rw all (w.counted, w.out-is)

  -- what comes next
  first-dot : (keys : Bytes) (k : LabelKeys w.name w.label keys) → first_dot key_size keys ≡ first-of k.dots
  first-dot keys k = ap₂ first_dot (sym size_is) k.written ∙ first-is w.name w.label k.dots k.valid

  abbrev Comes : Option NextDot → Type 0
  Comes r = r ≡ next_in (first_dot key_size a') (first_dot key_size b')

  turned : (r : Option NextDot) → Comes r → Turned w.label s w.first.dots w.second.dots r
  turned r comes =
      let is : r ≡ next_in (first-of w.first.dots) (first-of w.second.dots) = comes ∙ ap₂ next_in (first-dot a' w.first) (first-dot b' w.second) in
      subst (Turned w.label s w.first.dots w.second.dots) (sym is) (dot-turn w.label s w.first.dots w.second.dots w.first.ascend w.second.ascend)

  -- no key is left
  ended : (keys : Bytes) (k : LabelKeys w.name w.label keys) → k.dots ≡ [] → length keys ≤ 0
  ended keys k q = omega (arith, ap length (k.written ∙ ap (λ (t : List Dot). store_bytes w.name (map (entry w.label) t)) q), no_bytes w.name w.label)

  pub all-walked : Comes None → (count ≡ length (merged_dots n s a b)) × (out ≡ put_unless dry o from (dots_bytes (merged_dots n s a b)))
  all-walked comes = let t = turned None comes in walk_end (ended a' w.first t.0) (ended b' w.second t.1)

  -- a key is left of either
  module _ (next : NextDot) (comes : Comes (Some next)) where
    turn : DotTurn w.label s w.first.dots w.second.dots next
    turn = turned (Some next) comes

    -- by the length of a key
    sized-place : (c : Bool) → cond c key_size 0 ≡ cond c (length w.name + length w.label + label_key_fixed) 0
    sized-place c = ap (λ (z : ℕ). cond c z 0) (sym size_is)

    pub first_fits_lem : cond next.first key_size 0 ≤ length a'
    first_fits_lem = omega (arith, sized-place next.first, past_fits w.name w.label a' w.first next.first next.dot turn.ds' turn.first-is)

    pub second_fits : cond next.second key_size 0 ≤ length b'
    second_fits = omega (arith, sized-place next.second, past_fits w.name w.label b' w.second next.second next.dot turn.es' turn.second_is)

    pub falls : length (drop (cond next.first key_size 0) a') + length (drop (cond next.second key_size 0) b') < length a' + length b'
    falls = rw (length-drop (cond next.first key_size 0) a', length-drop (cond next.second key_size 0) b') (go next.first next.second turn.held first_fits_lem second_fits)
      where
        go : (x y : Bool) → (x || y) ≡ true → cond x key_size 0 ≤ length a' → cond y key_size 0 ≤ length b'
            → length a' - cond x key_size 0 + (length b' - cond y key_size 0) < length a' + length b'
        go true true t f g = omega arith
        go true false t f g = omega arith
        go false true t f g = omega arith
        go false false t f g = absurd (false≢true t)

    module _ (k : Bool) (said : k ≡ keeps_next s next) where
      left-turned : merged_keys n s a' b' ≡ cons_if k (entry w.label next.dot) (merged_dots_from w.label s turn.ds' turn.es')
      left-turned = left_is ∙ turn.merged ∙ ap (λ (c : Bool). cons_if c (entry w.label next.dot) (merged_dots_from w.label s turn.ds' turn.es')) (sym said)

      pub one_more : k ≡ true → count + 1 ≤ length (merged_dots n s a b)
      one_more t =
          let more : List Entry = merged_dots_from w.label s turn.ds' turn.es' in
          let these = all-dots (entry w.label next.dot ∷ more) (left-turned ∙ ap (λ (c : Bool). cons_if c (entry w.label next.dot) more) t) in
          omega (arith, ap length these, length-append w.done (next.dot ∷ map entry_dot more), w.counted)

      module _ (m' : ℕ) (x y : Bytes) (set : m' ≡ m) (p : x ≡ drop (cond next.first key_size 0) a') (q : y ≡ drop (cond next.second key_size 0) b') where
        first' : LabelKeys w.name w.label x
        first' = past-keys w.name w.label a' w.first next.first next.dot turn.ds' turn.first-is x (p ∙ ap (λ (z : ℕ). drop z a') (sized-place next.first))

        second' : LabelKeys w.name w.label y
        second' = past-keys w.name w.label b' w.second next.second next.dot turn.es' turn.second_is y (q ∙ ap (λ (z : ℕ). drop z b') (sized-place next.second))

        left-next : merged_dots_from w.label s turn.ds' turn.es' ≡ merged_keys n s x y
        unfolding past-keys first' second'
        left-next =
            ap₂ (merged_from (row_clock window_width) s.words s.words' (dots_of s.tombstone) (dots_of s.tombstone'))
            (sym (keys-entries w.name w.label n w.named x first')) (sym (keys-entries w.name w.label n w.named y second'))

        -- with so many dots put
        go_on : (more : List Dot) (out' : Bytes) (count' : ℕ) → merged_keys n s a' b' ≡ map (entry w.label) more ++ merged_keys n s x y
            → count' ≡ count + length more → out' ≡ put_unless dry o from (dots_bytes (w.done ++ more)) → length out' ≡ length o → DotsLeft n len s dry from a b o out' count' m' x y
        go_on more out' count' these e put size = record {
          same-name = set ∙ w.same-name;
          name = w.name;
          named = w.named;
          label = w.label;
          sized = w.sized;
          first = first';
          second = second';
          done = w.done ++ more;
          kept =
              w.kept ∙ ap (λ (t : List Entry). map (entry w.label) w.done ++ t) these
              ∙ sym (append_assoc (map (entry w.label) w.done) (map (entry w.label) more) (merged_keys n s x y))
              ∙ ap (λ (t : List Entry). t ++ merged_keys n s x y) (sym (map-append w.label w.done more));
          counted = omega (arith, w.counted, length-append w.done more);
          out-is = put;
          same_size = size;
        }

        pub walk-on : (count' : ℕ) (out' : Bytes) → PutIf k dry next.dot (from + dot_size * count) out out' count count'
            → (k ≡ true → dry ≡ false → from + dot_size * count + dot_size ≤ length o) → DotsLeft n len s dry from a b o out' count' m' x y
        unfolding dots_bytes
        walk-on count' out' put room = go k refl put.0 put.1
          where
            go : (c : Bool) → k ≡ c → count' ≡ count + length (cons_if c next.dot []) → out' ≡ put_unless dry out (from + dot_size * count) (dots_bytes (cons_if c next.dot [])) → DotsLeft n len s dry from a b o out' count' m' x y
            go true t e put =
                go_on (next.dot ∷ []) out' count' (left-turned ∙ ap₂ (λ (c : Bool) (z : List Entry). cons_if c (entry w.label next.dot) z) t left-next) e
                (unless_next dry o out out' (dots_bytes w.done) (dots_bytes (next.dot ∷ [])) from (from + dot_size * count) w.out-is (omega (arith, w.counted, length-dots w.done)) put
                (λ f. omega (arith, room t f)) ∙ ap (put_unless dry o from) (sym (dots-append w.done (next.dot ∷ []))))
                (ap length put ∙ length_unless dry out (dots_bytes (next.dot ∷ [])) (from + dot_size * count) (λ f. omega (arith, room t f, length-dots (next.dot ∷ []), w.same_size)) ∙ w.same_size)
            go false t e put =
                let same : out' ≡ out = put ∙ sym (unless_nothing dry out (from + dot_size * count)) in
                go_on [] out' count' (left-turned ∙ ap₂ (λ (c : Bool) (z : List Entry). cons_if c (entry w.label next.dot) z) t left-next) e
                (same ∙ w.out-is ∙ ap (λ (ds : List Dot). put_unless dry o from (dots_bytes ds)) (sym (append-nil w.done))) (ap length same ∙ w.same_size)

-- ---- room and bounds

label_most_lem : (l : Label) → label_ok l ≡ true → length l ≤ label_most
unfolding text_ok
label_most_lem l ok = leb-true (length l) label_most (search both)

module _ (n : ℕ) (spot : Spot) (s : Sides) (a b : Bytes) (room : ℕ) (can : CanPut n spot s a b room) where
  pub label-short : spot.len ≤ label_most
  label-short = let k = can.label-keys in omega (arith, label_most_lem k.label k.labelled, k.sized)

  pub dots-low : dot_size * length (merged_dots n s a b) ≤ 2 * store_most
  dots-low = let f = can.first_short in let g = can.second_short in omega (arith, dots-few n spot.len s a b can.label-keys)

  -- there is room for each dot that is kept
  pub dot-room : spot.dry ≡ false → (count : ℕ) → count + 1 ≤ length (merged_dots n s a b) → spot.at + spot.len + line_fixed + dot_size * count + dot_size ≤ room
  dot-room f count h = omega (arith, can.has_room f, line-bytes n spot.len s a b can.label-keys (omega arith))
