-- The lines of two stores, one label after the other. Assumes nothing.
use mathlib.Core.Path.{◌≡◌, refl, sym, ap, ap₂, ◌∙◌, subst}
use mathlib.Core.Logic.{inr}
use mathlib.Core.Bool.{Bool, true, false, cond, true≢false}
use mathlib.Core.List.{List, [], ◌∷◌, ◌++◌, append_assoc, append-nil}
use Prim.Native.Nat.{ℕ, ◌+◌, ◌≤◌, ◌<◌}
use native.Mathlib.Omega.{arith}
use lib.Dec.{ltb}
use lib.ListN.{length, take, drop, length-append, length-take, length-drop}
use borrow.Author.Tests.{lt-ltb}
use Rattle.std.specs.Prelude.{Some, None, Option}
use Rattle.wire.specs.Bytes.{Bytes}
use Rattle.dots.specs.declared.Dot.{Dot}
use Rattle.dots.specs.Names.{Label}
use Rattle.dots.specs.Wire.{dots_of}
use Rattle.dots.specs.Entries.{Line, line, lines_of}
use Rattle.clock.specs.Row.{window_width}
use Rattle.store.specs.Cut.{entries_in}
use Rattle.replica.specs.RowClock.{row_clock}
use Rattle.replica.proofs.Walk.{merged_from, merged-none}
use Rattle.listing.specs.Listing.{line_bytes, listing_bytes}
use Rattle.listing.specs.Lines.{line_if}
use Rattle.listing.proofs.Listings.{length-line, listing-append}
use Rattle.listing.proofs.ListedKeys.{no_entries}
use Rattle.listing.proofs.Folds.{all-put as lines-put, none-wanted, as_wanted}
use Rattle.listing.specs.declared.LinesPut.{LinesPut}
use Rattle.merge.specs.declared.NextLabel.{NextLabel}
use Rattle.merge.specs.Sides.{Sides, merged_key_lines, SameSet}
use Rattle.merge.specs.Labels.{SameLabel, IsNext, ComesNext}
use Rattle.merge.specs.Kept.{put_unless}
use Rattle.merge.specs.Lines.{merged_dots, CanPut, Mergeable, CanMerge, Merges, PutsAll}
use Rattle.merge.proofs.Sizes.{merged-short}
use Rattle.merge.proofs.Puts.{unless_nothing, unless_next, length_unless}
use Rattle.merge.proofs.KeptDots.{label-lines}

-- all lines take no more bytes than the keys of both
pub lines-short : (n : ℕ) (s : Sides) (a b : Bytes) → SameSet n a b → length (listing_bytes (merged_key_lines n s a b)) ≤ length a + length b
lines-short n s a b k =
    omega (
      arith,
      merged-short (row_clock window_width) s.words s.words' (dots_of s.tombstone) (dots_of s.tombstone') k.first.name k.second.name (entries_in n a) (entries_in n b),
      ap length k.first.written,
      ap length k.second.written,
    )

-- a label's line is one or none
one_line : (l : Label) (ds : List Dot) → length (line_if l ds) ≡ cond (ltb 0 (length (listing_bytes (line_if l ds)))) 1 0
unfolding listing_bytes
one_line l [] = refl
one_line l (d ∷ ds) =
    let size = ap length (append-nil (line_bytes (line l (d ∷ ds)))) ∙ length-line l (d ∷ ds) in
    rw (lt-ltb 0 (length (line_bytes (line l (d ∷ ds)) ++ [])) (omega arith))

-- lines take a byte each, and more
few-lines : (ls : List Line) → length ls ≤ length (listing_bytes ls)
unfolding listing_bytes
few-lines [] = omega arith
few-lines (l ∷ ls) = omega (arith, few-lines ls, length-append (line_bytes l) (listing_bytes ls), length-line l.label l.dots)

-- the lines so far, and what is left of both stores, of a set whose name has m bytes
pub record LinesLeft (n : ℕ) (s : Sides) (dry : Bool) (a b o out : Bytes) (bytes labels m : ℕ) (a' b' : Bytes) : Type 0 where
  pub same-name : m ≡ n
  pub first-within : length a' ≤ length a
  pub second-within : length b' ≤ length b
  pub left : SameSet n a' b'
  pub done : List Line
  pub whole : merged_key_lines n s a b ≡ done ++ merged_key_lines n s a' b'
  pub bytes_are : bytes ≡ length (listing_bytes done)
  pub labels_are : labels ≡ length done
  pub out-is : out ≡ put_unless dry o 0 (listing_bytes done)
  pub same_size : length out ≡ length o

pub lines_start : (n : ℕ) (s : Sides) (dry : Bool) (a b o : Bytes) → SameSet n a b → LinesLeft n s dry a b o o 0 0 n a b
unfolding listing_bytes
lines_start n s dry a b o k = record {
  same-name = refl;
  first-within = omega arith;
  second-within = omega arith;
  left = k;
  done = [];
  whole = refl;
  bytes_are = refl;
  labels_are = refl;
  out-is = unless_nothing dry o 0;
  same_size = refl;
}

module _ (n : ℕ) (s : Sides) (dry : Bool) (a b o out : Bytes) (bytes labels m : ℕ) (a' b' : Bytes) (w : LinesLeft n s dry a b o out bytes labels m a' b') where
  abbrev rest_lines : List Line
  rest_lines = merged_key_lines n s a' b'

  pub set-left : SameSet m a' b'
  set-left = rw w.same-name w.left

  whole-bytes : length (listing_bytes (merged_key_lines n s a b)) ≡ bytes + length (listing_bytes rest_lines)
  whole-bytes =
      ap (λ (ls : List Line). length (listing_bytes ls)) w.whole ∙ ap length (listing-append w.done rest_lines)
      ∙ length-append (listing_bytes w.done) (listing_bytes rest_lines) ∙ rw w.bytes_are

  pub few-labels : labels ≤ bytes
  few-labels = omega (arith, w.bytes_are, w.labels_are, few-lines w.done)

  abbrev Comes : Option NextLabel → Type 0
  Comes r = ComesNext m a' b' r

  -- the end of both
  all_done : Comes None → merged_key_lines n s a b ≡ w.done
  unfolding lines_of
  all_done read =
      let none : rest_lines ≡ [] =
      ap lines_of
      (ap₂ (merged_from (row_clock window_width) s.words s.words' (dots_of s.tombstone) (dots_of s.tombstone')) (no_entries n a' 0 (omega (arith, read.0))) (no_entries n b' 0 (omega (arith, read.1)))
      ∙ merged-none (row_clock window_width) s.words s.words' (dots_of s.tombstone) (dots_of s.tombstone')) in
      w.whole ∙ ap (λ (ls : List Line). w.done ++ ls) none ∙ append-nil w.done

  pub all-merged : Comes None → Merges n dry s a b o out (record { bytes = bytes; labels = labels; more = false })
  all-merged read = let all = all_done read in record { bytes_are = rw all w.bytes_are; labels_are = rw all w.labels_are; no_more = refl; out-is = rw all w.out-is }

  -- a label comes next
  module _ (next : NextLabel) (read : Comes (Some next)) where
    is : IsNext n a' b' next
    is = subst (λ (k : ℕ). IsNext k a' b' next) w.same-name read

    pub front-within : (next.first ≤ length a') × (next.second ≤ length b')
    front-within = (is.first-within, is.second-within)

    -- its keys
    module _ (m' : ℕ) (x y : Bytes) (set : m' ≡ m) (first-are : x ≡ take next.first a') (second-are : y ≡ take next.second b') where
      abbrev lines : List Line
      lines = merged_key_lines m' s x y

      lines-same : merged_key_lines n s (take next.first a') (take next.second b') ≡ lines
      lines-same = rw (set, w.same-name, first-are, second-are)

      label-keys : SameLabel m' next.len x y
      label-keys = rw (set, w.same-name, first-are, second-are) is.label-keys

      lines_next : rest_lines ≡ lines ++ merged_key_lines n s (drop next.first a') (drop next.second b')
      lines_next = is.lines s ∙ ap (λ (ls : List Line). ls ++ merged_key_lines n s (drop next.first a') (drop next.second b')) lines-same

      pub part_bytes : bytes + length (listing_bytes lines) ≤ length (listing_bytes (merged_key_lines n s a b))
      part_bytes =
          let more : List Line = merged_key_lines n s (drop next.first a') (drop next.second b') in
          omega (arith, whole-bytes, ap (λ (ls : List Line). length (listing_bytes ls)) lines_next, ap length (listing-append lines more), length-append (listing_bytes lines) (listing_bytes more))

      one_label : length lines ≡ cond (ltb 0 (length (listing_bytes lines))) 1 0
      one_label =
          let k = label-keys in
          rw (label-lines m' next.len s x y k) (one_line k.label (merged_dots m' s x y))

      pub can_put : Mergeable n a b → (dry ≡ false → length (listing_bytes (merged_key_lines n s a b)) ≤ length o)
          → CanPut m' (record { len = next.len; at = bytes; dry = dry }) s x y (length out)
      can_put k room = record {
        label-keys = label-keys;
        first_short = let h = k.first_short in let f = w.first-within in omega (arith, ap length first-are, length-take next.first a');
        second_short = let h = k.second_short in let f = w.second-within in omega (arith, ap length second-are, length-take next.second b');
        place-low = let h = k.first_short in let f = k.second_short in omega (arith, part_bytes, lines-short n s a b k.same_set);
        has_room = λ f. omega (arith, part_bytes, room f, w.same_size);
      }

      -- what follows them
      module _ (m'' : ℕ) (x' y' : Bytes) (set' : m'' ≡ m) (first-rest : x' ≡ drop next.first a') (second-rest : y' ≡ drop next.second b') where
        pub lines-on : (size : ℕ) (out' : Bytes) → size ≡ length (listing_bytes lines) → out' ≡ put_unless dry out bytes (listing_bytes lines)
            → (dry ≡ false → length (listing_bytes (merged_key_lines n s a b)) ≤ length o) → (labels' : ℕ) → labels' ≡ labels + cond (ltb 0 size) 1 0
            → LinesLeft n s dry a b o out' (bytes + size) labels' m'' x' y'
        lines-on size out' e put room labels' q = record {
          same-name = set' ∙ w.same-name;
          first-within = let f = w.first-within in omega (arith, ap length first-rest, length-drop next.first a');
          second-within = let f = w.second-within in omega (arith, ap length second-rest, length-drop next.second b');
          left = rw (first-rest, second-rest) is.rests;
          done = w.done ++ lines;
          whole =
              rw (first-rest, second-rest)
              (w.whole ∙ ap (λ (ls : List Line). w.done ++ ls) lines_next
              ∙ sym (append_assoc w.done lines (merged_key_lines n s (drop next.first a') (drop next.second b'))));
          bytes_are = omega (arith, w.bytes_are, e, ap length (listing-append w.done lines), length-append (listing_bytes w.done) (listing_bytes lines));
          labels_are = q ∙ ap₂ ◌+◌ w.labels_are (ap (λ (z : ℕ). cond (ltb 0 z) 1 0) e ∙ sym one_label) ∙ sym (length-append w.done lines);
          out-is =
              unless_next dry o out out' (listing_bytes w.done) (listing_bytes lines) 0 bytes w.out-is (omega (arith, w.bytes_are)) put (λ f. omega (arith, part_bytes, room f))
              ∙ ap (put_unless dry o 0) (sym (listing-append w.done lines));
          same_size = ap length put ∙ length_unless dry out (listing_bytes lines) bytes (λ f. omega (arith, part_bytes, room f, w.same_size)) ∙ w.same_size;
        }

        pub fewer-left : length x' + length y' < length a' + length b'
        fewer-left =
            let p = is.some in
            let f = is.first-within in
            let g = is.second-within in
            omega (arith, ap length first-rest, ap length second-rest, length-drop next.first a', length-drop next.second b')

-- ---- all of them or none

module _ (n : ℕ) (s : Sides) (a b out : Bytes) (m : Mergeable n a b) where
  abbrev all_lines : List Line
  all_lines = merged_key_lines n s a b

  -- with room for the keys of both, or as counted
  pub roomy : (dry : Bool) → length a + length b ≤ length out → CanMerge n dry s a b (length out)
  roomy dry h = record { keys = m; has_room = λ f. omega (arith, lines-short n s a b m.same_set) }

  module _ (out' : Bytes) (r : LinesPut) (done : Merges n false s a b out out' r) where
    pub all-put : length (listing_bytes all_lines) ≤ length out → PutsAll n s a b out out' r
    all-put h =
        let p = lines-put all_lines out out' r.bytes r.labels done.bytes_are done.labels_are (omega (arith, done.bytes_are)) done.out-is in
        as_wanted all_lines out true out' r (inr h) (record { bytes_are = p.bytes_are; labels_are = p.labels_are; more-is = done.no_more ∙ p.more-is; out-is = p.out-is })

  -- a dry run before it
  pub can_count : (room : ℕ) → CanMerge n true s a b room
  can_count room = record { keys = m; has_room = λ f. absurd (true≢false f) }

  module _ (same : Bytes) (r : LinesPut) (counted : Merges n true s a b out same r) where
    pub none-put : length same < r.bytes → PutsAll n s a b out same (record { bytes = 0; labels = 0; more = true })
    none-put h =
        let short : length out < length (listing_bytes all_lines) = omega (arith, ap length counted.out-is, counted.bytes_are) in
        subst (λ (x : Bytes). PutsAll n s a b out x (record { bytes = 0; labels = 0; more = true })) (sym counted.out-is) (none-wanted all_lines out true refl short)

    module _ (h : r.bytes ≤ length same) where
      pub fits : CanMerge n false s a b (length same)
      fits = record { keys = m; has_room = λ f. omega (arith, counted.bytes_are) }

      pub then-put : (out' : Bytes) (r' : LinesPut) → Merges n false s a b same out' r' → PutsAll n s a b out out' r'
      then-put out' r' done =
          let back = counted.out-is in
          all-put out' r' (subst (λ (x : Bytes). Merges n false s a b x out' r') back done) (omega (arith, counted.bytes_are, ap length back))
