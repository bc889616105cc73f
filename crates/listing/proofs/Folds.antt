-- Lines taken one after the other: what the line at a place adds to a listing, and as many lines as fit. Assumes nothing.
use mathlib.Core.Path.{◌≡◌, refl, sym, ap, ◌∙◌, subst}
use mathlib.Core.Logic.{◌⊎◌, inl, inr}
use mathlib.Core.Bool.{Bool, true, false, cond, ◌&&◌, true≢false}
use mathlib.Core.List.{List, [], ◌∷◌, ◌++◌, append_assoc, append-nil}
use Prim.Native.Nat.{ℕ, ◌+◌, ◌-◌, ◌*◌, ◌^◌, ◌≤◌, ◌<◌}
use native.Mathlib.Omega.{arith}
use mir.Val.{Fits}
use mir.Syntax.{w64}
use lib.Dec.{leb, ltb, eqb, compare_is_eq}
use lib.ListN.{length, take, drop, length-append, length-take, length-drop}
use lib.Seq.{drop-drop}
use borrow.Author.Tests.{lt-leb, le-leb, leb-true, lt-ltb, le-ltb, ltb-true, ltb-false, eq-eqb, ne_eqb}
use Rattle.wire.specs.Lists.{cons_if, keep}
use Rattle.wire.specs.Bytes.{Bytes, compare_bytes, put_at}
use Rattle.wire.proofs.Tests.{decided}
use Rattle.wire.proofs.Parts.{rest_part}
use Rattle.wire.proofs.Fields.{part_length, put_front, put_next}
use Rattle.dots.specs.declared.Dot.{Dot}
use Rattle.dots.specs.Names.{Name}
use Rattle.dots.specs.Wire.{dot_size}
use Rattle.dots.specs.Entries.{Entry, Line, line, prepend_to, prepend, lines_of}
use Rattle.keys.specs.Key.{prefix_fixed}
use Rattle.store.specs.Cut.{store_bytes, entries_in}
use Rattle.store.specs.Valid.{store_most}
use Rattle.replica.specs.Page.{fitting, more_than_fit}
use Rattle.listing.specs.declared.ListedLine.{ListedLine}
use Rattle.listing.specs.declared.LinesPut.{LinesPut}
use Rattle.listing.specs.Listing.{is_live, lines_of_live, line_fixed, line_size, line_bytes, listing_bytes, wanted_lines, StoredKeys, PutsLines, PutsFitting, PutsOrCounts, PutsWanted}
use Rattle.listing.specs.Lines.{label_of, listed_dots, line_if, lines_of_line, listed_size, line_of, FirstLine, ListedPut}
use Rattle.listing.proofs.Listings.{length-line, listing-append}
use Rattle.listing.proofs.ListedKeys.{no_entries}
use Rattle.listing.proofs.LineWalks.{length-first}
use Rattle.listing.proofs.PutLines.{put-part}

-- ---- one line

module _ (n : ℕ) (keys : Bytes) (tombstone : List Dot) (l : ListedLine) (first : FirstLine n keys tombstone l) where
  label-long : length (label_of n keys l.len) ≡ l.len
  label-long = part_length keys (n + prefix_fixed) l.len first.label-within

  -- of so many dots
  size-with : (ds : List Dot) → l.count ≡ length ds → listed_size l ≡ length (listing_bytes (line_if (label_of n keys l.len) ds))
  unfolding listed_size listing_bytes
  size-with [] e = rw (eq-eqb l.count 0 e)
  size-with (d ∷ ds) e =
      let size = ap length (append-nil (line_bytes (line (label_of n keys l.len) (d ∷ ds)))) ∙ length-line (label_of n keys l.len) (d ∷ ds) in
      rw (ne_eqb l.count 0 (λ q. omega arith)) (omega (arith, label-long))

  pub size_is : listed_size l ≡ length (listing_bytes (lines_of_line n keys tombstone l))
  size_is = size-with (listed_dots n (take l.end keys) tombstone) first.count-is

  pub size_most : listed_size l ≤ l.end
  unfolding listed_size
  size_most = go (eqb l.count 0)
    where
      go : (b : Bool) → cond b 0 (line_fixed + l.len + dot_size * l.count) ≤ l.end
      go true = omega arith
      go false = omega (arith, first.short)

  pub count_fits : length keys ≤ store_most → l.count < 256 ^ 2
  count_fits most = omega (arith, first.few, first.within)

  -- where no dot is listed there is no line, else it is the one
  dots-with : (ds : List Dot) → l.count ≡ length ds → (l.count ≡ 0 → line_if (label_of n keys l.len) ds ≡ []) × ((l.count ≡ 0 → ⊥) → line_if (label_of n keys l.len) ds ≡ line (label_of n keys l.len) ds ∷ [])
  dots-with [] e = (λ z. refl, λ z. absurd (z e))
  dots-with (d ∷ ds) e = (λ z. absurd (omega arith), λ z. refl)

  abbrev dots : List Dot
  dots = listed_dots n (take l.end keys) tombstone

  pub none-put : (out : Bytes) → l.count ≡ 0 → ListedPut (lines_of_line n keys tombstone l) out out 0
  unfolding listing_bytes
  none-put out z = rw ((dots-with dots first.count-is).0 z) (refl, sym (put_front out []))

  pub line-room : (room : ℕ) → (l.count ≡ 0 → ⊥) → listed_size l ≤ room → line_size (line_of n keys tombstone l) ≤ room
  unfolding listing_bytes
  line-room room z h =
      let same : length (listing_bytes (lines_of_line n keys tombstone l)) ≡ line_size (line_of n keys tombstone l) =
      ap (λ (ls : List Line). length (listing_bytes ls)) ((dots-with dots first.count-is).1 z) ∙ ap length (append-nil (line_bytes (line_of n keys tombstone l))) in
      omega (arith, size_is)

  pub one_put : (out out' : Bytes) → (l.count ≡ 0 → ⊥) → out' ≡ put_at out 0 (line_bytes (line_of n keys tombstone l)) → ListedPut (lines_of_line n keys tombstone l) out out' 1
  unfolding listing_bytes
  one_put out out' z e = rw ((dots-with dots first.count-is).1 z) (refl, e ∙ ap (put_at out 0) (sym (append-nil (line_bytes (line_of n keys tombstone l)))))

  -- a line that takes bytes is one line
  pub one_line : 0 < listed_size l → (x : Line) × (lines_of_line n keys tombstone l ≡ x ∷ []) × (line_size x ≡ listed_size l)
  unfolding listed_size listing_bytes
  one_line h =
      let some : l.count ≡ 0 → ⊥ = λ z. let none : listed_size l ≡ 0 = rw (eq-eqb l.count 0 z) in omega arith in
      let one = (dots-with dots first.count-is).1 some in
      (line_of n keys tombstone l, one, sym (size_is ∙ ap (λ (ls : List Line). length (listing_bytes ls)) one ∙ ap length (append-nil (line_bytes (line_of n keys tombstone l)))))

  pub few-lines : length (lines_of_line n keys tombstone l) ≤ 1
  few-lines = go dots
    where
      go : (ds : List Dot) → length (line_if (label_of n keys l.len) ds) ≤ 1
      go [] = omega arith
      go (d ∷ ds) = omega arith

-- ---- the lines from a place on

-- the part `&keys[at..]` is such as the line at its front is read of
module _ (n : ℕ) (keys : Bytes) (at : ℕ) where
  pub part-short : length keys ≤ store_most → length (take (length keys - at) (drop at keys)) ≤ store_most
  part-short h = rw (rest_part, length-drop) (omega arith)

  pub part-stored : StoredKeys n (drop at keys) → StoredKeys n (take (length keys - at) (drop at keys))
  part-stored s = rw rest_part s

  pub part-some : at < length keys → 0 < length (take (length keys - at) (drop at keys))
  part-some h = rw (rest_part, length-drop) (omega arith)

abbrev pub lines_from : ℕ → Bytes → List Dot → ℕ → List Line
lines_from n keys tombstone at = lines_of_live tombstone (entries_in n (drop at keys))

pub none_from : (n : ℕ) (keys : Bytes) (tombstone : List Dot) (at : ℕ) → length keys ≤ at → lines_from n keys tombstone at ≡ []
unfolding keep lines_of
none_from n keys tombstone at h = rw (no_entries n keys at h)

-- the line at a place, read of `&keys[at..]`
module _ (n : ℕ) (keys : Bytes) (tombstone : List Dot) (at : ℕ) (l : ListedLine) (read : FirstLine n (take (length keys - at) (drop at keys)) tombstone l) where
  here : FirstLine n (drop at keys) tombstone l
  here = rw rest_part at read

  abbrev added : List Line
  added = lines_of_line n (take (length keys - at) (drop at keys)) tombstone l

  pub lines_next : lines_from n keys tombstone at ≡ added ++ lines_from n keys tombstone (at + l.end)
  lines_next =
      ap (λ (s : Bytes). lines_of_live tombstone (entries_in n s)) (sym (rest_part keys at)) ∙ read.lines
      ∙ ap (λ (s : Bytes). added ++ lines_of_live tombstone (entries_in n s)) (ap (drop l.end) (rest_part keys at) ∙ drop-drop l.end at keys)

  pub stored_next : StoredKeys n (drop (at + l.end) keys)
  stored_next = subst (StoredKeys n) (ap (drop l.end) (rest_part keys at) ∙ drop-drop l.end at keys) read.rest

  pub next-within : at ≤ length keys → at + l.end ≤ length keys
  next-within h = let w = here.within in let size = length-drop at keys in omega arith

  pub next-falls : at < length keys → length keys - (at + l.end) < length keys - at
  next-falls h = let s = read.some in omega arith

-- ---- as many lines as fit

length-lines : (l : Line) (ls : List Line) → length (listing_bytes (l ∷ ls)) ≡ line_size l + length (listing_bytes ls)
unfolding listing_bytes
length-lines l ls = length-append (line_bytes l) (listing_bytes ls)

-- lines that fit, then others
fitting-past : (room : ℕ) (done rest : List Line) → length (listing_bytes done) ≤ room
    → fitting line_size room (done ++ rest) ≡ done ++ fitting line_size (room - length (listing_bytes done)) rest
unfolding fitting listing_bytes
fitting-past room [] rest h = ap (λ (k : ℕ). fitting line_size k rest) (omega arith)
fitting-past room (l ∷ done) rest h =
    let size = length-lines l done in
    rw (le-leb (line_size l) room (omega arith))
    (ap (λ (t : List Line). l ∷ t) (fitting-past (room - line_size l) done rest (omega arith) ∙ ap (λ (k : ℕ). done ++ fitting line_size k rest) (omega arith)))

pub fitting-all : (room : ℕ) (ls : List Line) → length (listing_bytes ls) ≤ room → fitting line_size room ls ≡ ls
unfolding fitting
fitting-all room ls h = ap (fitting line_size room) (sym (append-nil ls)) ∙ fitting-past room ls [] h ∙ append-nil ls

-- all are put
pub all-put : (ls : List Line) (out out' : Bytes) (bytes labels : ℕ) → bytes ≡ length (listing_bytes ls) → labels ≡ length ls → bytes ≤ length out → out' ≡ put_at out 0 (listing_bytes ls)
    → PutsFitting ls out out' (record { bytes = bytes; labels = labels; more = false })
all-put ls out out' bytes labels b c h e =
    let all : fitting line_size (length out) ls ≡ ls = fitting-all (length out) ls (omega arith) in
    record {
      bytes_are = rw all b;
      labels_are = rw all c;
      more-is = rw (all, le-ltb (length ls) (length ls) (omega arith));
      out-is = rw all e;
    }

-- the next one does not fit
pub some-put : (whole done : List Line) (l : Line) (rest : List Line) (out out' : Bytes) (bytes labels : ℕ) → whole ≡ done ++ (l ∷ rest) → bytes ≡ length (listing_bytes done) → labels ≡ length done
    → bytes ≤ length out → length out - bytes < line_size l → out' ≡ put_at out 0 (listing_bytes done) → PutsFitting whole out out' (record { bytes = bytes; labels = labels; more = true })
unfolding fitting
some-put whole done l rest out out' bytes labels w b c h s e =
    let some : fitting line_size (length out) whole ≡ done =
    ap (fitting line_size (length out)) w ∙ fitting-past (length out) done (l ∷ rest) (omega arith)
    ∙ rw (lt-leb (line_size l) (length out - length (listing_bytes done)) (omega arith)) (append-nil done) in
    let size : length whole ≡ length done + (1 + length rest) = ap length w ∙ length-append done (l ∷ rest) ∙ omega arith in
    record {
      bytes_are = rw some b;
      labels_are = rw some c;
      more-is = rw (some, lt-ltb (length done) (length whole) (omega arith));
      out-is = rw some e;
    }

-- ---- lines put one after the other

pub length-put : (s x : Bytes) (at : ℕ) → at + length x ≤ length s → length (put_at s at x) ≡ length s
unfolding put_at
length-put s x at h = rw (length-append, length-append, length-take, length-drop) (omega arith)

-- the lines so far, which stand at the front of out unless the run is dry; with those left they are the whole listing
pub record PutSoFar (n : ℕ) (keys : Bytes) (tombstone : List Dot) (dry : Bool) (o out : Bytes) (bytes labels at : ℕ) : Type 0 where
  pub done : List Line
  pub within : at ≤ length keys
  pub stored : StoredKeys n (drop at keys)
  pub few_bytes : bytes ≤ at
  pub few-labels : labels ≤ at
  pub whole : lines_from n keys tombstone 0 ≡ done ++ lines_from n keys tombstone at
  pub bytes_are : bytes ≡ length (listing_bytes done)
  pub room : bytes ≤ length o
  pub kept : length out ≡ length o
  pub labels_are : dry ≡ false → labels ≡ length done
  pub out-is : dry ≡ false → out ≡ put_at o 0 (listing_bytes done)
  pub untouched : dry ≡ true → out ≡ o

pub carried : (n : ℕ) (keys : Bytes) (tombstone : List Dot) (dry : Bool) (o out back : Bytes) (bytes labels sum at : ℕ) → out ≡ back → labels ≡ sum
    → PutSoFar n keys tombstone dry o back bytes sum at → PutSoFar n keys tombstone dry o out bytes labels at
carried n keys tombstone dry o out back bytes labels sum at e f s = rw (e, f) s

pub put-start : (n : ℕ) (keys : Bytes) (tombstone : List Dot) (dry : Bool) (o : Bytes) → StoredKeys n keys → PutSoFar n keys tombstone dry o o 0 0 0
unfolding listing_bytes
put-start n keys tombstone dry o s = record {
  done = [];
  within = omega arith;
  stored = s;
  few_bytes = omega arith;
  few-labels = omega arith;
  whole = refl;
  bytes_are = refl;
  room = omega arith;
  kept = refl;
  labels_are = λ f. refl;
  out-is = λ f. sym (put_front o []);
  untouched = λ t. refl;
}

module _ (n : ℕ) (keys : Bytes) (tombstone : List Dot) (dry : Bool) (o out : Bytes) (bytes labels at : ℕ) (s : PutSoFar n keys tombstone dry o out bytes labels at) where
  pub put-end : length keys ≤ at → PutsOrCounts dry (lines_from n keys tombstone 0) o out (record { bytes = bytes; labels = labels; more = false })
  put-end h =
      let all : lines_from n keys tombstone 0 ≡ s.done = s.whole ∙ ap (λ (ls : List Line). s.done ++ ls) (none_from n keys tombstone at h) ∙ append-nil s.done in
      rw all (record {
        more-is = (all-put s.done o (put_at o 0 (listing_bytes s.done)) bytes (length s.done) s.bytes_are refl s.room refl).more-is;
        counts = s.untouched;
        puts = λ f. all-put s.done o out bytes labels s.bytes_are (s.labels_are f) s.room (s.out-is f);
      })

  module _ (l : ListedLine) (read : FirstLine n (take (length keys - at) (drop at keys)) tombstone l) (size : ℕ) (sized : size ≡ listed_size l) where
    abbrev part : Bytes
    part = take (length keys - at) (drop at keys)

    abbrev next : List Line
    next = lines_of_line n part tombstone l

    bytes_next : length (listing_bytes next) ≡ size
    bytes_next = sym (sized ∙ size_is n part tombstone l read)

    pub labels-fit : (r : ℕ) → r ≡ length next → length keys ≤ store_most → Fits w64 (labels + r)
    labels-fit r counted most =
        let few = few-lines n part tombstone l read in
        let few-labels = s.few-labels in
        let within = s.within in
        omega arith

    pub bytes_fit : length keys ≤ store_most → Fits w64 (bytes + size)
    bytes_fit most =
        let long = size_most n part tombstone l read in
        let few_bytes = s.few_bytes in
        let within = next-within n keys tombstone at l read s.within in
        omega arith

    pub part_room : size ≤ length out - bytes → listed_size l ≤ length (take (length out - bytes) (drop bytes out))
    part_room h = rw (rest_part, length-drop) (omega arith)

    pub put_full : length out - bytes < size → PutsOrCounts dry (lines_from n keys tombstone 0) o out (record { bytes = bytes; labels = labels; more = true })
    put_full h =
        let one = one_line n part tombstone l read (omega arith) in
        let left : List Line = lines_from n keys tombstone (at + l.end) in
        let kept = s.kept in
        let long : line_size one.0 ≡ listed_size l = one.2 in
        let cut : lines_from n keys tombstone 0 ≡ s.done ++ (one.0 ∷ left) =
        s.whole ∙ ap (λ (ls : List Line). s.done ++ ls) (lines_next n keys tombstone at l read ∙ ap (λ (ls : List Line). ls ++ left) one.1) in
        let full : length o - bytes < line_size one.0 = omega arith in
        record {
          more-is = (some-put (lines_from n keys tombstone 0) s.done one.0 left o (put_at o 0 (listing_bytes s.done)) bytes (length s.done) cut s.bytes_are refl s.room full refl).more-is;
          counts = s.untouched;
          puts = λ f. some-put (lines_from n keys tombstone 0) s.done one.0 left o out bytes labels cut s.bytes_are (s.labels_are f) s.room full (s.out-is f);
        }

    -- the next one fits
    module _ (fits : size ≤ length out - bytes) where
      -- what holds of a dry run too
      go_on : (back : Bytes) (r : ℕ) → r ≤ 1 → length back ≡ length o → (dry ≡ false → labels + r ≡ length (s.done ++ next)) → (dry ≡ false → back ≡ put_at o 0 (listing_bytes (s.done ++ next))) → (dry ≡ true → back ≡ o)
          → PutSoFar n keys tombstone dry o back (bytes + size) (labels + r) (at + l.end)
      go_on back r few-more kept_back labelled written untouched =
          let kept = s.kept in
          let room = s.room in
          let most = size_most n part tombstone l read in
          let some = read.some in
          let few_bytes = s.few_bytes in
          let few-labels = s.few-labels in
          let bytes-done = s.bytes_are in
          record {
            done = s.done ++ next;
            within = next-within n keys tombstone at l read s.within;
            stored = stored_next n keys tombstone at l read;
            few_bytes = omega arith;
            few-labels = omega arith;
            whole = s.whole ∙ ap (λ (ls : List Line). s.done ++ ls) (lines_next n keys tombstone at l read) ∙ sym (append_assoc s.done next (lines_from n keys tombstone (at + l.end)));
            bytes_are = omega (arith, bytes_next, ap length (listing-append s.done next), length-append (listing_bytes s.done) (listing_bytes next));
            room = omega arith;
            kept = kept_back;
            labels_are = labelled;
            out-is = written;
            untouched = untouched;
          }

      pub put-none : dry ≡ true → PutSoFar n keys tombstone dry o out (bytes + size) labels (at + l.end)
      put-none t = carried n keys tombstone dry o out out (bytes + size) labels (labels + 0) (at + l.end) refl (omega arith) (go_on out 0 (omega arith) s.kept (λ f. absurd (true≢false (sym t ∙ f))) (λ f. absurd (true≢false (sym t ∙ f))) s.untouched)

      -- and is put
      module _ (wet : dry ≡ false) (r : ℕ) (front back : Bytes) (put : ListedPut next (take (length out - bytes) (drop bytes out)) front r)
          (joined : back ≡ take bytes out ++ (front ++ drop (length out - bytes) (drop bytes out))) where
        back_is : back ≡ put_at out bytes (listing_bytes next)
        back_is = joined ∙ put-part out front (listing_bytes next) bytes put.1

        pub put-more : PutSoFar n keys tombstone dry o back (bytes + size) (labels + r) (at + l.end)
        put-more =
            let kept = s.kept in
            let room = s.room in
            let few = few-lines n part tombstone l read in
            let counted = put.0 in
            let lines = length-append s.done next in
            let bytes-done = s.bytes_are in
            let labels-done = s.labels_are wet in
            let written : back ≡ put_at o 0 (listing_bytes s.done ++ listing_bytes next) =
            put_next o out back (listing_bytes s.done) (listing_bytes next) 0 bytes (s.out-is wet) (omega arith) back_is (omega arith) in
            go_on back r (omega arith) (ap length back_is ∙ length-put out (listing_bytes next) bytes (omega (arith, bytes_next)) ∙ kept)
            (λ f. omega arith) (λ f. written ∙ ap (put_at o 0) (sym (listing-append s.done next))) (λ t. absurd (true≢false (sym t ∙ wet)))

-- ---- all of them or none

-- where no line is left past those that fit, all fit
pub all_fit : (room : ℕ) (ls : List Line) → more_than_fit line_size room ls ≡ false → length (listing_bytes ls) ≤ room
unfolding fitting listing_bytes
all_fit room [] f = omega arith
all_fit room (l ∷ ls) f = go (leb (line_size l) room) refl f (all_fit (room - line_size l) ls)
  where
    go : (b : Bool) → leb (line_size l) room ≡ b → ltb (length (cond b (l ∷ fitting line_size (room - line_size l) ls) [])) (length (l ∷ ls)) ≡ false
        → (more_than_fit line_size (room - line_size l) ls ≡ false → length (listing_bytes ls) ≤ room - line_size l) → length (listing_bytes (l ∷ ls)) ≤ room
    go true e g ih =
        let size = length-lines l ls in
        let fits = leb-true (line_size l) room e in
        let more = ltb-false (length (l ∷ fitting line_size (room - line_size l) ls)) (length (l ∷ ls)) g in
        let rest = ih (le-ltb (length (fitting line_size (room - line_size l) ls)) (length ls) (omega arith)) in
        omega arith
    go false e g ih = absurd (true≢false (sym (lt-ltb 0 (length (l ∷ ls)) (omega arith)) ∙ g))

pub not_all_fit : (room : ℕ) (ls : List Line) → more_than_fit line_size room ls ≡ true → room < length (listing_bytes ls)
not_all_fit room ls t = go (decided (ltb room (length (listing_bytes ls))))
  where
    go : (ltb room (length (listing_bytes ls)) ≡ true) ⊎ (ltb room (length (listing_bytes ls)) ≡ false) → room < length (listing_bytes ls)
    go (inl h) = ltb-true room (length (listing_bytes ls)) h
    go (inr h) =
        let all : fitting line_size room ls ≡ ls = fitting-all room ls (ltb-false room (length (listing_bytes ls)) h) in
        absurd (true≢false (sym t ∙ rw all (le-ltb (length ls) (length ls) (omega arith))))

module _ (ls : List Line) (out : Bytes) where
  -- too few bytes for all
  pub none-wanted : (all : Bool) → all ≡ true → length out < length (listing_bytes ls) → PutsWanted all ls out out (record { bytes = 0; labels = 0; more = true })
  unfolding wanted_lines listing_bytes
  none-wanted all t h =
      let short : ltb (length out) (length (listing_bytes ls)) ≡ true = lt-ltb (length out) (length (listing_bytes ls)) h in
      rw (t, short) (record { bytes_are = refl; labels_are = refl; more-is = some ls h; out-is = sym (put_front out []) })
    where
      some : (ks : List Line) → length out < length (listing_bytes ks) → true ≡ ltb 0 (length ks)
      some [] l = absurd (omega arith)
      some (k ∷ ks) l = sym (lt-ltb 0 (length (k ∷ ks)) (omega arith))

  -- enough for all, or not all are wanted
  pub as_wanted : (all : Bool) (out' : Bytes) (r : LinesPut) → (all ≡ false) ⊎ (length (listing_bytes ls) ≤ length out) → PutsFitting ls out out' r → PutsWanted all ls out out' r
  unfolding wanted_lines
  as_wanted all out' r (inl e) p = rw e p
  as_wanted all out' r (inr h) p = rw (le-ltb (length out) (length (listing_bytes ls)) h) (go all)
    where
      go : (b : Bool) → PutsLines ls (cond (b && false) [] (fitting line_size (length out) ls)) out out' r
      go true = p
      go false = p

-- ---- a listing is no longer than its keys

-- an entry more
pub prepend-bytes : (e : Entry) (ls : List Line) → length (listing_bytes (prepend e ls)) ≤ length (listing_bytes ls) + (length e.label + line_fixed + dot_size)
unfolding prepend listing_bytes
prepend-bytes e [] =
    let all = length-lines (line e.label (e.dot ∷ [])) [] in
    omega (arith, length-line e.label (e.dot ∷ []))
prepend-bytes e (l ∷ ls) = go (compare_is_eq (compare_bytes e.label l.label))
  where
    go : (b : Bool) → length (listing_bytes (prepend_to b e l ls)) ≤ length (listing_bytes (l ∷ ls)) + (length e.label + line_fixed + dot_size)
    go true =
        let more = length-lines (line l.label (e.dot ∷ l.dots)) ls in
        let less = length-lines l ls in
        omega (arith, length-line l.label (e.dot ∷ l.dots), length-line l.label l.dots)
    go false =
        let more = length-lines (line e.label (e.dot ∷ [])) (l ∷ ls) in
        omega (arith, length-line e.label (e.dot ∷ []))

lines-within : (name : Name) (p : Entry → Bool) (es : List Entry) → length (listing_bytes (lines_of (keep p es))) ≤ length (store_bytes name es)
unfolding keep lines_of listing_bytes
lines-within name p [] = omega arith
lines-within name p (e ∷ es) = go (p e) (lines-within name p es)
  where
    go : (b : Bool) → length (listing_bytes (lines_of (keep p es))) ≤ length (store_bytes name es) → length (listing_bytes (lines_of (cons_if b e (keep p es)))) ≤ length (store_bytes name (e ∷ es))
    go true h = let size = length-first (length name) name refl e es in let more = prepend-bytes e (lines_of (keep p es)) in omega arith
    go false h = let size = length-first (length name) name refl e es in omega arith

pub listing-within : (n : ℕ) (keys : Bytes) (tombstone : List Dot) → StoredKeys n keys → length (listing_bytes (lines_of_live tombstone (entries_in n keys))) ≤ length keys
listing-within n keys tombstone s =
    let most = lines-within s.name (λ (e : Entry). is_live tombstone e.dot) (entries_in n keys) in
    let size = ap length s.written in
    omega arith
