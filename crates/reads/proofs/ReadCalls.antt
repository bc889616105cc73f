-- Listing and lookup: what they may count on in an undamaged state, and what they then give. Assumes nothing.
use Prim.Native.Nat.{ℕ, ◌+◌, ◌-◌, ◌≤◌, ◌<◌}
use denote.Ref.{Bor}
use mathlib.Core.Path.{◌≡◌, refl, sym, ap, ◌∙◌}
use mathlib.Core.Bool.{Bool, true, false, not, cond}
use mathlib.Core.List.{List, [], ◌∷◌}
use native.Mathlib.Omega.{arith}
use lib.Dec.{ltb, eqb, compare_is_eq}
use lib.ListN.{length, take, drop, length-drop}
use lib.Seq.{length-take-le, take-take}
use borrow.Author.Tests.{leb-true, ltb-true, ltb-false, lt-ltb, le-ltb, ne_eqb}
use Rattle.wire.specs.Lists.{cons_if, keep, any, all, member}
use Rattle.wire.specs.Bytes.{Bytes, compare_bytes, part_at, starts_with, IsPart}
use Rattle.wire.proofs.Tests.{both, both_ways, pass}
use Rattle.wire.proofs.Lists.{tie-is, keep-member, all-member, member-all}
use Rattle.wire.proofs.Orders.{bytes_lawful}
use Rattle.wire.proofs.Parts.{drop-take}
use Rattle.dots.specs.Answer.{number_of, first_of}
use Rattle.dots.specs.declared.Answer.{Answer}
use Rattle.dots.specs.declared.Answer.TheVariants.{Done, Damaged, BadName, OutputShort}
use Rattle.dots.specs.Names.{Name, Label, label_ok, name_most}
use Rattle.dots.specs.Dots.{compare_dots, ascending_dots, tombstone_most}
use Rattle.dots.specs.Entries.{Entry, Line}
use Rattle.keys.specs.Entry.{entry_ok}
use Rattle.store.specs.Cut.{store_bytes, keys_of, entries_in}
use Rattle.store.specs.Valid.{store_most, keys_fit}
use Rattle.store.specs.Place.{length_while, lower_than, place_in, label_start, stretch_start, stretch_end}
use Rattle.listing.specs.declared.LinesPut.{LinesPut}
use Rattle.listing.specs.Listing.{line_size, listing_bytes, StoredKeys, PutsLines, wanted_lines, PutsWanted}
use Rattle.listing.proofs.Folds.{fitting-all}
use Rattle.store.proofs.Cut.{end_to_end_keys_of}
use Rattle.store.proofs.Inserted.{while_within}
use Rattle.store.proofs.RoundTrip.{UsedEntries, keys-fit, entries-written}
use Rattle.store.proofs.Stretches.{stretch-start, stretch-end, stretch-bytes}
use Rattle.replica.specs.Machine.{listing, found}
use Rattle.std.specs.Prelude.{Result, Ok}
use Rattle.steps.specs.Tests.{passed}
use Rattle.steps.proofs.Passed.{passed-is}
use Rattle.calls.specs.declared.State.{State}
use Rattle.calls.specs.declared.Listed.{Listed}
use Rattle.calls.specs.State.{clock_model, name_of, tombstone_dots, used_part, entries, view, Sized}
use Rattle.calls.specs.Damage.{state_name_ok, tombstone_ok, damaged}
use Rattle.wire.proofs.Fields.{put_front}
use Rattle.replica.specs.Page.{fitting}
use Rattle.calls.specs.Refusals.{output_short}
use Rattle.calls.specs.Calls.{refused, lines_put, list_result, Looked, not_looked, lower_labels, same_label, bytes_of, lookup_refusals, lookup_done, lookup_result}
use Rattle.calls.specs.Promise.{Lists, LooksUp}
use Rattle.reads.specs.Reads.{Readable, lines_in, put_answer, listed_of}
use Rattle.calls.proofs.Clauses.{undamaged, used-fits, store-fits, entries_of_lem}

-- ---- what they count on

pub name_most_lem : (st : State) (store : Bytes) → damaged st store ≡ false → st.name.len ≤ name_most
unfolding state_name_ok
name_most_lem st store f = let n = (undamaged st store f).name in leb-true st.name.len name_most (search both)

pub name-fits : (st : State) (store : Bytes) → Sized st → damaged st store ≡ false → st.name.len ≤ length st.name.bytes
name-fits st store sized f = let size = sized.name-size in omega (arith, name_most_lem st store f)

pub name-size : (st : State) (store : Bytes) → Sized st → damaged st store ≡ false → length (name_of st) ≡ st.name.len
name-size st store sized f = length-take-le st.name.len st.name.bytes (name-fits st store sized f)

pub tombstone_most_lem : (st : State) (store : Bytes) → damaged st store ≡ false → st.tombstone.count ≤ tombstone_most
unfolding tombstone_ok
tombstone_most_lem st store f = let t = (undamaged st store f).tombstone in leb-true st.tombstone.count tombstone_most (search both)

pub tombstone-ascends : (st : State) (store : Bytes) → damaged st store ≡ false → ascending_dots (tombstone_dots st) ≡ true
unfolding tombstone_ok
tombstone-ascends st store f = let t = (undamaged st store f).tombstone in search both

-- the used part of an undamaged store
abbrev pub keys-named : (st : State) (store : Bytes) → damaged st store ≡ false → (n : ℕ) → length (name_of st) ≡ n → StoredKeys n (used_part st store)
keys-named st store f n e =
    let u = entries_of_lem st store (undamaged st store f) in
    record { name = name_of st; named = e; written = rw (← e) u.written; valid = rw (← e) u.valid; ascend = rw (← e) u.ascend }

pub stored-keys : (st : State) (store : Bytes) → Sized st → damaged st store ≡ false → StoredKeys st.name.len (used_part st store)
stored-keys st store sized f = keys-named st store f st.name.len (name-size st store sized f)

pub used-short : (st : State) (store : Bytes) → damaged st store ≡ false → length (used_part st store) ≤ store_most
used-short st store f = let u = undamaged st store f in omega (arith, length-take-le st.used store (used-fits st store u), used-fits st store u, store-fits st store u)

pub readable : (st : State) (store keys : Bytes) → Sized st → damaged st store ≡ false → StoredKeys st.name.len keys → length keys ≤ length (used_part st store)
    → Readable st.name.len keys st.tombstone.bytes st.tombstone.count
readable st store keys sized f stored within = record {
  short-name = name_most_lem st store f;
  keys-short = omega (arith, used-short st store f);
  stored = stored;
  tomb = record { size = sized.tombstone-size; few = tombstone_most_lem st store f; ascends = tombstone-ascends st store f };
}

-- ---- listing

pub damaged-listing : (st : State) (store out : Bytes) → damaged st store ≡ true → Lists (list_result st store out) out (record { answer = Damaged; written = 0; labels = 0 })
unfolding list_result
damaged-listing st store out d = rw d (record { answered = refl; written_is = refl; labels_are = refl; out-is = refl })

-- all lines are put, or none and the answer is 13
pub lists_or_short : (st : State) (store out out' : Bytes) (ls : List Line) (put : LinesPut) (short : Bool) → output_short out (listing_bytes ls) ≡ short → PutsWanted true ls out out' put
    → Lists (cond (eqb (number_of (cond short OutputShort Done)) 0) (lines_put st store out ls) (refused st store out (cond short OutputShort Done))) out' (listed_of put)
unfolding put_answer wanted_lines listing_bytes
lists_or_short st store out out' ls put true e p =
    let w : PutsLines ls [] out out' put = rw e at p in
    let some : ltb 0 (length ls) ≡ true = some-lines ls (ltb-true (length out) (length (listing_bytes ls)) e) in
    let more : put.more ≡ true = w.more-is ∙ some in
    record {
      answered = rw (more, w.labels_are);
      written_is = w.bytes_are;
      labels_are = w.labels_are;
      out-is = w.out-is ∙ put_front out [];
    }
  where
    some-lines : (ks : List Line) → length out < length (listing_bytes ks) → ltb 0 (length ks) ≡ true
    some-lines [] h = absurd (omega arith)
    some-lines (k ∷ ks) h = lt-ltb 0 (length (k ∷ ks)) (omega arith)
lists_or_short st store out out' ls put false e p =
    let all : fitting line_size (length out) ls ≡ ls = fitting-all (length out) ls (ltb-false (length out) (length (listing_bytes ls)) e) in
    let w : PutsLines ls ls out out' put = rw (e, all) at p in
    let more : put.more ≡ false = w.more-is ∙ le-ltb (length ls) (length ls) (omega arith) in
    record {
      answered = rw more;
      written_is = w.bytes_are;
      labels_are = w.labels_are;
      out-is = w.out-is ∙ put_front out (listing_bytes ls);
    }

pub undamaged-listing : (st : State) (store out out' : Bytes) (put : LinesPut) (r : Listed) → Sized st → damaged st store ≡ false → r ≡ listed_of put
    → PutsWanted true (lines_in st.name.len (used_part st store) st.tombstone.bytes st.tombstone.count) out out' put
    → Lists (list_result st store out) out' r
unfolding list_result listing view
undamaged-listing st store out out' put r sized f a p =
    let ls : List Line = lines_in st.name.len (used_part st store) st.tombstone.bytes st.tombstone.count in
    rw (f, a, name-size st store sized f) (lists_or_short st store out out' ls put (output_short out (listing_bytes ls)) refl p)

-- ---- lookup

-- some pass a test of those that pass another, or the other way round
any_swap : {A : Type 0} (p p' q : A → Bool) → ((x : A) → p x ≡ p' x) → (xs : List A) → any p (keep q xs) ≡ any q (keep p' xs)
unfolding any keep
any_swap p p' q same [] = refl
any_swap {A} p p' q same (x ∷ xs) = by_tests (p' x) (q x) (same x) refl (any_swap p p' q same xs)
  where
    by_tests : (a b : Bool) → p x ≡ a → q x ≡ b → any p (keep q xs) ≡ any q (keep p' xs) → any p (cons_if b x (keep q xs)) ≡ any q (cons_if a x (keep p' xs))
    by_tests true true e f rest = rw (e, f)
    by_tests true false e f rest = rw f rest
    by_tests false true e f rest = rw e rest
    by_tests false false e f rest = rest

same-turned : (a b : Bytes) → compare_is_eq (compare_bytes a b) ≡ compare_is_eq (compare_bytes b a)
same-turned a b = both_ways (compare_is_eq (compare_bytes a b)) (compare_is_eq (compare_bytes b a)) (turned a b) (turned b a)
  where
    turned : (x y : Bytes) → compare_is_eq (compare_bytes x y) ≡ true → compare_is_eq (compare_bytes y x) ≡ true
    turned x y t = let e : x ≡ y = bytes_lawful.tie x y (tie-is (compare_bytes x y) (pass t)) in rw (e, bytes_lawful.self y)

-- where the stretch ends
pub stretch-within : (name : Name) (label : Label) (bytes : Bytes) → (stretch_start name label bytes ≤ stretch_end name label bytes) × (stretch_end name label bytes ≤ length bytes)
unfolding stretch_end stretch_start
stretch-within name label bytes =
    let start = label_start name label in
    let n = length name in
    let at : ℕ = place_in start (keys_of n bytes) in
    let before : at ≤ length bytes = rw end_to_end_keys_of at (while_within (lower_than start) (keys_of n bytes)) in
    let after : length_while (starts_with start) (keys_of n (drop at bytes)) ≤ length (drop at bytes) = rw end_to_end_keys_of at (while_within (starts_with start) (keys_of n (drop at bytes))) in
    (omega arith, omega (arith, length-drop at bytes))

-- a part of a front is a part of the whole
pub part_of_front : (s : Bytes) (used start end : ℕ) → end ≤ used → part_at (take used s) start (end - start) ≡ part_at s start (end - start)
part_of_front s used start end h = rw (drop-take start used s) (take-take (end - start) (used - start) (drop start s) (omega arith))

-- the stretch of the used part is one of the store
pub part_of_store : (store r : Bor Bytes) (name : Name) (label : Label) (used : ℕ) → used ≤ length store.now
    → r.ref_ptr.0 ≡ store.ref_ptr.0 → r.ref_ptr.1 ≡ store.ref_ptr.1 + stretch_start name label (take used store.now)
    → r.now ≡ part_at (take used store.now) (stretch_start name label (take used store.now)) (stretch_end name label (take used store.now) - stretch_start name label (take used store.now))
    → IsPart store (stretch_start name label (take used store.now)) (stretch_end name label (take used store.now)) r
part_of_store store r name label used h block offset bytes =
    let front : Bytes = take used store.now in
    let fits : stretch_end name label front ≤ used = omega (arith, stretch-within name label front, length-take-le used store.now h) in
    record { block = block; offset = offset; bytes = bytes ∙ part_of_front store.now used (stretch_start name label front) (stretch_end name label front) fits }

-- the refusals of a lookup as the code tests them
pub look_is : (st : State) (store label : Bytes) (damage labelled : Bool) (q : Result Unit Answer) → damage ≡ damaged st store → labelled ≡ label_ok label
    → q ≡ passed (first_of ((damage, Damaged) ∷ (not labelled, BadName) ∷ [])) → q ≡ passed (first_of (lookup_refusals st store label))
look_is st store label damage labelled q d l a = rw (d, l) at a

-- none holds: the tests of a lookup that passes
tested : (damage labelled : Bool) → number_of (cond damage Damaged (cond (not labelled) BadName Done)) ≡ 0 → (damage ≡ false) × (labelled ≡ true)
tested false true e = (refl, refl)
tested false false e = let none : ⊥ = omega arith in absurd none
tested true labelled e = let none : ⊥ = omega arith in absurd none

pub may_look : (st : State) (store label : Bytes) (q : Result Unit Answer) (u : Unit {0}) → q ≡ passed (first_of (lookup_refusals st store label)) → q ≡ Ok u → (damaged st store ≡ false) × (label_ok label ≡ true)
may_look st store label q u a z = tested (damaged st store) (label_ok label) (passed-is (first_of (lookup_refusals st store label)) u (sym z ∙ a))

pub not_looked_lem : (st : State) (store r : Bor Bytes) (label : Bytes) (answer : Answer) (number : ℕ) → answer ≡ first_of (lookup_refusals st store.now label) → number ≡ number_of answer
    → (answer ≡ Done → ⊥) → IsPart store 0 0 r → LooksUp st store label number false r
unfolding lookup_result
not_looked_lem st store r label answer number a n some part =
    let first : Answer = first_of (lookup_refusals st store.now label) in
    let done : number_of first ≡ 0 → first ≡ Done = λ z. let m = tested (damaged st store.now) (label_ok label) z in rw (m.0, m.1) in
    let is : lookup_result st store.now label ≡ not_looked first = rw (ne_eqb (number_of first) 0 (λ z. some (a ∙ done z))) in
    record {
      answered = n ∙ ap number_of a ∙ sym (ap (λ (x : Looked). number_of x.answer) is);
      listed-is = sym (ap (λ (x : Looked). x.listed) is);
      stretch-is = rw is part;
    }

module _ (st : State) (store : Bytes) (label : Label) (f : damaged st store ≡ false) (ok : label_ok label ≡ true) where
  held : UsedEntries (name_of st) st.clock.words (used_part st store) (entries st store)
  held = entries_of_lem st store (undamaged st store f)

  start_is : stretch_start (name_of st) label (used_part st store) ≡ bytes_of st store label (lower_labels st store label)
  start_is = ap (stretch_start (name_of st) label) (sym held.written) ∙ stretch-start label (name_of st) ok (entries st store) held.valid held.ascend

  end_is : stretch_end (name_of st) label (used_part st store) ≡ bytes_of st store label (lower_labels st store label) + bytes_of st store label (same_label st store label)
  end_is =
      ap (stretch_end (name_of st) label) (sym held.written)
      ∙ stretch-end label (name_of st) ok (entries st store) held.valid held.ascend
      ∙ ap (λ (n : ℕ). n + bytes_of st store label (same_label st store label)) (stretch-start label (name_of st) ok (entries st store) held.valid held.ascend)

  same-valid : all entry_ok (same_label st store label) ≡ true
  same-valid = member-all entry_ok (same_label st store label) (λ e m. all-member entry_ok (entries st store) held.valid e (keep-member (λ (x : Entry). compare_is_eq (compare_bytes x.label label)) (entries st store) m).0)

  looked-is : lookup_result st store label ≡ lookup_done st store label
  unfolding lookup_result
  looked-is = rw (f, ok)

  -- the stretch holds the label's keys
  module _ (n : ℕ) (bytes : Bytes) (named : n ≡ length (name_of st))
      (part : bytes ≡ part_at store (stretch_start (name_of st) label (used_part st store)) (stretch_end (name_of st) label (used_part st store) - stretch_start (name_of st) label (used_part st store))) where
    stretch-holds : bytes ≡ store_bytes (name_of st) (same_label st store label)
    stretch-holds =
        let a : ℕ = stretch_start (name_of st) label (used_part st store) in
        let e : ℕ = stretch_end (name_of st) label (used_part st store) in
        let fits : e ≤ st.used = omega (arith, stretch-within (name_of st) label (used_part st store), length-take-le st.used store (used-fits st store (undamaged st store f))) in
        let whole : part_at (used_part st store) a (e - a) ≡ store_bytes (name_of st) (same_label st store label) =
        rw held.written at (stretch-bytes label (name_of st) ok (entries st store) held.valid held.ascend) in
        part ∙ sym (part_of_front store st.used a e fits) ∙ whole

    pub stretch-fits : keys_fit n bytes ≡ true
    stretch-fits = rw (named, stretch-holds) (keys-fit (name_of st) (same_label st store label) same-valid)

    -- some key is live if the listing has the label
    found-live : any (λ (e : Entry). not (member compare_dots e.dot (tombstone_dots st))) (entries_in n bytes) ≡ found clock_model (view st store) label
    unfolding found view
    found-live =
        rw (named, stretch-holds, entries-written (name_of st) (same_label st store label) same-valid)
        (sym (any_swap (λ (e : Entry). compare_is_eq (compare_bytes label e.label)) (λ (e : Entry). compare_is_eq (compare_bytes e.label label)) (λ (e : Entry). not (member compare_dots e.dot (tombstone_dots st))) (λ (e : Entry). same-turned label e.label) (entries st store)))

pub looked : (st : State) (store r : Bor Bytes) (label : Bytes) (number : ℕ) (listed : Bool) → Sized st → damaged st store.now ≡ false → label_ok label ≡ true → number ≡ 0
    → IsPart store (stretch_start (name_of st) label (used_part st store.now)) (stretch_end (name_of st) label (used_part st store.now)) r
    → listed ≡ any (λ (e : Entry). not (member compare_dots e.dot (tombstone_dots st))) (entries_in st.name.len r.now)
    → LooksUp st store label number listed r
looked st store r label number listed named f ok z part l =
    let s : Bytes = store.now in
    let is : lookup_result st s label ≡ lookup_done st s label = looked-is st s label f ok in
    let stretch : IsPart store (bytes_of st s label (lower_labels st s label)) (bytes_of st s label (lower_labels st s label) + bytes_of st s label (same_label st s label)) r =
    rw (end_is st s label f ok, start_is st s label f ok) at part in
    record {
      answered = z ∙ sym (ap (λ (x : Looked). number_of x.answer) is);
      listed-is = l ∙ found-live st s label f ok st.name.len r.now (sym (name-size st s named f)) part.bytes ∙ sym (ap (λ (x : Looked). x.listed) is);
      stretch-is = rw is stretch;
    }
