-- A walk over the keys of one label, at the front of stored keys: each turn takes one entry, and the line ends where another label comes or no key is left. Assumes nothing.
use mathlib.Core.Path.{◌≡◌, refl, sym, ap, ap₂, ◌∙◌, subst}
use mathlib.Core.Logic.{◌⊎◌, ⊎_elim}
use mathlib.Core.Bool.{Bool, true, false, not, cond, true≢false}
use mathlib.Core.List.Memᴰ
use mathlib.Core.List.{List, [], ◌∷◌, ◌++◌, map, append_assoc, append-nil}
use Prim.Native.Nat.{ℕ, ◌+◌, ◌-◌, ◌*◌, ◌≤◌, ◌<◌}
use native.Mathlib.Omega.{arith}
use lib.Dec.{eqb, compare_is_eq}
use lib.ListN.{length, take, drop, length-append}
use lib.Seq.{take_at, drop_at, drop-drop}
use borrow.Author.Tests.{lt-leb, le-leb, eq-eqb, not-true, not-false}
use Rattle.wire.specs.Lists.{◌∈◌, cons_if, keep, all, Less, Ascending}
use Rattle.wire.specs.Bytes.{Bytes, big_endian, compare_bytes, part_at}
use Rattle.wire.proofs.Tests.{both, both_left, both_right, untrue}
use Rattle.wire.proofs.Lists.{all-member, member-all, keep-member, irreflexive}
use Rattle.wire.proofs.Orders.{bytes_lawful}
use Rattle.dots.specs.declared.Dot.{Dot}
use Rattle.dots.specs.Names.{Name, Label, name_most, label_most}
use Rattle.dots.specs.Wire.{dot_size}
use Rattle.dots.specs.Entries.{Entry, entry, entry_dot, compare_entries, lines_of}
use Rattle.keys.specs.Key.{label_key_fixed, prefix_fixed}
use Rattle.keys.specs.Entry.{entry_ok, entry_key, prefix, suffix}
use Rattle.keys.proofs.Texts.{text_nonzero}
use Rattle.keys.proofs.EntryKeys.{entry_key_parts, length_entry_key, length-prefix}
use Rattle.store.specs.Cut.{end_to_end, store_bytes, key_length, keys_of, key_dot, entries_in}
use Rattle.store.specs.Valid.{store_most}
use Rattle.store.proofs.KeySays.{dot_said}
use Rattle.store.proofs.RoundTrip.{label-size, key-length, keys-written, entries-written, store-append}
use Rattle.store.proofs.Stretches.{begins-ended, labels_up}
use Rattle.reader.specs.Reading.{key_end}
use Rattle.reader.proofs.KeyEnds.{key_end_is}
use Rattle.listing.specs.declared.ListedLine.{ListedLine}
use Rattle.listing.specs.Listing.{is_live, live_entries, lines_of_live, line_fixed, StoredKeys}
use Rattle.listing.specs.Lines.{key_size, label_of, dots_in, listed_dots, with_key, goes_on, line_if, FirstLine}
use Rattle.listing.proofs.Listings.{same-label, line_grows, lines_split}

-- ---- the bytes of entries of a set whose name has n bytes

module _ (n : ℕ) (name : Name) (named : length name ≡ n) where
  key-long : (e : Entry) → length (entry_key name e) ≡ n + length e.label + label_key_fixed
  key-long e = length_entry_key name e ∙ rw named

  pub length-first : (e : Entry) (es : List Entry) → length (store_bytes name (e ∷ es)) ≡ n + length e.label + label_key_fixed + length (store_bytes name es)
  unfolding store_bytes end_to_end
  length-first e es = length-append (entry_key name e) (store_bytes name es) ∙ rw (key-long e)

  length_none : length (store_bytes name []) ≡ 0
  unfolding store_bytes end_to_end
  length_none = refl

  -- what follows the prefix of the first key: its label, a 0, and more
  pub past-prefix : (e : Entry) (es : List Entry) → (t : Bytes) × (drop (n + prefix_fixed) (store_bytes name (e ∷ es)) ≡ e.label ++ (0 ∷ t))
  unfolding store_bytes end_to_end suffix
  past-prefix e es =
      let d : Dot = e.dot in
      let tail : Bytes = d.actor.number ∷ 0 ∷ big_endian 8 d.counter.number in
      let parts : store_bytes name (e ∷ es) ≡ prefix name ++ (e.label ++ (0 ∷ (tail ++ store_bytes name es))) = rw (entry_key_parts, append_assoc, append_assoc) in
      (tail ++ store_bytes name es, ap (drop (n + prefix_fixed)) parts ∙ drop_at (prefix name) (e.label ++ (0 ∷ (tail ++ store_bytes name es))) (n + prefix_fixed) (length-prefix name ∙ rw named))

  module _ (es : List Entry) (valid : all entry_ok es ≡ true) where
    pub read_again : entries_in n (store_bytes name es) ≡ es
    read_again = rw (← named) (entries-written name es valid)

    keys_again : keys_of n (store_bytes name es) ≡ map (entry_key name) es
    keys_again = rw (← named) (keys-written name es valid)

    pub stored_again : Ascending compare_entries es → StoredKeys n (store_bytes name es)
    stored_again up = record {
      name = name;
      named = named;
      written = ap (store_bytes name) read_again;
      valid = ap (all entry_ok) read_again ∙ valid;
      ascend = subst (Ascending compare_entries) (sym read_again) up;
    }

  -- ---- keys of one label

  module _ (l : Label) (some : 1 ≤ length l) where
    sized-keys : (ds : List Dot) → all (λ (k : Bytes). eqb (length k) (n + length l + label_key_fixed)) (map (entry_key name) (map (entry l) ds)) ≡ true
    unfolding all
    sized-keys [] = refl
    sized-keys (d ∷ ds) = rw (key-long (entry l d), eq-eqb (n + length l + label_key_fixed) (n + length l + label_key_fixed) refl) (sized-keys ds)

    -- no fewer than 16 bytes a dot
    module _ (p : Dot → Bool) where
      dots-few : (ds : List Dot) → 16 * length (keep p ds) ≤ length (store_bytes name (map (entry l) ds))
      unfolding keep
      dots-few [] = omega arith
      dots-few (d ∷ ds) = let size = length-first (entry l d) (map (entry l) ds) in go (p d) (dots-few ds)
        where
          go : (b : Bool) → 16 * length (keep p ds) ≤ length (store_bytes name (map (entry l) ds)) → 16 * length (cons_if b d (keep p ds)) ≤ length (store_bytes name (map (entry l) (d ∷ ds)))
          go true h = let size = length-first (entry l d) (map (entry l) ds) in omega arith
          go false h = let size = length-first (entry l d) (map (entry l) ds) in omega arith

      line-short : (d : Dot) (ds : List Dot) → line_fixed + length l + dot_size * length (keep p (d ∷ ds)) ≤ length (store_bytes name (map (entry l) (d ∷ ds)))
      unfolding keep
      line-short d ds = go (p d)
        where
          go : (b : Bool) → line_fixed + length l + dot_size * length (cons_if b d (keep p ds)) ≤ length (store_bytes name (map (entry l) (d ∷ ds)))
          go true = let size = length-first (entry l d) (map (entry l) ds) in let h = dots-few ds in omega arith
          go false = let size = length-first (entry l d) (map (entry l) ds) in let h = dots-few ds in omega arith

-- the dots of a label's entries
dots_again : (l : Label) (ds : List Dot) → map entry_dot (map (entry l) ds) ≡ ds
dots_again l [] = refl
dots_again l (d ∷ ds) = ap (λ (t : List Dot). d ∷ t) (dots_again l ds)

live_again : (tombstone : List Dot) (l : Label) (ds : List Dot) → live_entries tombstone (map (entry l) ds) ≡ map (entry l) (keep (is_live tombstone) ds)
unfolding keep
live_again tombstone l [] = refl
live_again tombstone l (d ∷ ds) = go (is_live tombstone d) (live_again tombstone l ds)
  where
    go : (b : Bool) → live_entries tombstone (map (entry l) ds) ≡ map (entry l) (keep (is_live tombstone) ds)
        → cons_if b (entry l d) (live_entries tombstone (map (entry l) ds)) ≡ map (entry l) (cons_if b d (keep (is_live tombstone) ds))
    go true ih = ap (λ (t : List Entry). entry l d ∷ t) ih
    go false ih = ih

keep_append : {A : Type 0} (p : A → Bool) (xs ys : List A) → keep p (xs ++ ys) ≡ keep p xs ++ keep p ys
unfolding keep
keep_append p [] ys = refl
keep_append p (x ∷ xs) ys = go (p x) (keep_append p xs ys)
  where
    go : (b : Bool) → keep p (xs ++ ys) ≡ keep p xs ++ keep p ys → cons_if b x (keep p (xs ++ ys)) ≡ cons_if b x (keep p xs) ++ keep p ys
    go true ih = ap (λ zs. x ∷ zs) ih
    go false ih = ih

keep-more : {A : Type 0} (p : A → Bool) (xs : List A) (x : A) → p x ≡ true → keep p xs ≡ xs → keep p (xs ++ (x ∷ [])) ≡ xs ++ (x ∷ [])
unfolding keep
keep-more p xs x t e = keep_append p xs (x ∷ []) ∙ rw (e, t)

keep-last : {A : Type 0} (p : A → Bool) (xs : List A) (x : A) → length (keep p (xs ++ (x ∷ []))) ≡ length (keep p xs) + cond (p x) 1 0
unfolding keep
keep-last p xs x = rw (keep_append p xs (x ∷ []), length-append) (go (p x))
  where
    go : (b : Bool) → length (keep p xs) + length (cons_if b x []) ≡ length (keep p xs) + cond b 1 0
    go true = refl
    go false = refl

pub up_rest : (xs ys : List Entry) → Ascending compare_entries (xs ++ ys) → Ascending compare_entries ys
up_rest [] ys up = up
up_rest (x ∷ xs) ys up = up_rest xs ys up.1

-- ---- the walk

-- the entries at the front with the line's label, and the entries left
pub record LineWalk (n : ℕ) (name : Name) (keys : Bytes) (tombstone : List Dot) (label : Label) (dots : List Dot) (rest : List Entry) (r : ListedLine) : Type 0 where
  pub keys_are : keys ≡ store_bytes name (map (entry label) dots ++ rest)
  pub valid : all entry_ok (map (entry label) dots ++ rest) ≡ true
  pub ascend : Ascending compare_entries (map (entry label) dots ++ rest)
  pub len_is : r.len ≡ length label
  pub end_is : r.end ≡ length (store_bytes name (map (entry label) dots))
  pub count-is : r.count ≡ length (keep (is_live tombstone) dots)
  pub all-is : r.all ≡ true → keep (is_live tombstone) dots ≡ dots

module _ (n : ℕ) (name : Name) (named : length name ≡ n) (keys : Bytes) (tombstone : List Dot) (label : Label) (dots : List Dot) where
  module _ (rest : List Entry) (r : ListedLine) (w : LineWalk n name keys tombstone label dots rest r) where
    abbrev taken : Bytes
    taken = store_bytes name (map (entry label) dots)

    parts : keys ≡ taken ++ store_bytes name rest
    parts = w.keys_are ∙ store-append name (map (entry label) dots) rest

    taken-part : take r.end keys ≡ taken
    taken-part = rw parts (take_at taken (store_bytes name rest) r.end (sym w.end_is))

    rest_part : drop r.end keys ≡ store_bytes name rest
    rest_part = rw parts (drop_at taken (store_bytes name rest) r.end (sym w.end_is))

    length-keys : length keys ≡ r.end + length (store_bytes name rest)
    length-keys = rw (parts, length-append) (omega (arith, w.end_is))

    taken-valid : all entry_ok (map (entry label) dots) ≡ true
    taken-valid = member-all entry_ok (map (entry label) dots) (λ e m. all-member entry_ok (map (entry label) dots ++ rest) w.valid e (Memᴰ.append_left rest m))

    rest-valid : all entry_ok rest ≡ true
    rest-valid = member-all entry_ok rest (λ e m. all-member entry_ok (map (entry label) dots ++ rest) w.valid e (Memᴰ.append_right (map (entry label) dots) m))

  -- one key more
  module _ (d : Dot) (es : List Entry) (r : ListedLine) (w : LineWalk n name keys tombstone label dots (entry label d ∷ es) r) where
    abbrev here : Entry
    here = entry label d

    here-ok : entry_ok here ≡ true
    unfolding all
    here-ok = let v = rest-valid (here ∷ es) r w in search both

    size_is : key_size n r ≡ length (entry_key name here)
    size_is = sym (key-long n name named here ∙ rw w.len_is)

    pub key-within : r.end + key_size n r ≤ length keys
    key-within = let size = length-first n name named here es in let l = w.len_is in omega (arith, length-keys (here ∷ es) r w)

    key_here : part_at keys r.end (key_size n r) ≡ entry_key name here
    unfolding store_bytes end_to_end
    key_here = rw (rest_part (here ∷ es) r w) (take_at (entry_key name here) (store_bytes name es) (key_size n r) (sym size_is))

    -- the line with it
    pub with-key : LineWalk n name keys tombstone label (dots ++ (d ∷ [])) es (with_key n keys tombstone r)
    unfolding with_key
    with-key =
        let grown : map (entry label) dots ++ (here ∷ es) ≡ map (entry label) (dots ++ (d ∷ [])) ++ es = line_grows label dots d es in
        let live : key_dot (part_at keys r.end (key_size n r)) ≡ d = ap key_dot key_here ∙ dot_said name here here-ok in
        let alone : map (entry label) dots ++ (here ∷ []) ≡ map (entry label) (dots ++ (d ∷ [])) ++ [] = line_grows label dots d [] in
        record {
          keys_are = w.keys_are ∙ ap (store_bytes name) grown;
          valid = rw grown at w.valid;
          ascend = subst (Ascending compare_entries) grown w.ascend;
          len_is = w.len_is;
          end_is =
              let size : length (store_bytes name (map (entry label) (dots ++ (d ∷ [])))) ≡ length (store_bytes name (map (entry label) dots)) + length (store_bytes name (here ∷ [])) =
              ap (λ (t : List Entry). length (store_bytes name t)) (sym (alone ∙ append-nil (map (entry label) (dots ++ (d ∷ []))))) ∙ ap length (store-append name (map (entry label) dots) (here ∷ [])) ∙ length-append (store_bytes name (map (entry label) dots)) (store_bytes name (here ∷ [])) in
              let first = length-first n name named here [] in
              let none = length_none n name named in
              let l = w.len_is in
              omega (arith, w.end_is);
          count-is = rw live (omega (arith, w.count-is, keep-last (is_live tombstone) dots d));
          all-is = λ t. keep-more (is_live tombstone) dots d (rw live at (both_left (is_live tombstone (key_dot (part_at keys r.end (key_size n r)))) r.all t)) (w.all-is (both_right (is_live tombstone (key_dot (part_at keys r.end (key_size n r)))) r.all t));
        }

-- whether the first entry has the label
abbrev first_has : Label → List Entry → Bool
first_has label [] = false
first_has label (e ∷ es) = compare_is_eq (compare_bytes e.label label)

-- the walk with a key taken
module _ (n : ℕ) (name : Name) (named : length name ≡ n) (keys : Bytes) (tombstone : List Dot) (label : Label) (d : Dot) (ds : List Dot) (rest : List Entry) (r : ListedLine)
    (w : LineWalk n name keys tombstone label (d ∷ ds) rest r) where
  abbrev first : Entry
  first = entry label d

  abbrev others : List Entry
  others = map (entry label) ds ++ rest

  first-ok : entry_ok first ≡ true
  unfolding all
  first-ok = let v = w.valid in search both

  label-ok : (1 ≤ length label) × (length label ≤ label_most)
  label-ok = label-size name first first-ok

  first-within : n + length label + label_key_fixed ≤ r.end
  first-within = let size = length-first n name named first (map (entry label) ds) in omega (arith, w.end_is)

  end-within : r.end ≤ length keys
  end-within = omega (arith, length-keys n name named keys tombstone label (d ∷ ds) rest r w)

  pub closed_within : n + prefix_fixed + (r.len + 1) ≤ length keys
  closed_within = let l = w.len_is in omega (arith, first-within, end-within)

  -- the label and its closing 0
  closed_label : part_at keys (n + prefix_fixed) (r.len + 1) ≡ label ++ (0 ∷ [])
  closed_label =
      let past = past-prefix n name named first others in
      let size : length (label ++ (0 ∷ [])) ≡ r.len + 1 = rw (length-append, w.len_is) in
      ap (λ (s : Bytes). take (r.len + 1) (drop (n + prefix_fixed) s)) w.keys_are
      ∙ ap (take (r.len + 1)) (past.1 ∙ sym (append_assoc label (0 ∷ []) past.0)) ∙ take_at (label ++ (0 ∷ [])) past.0 (r.len + 1) size

  goes_first : (es : List Entry) → rest ≡ es → goes_on n keys r ≡ first_has label es
  unfolding goes_on entry_ok
  goes_first [] e =
      let size = length-keys n name named keys tombstone label (d ∷ ds) rest r w in
      let none : length (store_bytes name rest) ≡ 0 = ap (λ (t : List Entry). length (store_bytes name t)) e ∙ length_none n name named in
      rw (lt-leb (r.end + (n + prefix_fixed)) (length keys) (omega arith))
  goes_first (f ∷ fs) e =
      let size = length-keys n name named keys tombstone label (d ∷ ds) rest r w in
      let long = ap (λ (t : List Entry). length (store_bytes name t)) e ∙ length-first n name named f fs in
      let past = past-prefix n name named f fs in
      let next : drop (r.end + (n + prefix_fixed)) keys ≡ f.label ++ (0 ∷ past.0) =
      sym (drop-drop (n + prefix_fixed) r.end keys) ∙ ap (drop (n + prefix_fixed)) (rest_part n name named keys tombstone label (d ∷ ds) rest r w ∙ ap (store_bytes name) e) ∙ past.1 in
      let valid : all entry_ok (f ∷ fs) ≡ true = rw e at (rest-valid n name named keys tombstone label (d ∷ ds) rest r w) in
      let ok : entry_ok f ≡ true = all-member entry_ok (f ∷ fs) valid f (Memᴰ.head refl) in
      let ok-first = first-ok in
      rw (le-leb (r.end + (n + prefix_fixed)) (length keys) (omega arith), next, closed_label)
      (begins-ended f.label label past.0 (text_nonzero label_most f.label (search both)) (text_nonzero label_most label (search both)))

  pub goes_on_is : goes_on n keys r ≡ first_has label rest
  goes_on_is = goes_first rest refl

  -- the line is whole where the next entry, if there is one, has another label
  module _ (ends : first_has label rest ≡ false) where
    abbrev Other : Entry → Type 0
    Other e = compare_is_eq (compare_bytes label e.label) ≡ false

    same_way : (l m : Label) → compare_is_eq (compare_bytes l m) ≡ true → compare_is_eq (compare_bytes m l) ≡ true
    same_way l m t = rw (same-label l m t) (ap compare_is_eq (bytes_lawful.self m))

    first-differs : (es : List Entry) → rest ≡ es → Ascending compare_entries es → (e : Entry) → e ∈ es → Other e
    first-differs [] q up e m = absurd (Memᴰ.not-nil m)
    first-differs (f ∷ fs) q up e m = untrue (compare_is_eq (compare_bytes label e.label)) (λ t. ⊎_elim (λ k. at_first (subst (λ (x : Entry). compare_is_eq (compare_bytes label x.label) ≡ true) k t)) (past t) (Memᴰ.cases_cons m))
      where
        not_first : compare_is_eq (compare_bytes f.label label) ≡ false
        not_first = ap (first_has label) (sym q) ∙ ends

        at_first : compare_is_eq (compare_bytes label f.label) ≡ true → ⊥
        at_first t = true≢false (sym (same_way label f.label t) ∙ not_first)

        above : Less compare_bytes label f.label ⊎ (label ≡ f.label)
        above = labels_up first f (w.ascend.0 f (Memᴰ.append_right (map (entry label) ds) (subst (λ (zs : List Entry). f ∈ zs) (sym q) (Memᴰ.head refl))))

        past : compare_is_eq (compare_bytes label e.label) ≡ true → e ∈ fs → ⊥
        past t k =
            let same : label ≡ e.label = same-label label e.label t in
            ⊎_elim (λ (a : Less compare_bytes label f.label). ⊎_elim
            (λ (b : Less compare_bytes f.label e.label). irreflexive compare_bytes bytes_lawful label (bytes_lawful.chain label f.label label a (subst (Less compare_bytes f.label) (sym same) b)))
            (λ b. at_first (ap compare_is_eq (ap (λ (x : Label). compare_bytes label x) (b ∙ sym same) ∙ bytes_lawful.self label)))
            (labels_up f e (up.0 e k)))
            (λ a. at_first (ap compare_is_eq (ap (λ (x : Label). compare_bytes label x) (sym a) ∙ bytes_lawful.self label))) above

    rest-differs : (e : Entry) → e ∈ rest → Other e
    rest-differs = first-differs rest refl (up_rest (map (entry label) (d ∷ ds)) rest w.ascend)

    line-lines : lines_of_live tombstone (map (entry label) (d ∷ ds) ++ rest) ≡ line_if label (keep (is_live tombstone) (d ∷ ds)) ++ lines_of_live tombstone rest
    line-lines =
        ap lines_of (keep_append (λ (e : Entry). is_live tombstone e.dot) (map (entry label) (d ∷ ds)) rest ∙ ap (λ (zs : List Entry). zs ++ live_entries tombstone rest) (live_again tombstone label (d ∷ ds)))
        ∙ lines_split label (keep (is_live tombstone) (d ∷ ds)) (live_entries tombstone rest)
        (λ e fs q. rest-differs e (keep-member (λ (x : Entry). is_live tombstone x.dot) rest (subst (λ (zs : List Entry). e ∈ zs) (sym q) (Memᴰ.head refl))).0)

    -- the dots of its keys
    all-dots : dots_in n (take r.end keys) ≡ d ∷ ds
    all-dots =
        ap (dots_in n) (taken-part n name named keys tombstone label (d ∷ ds) rest r w)
        ∙ ap (map entry_dot) (read_again n name named (map (entry label) (d ∷ ds)) (taken-valid n name named keys tombstone label (d ∷ ds) rest r w)) ∙ dots_again label (d ∷ ds)

    dots_are : listed_dots n (take r.end keys) tombstone ≡ keep (is_live tombstone) (d ∷ ds)
    dots_are = ap (keep (is_live tombstone)) all-dots

    label_is : label_of n keys r.len ≡ label
    label_is =
        let past = past-prefix n name named first others in
        ap (λ (s : Bytes). take r.len (drop (n + prefix_fixed) s)) w.keys_are ∙ ap (take r.len) past.1 ∙ take_at label (0 ∷ past.0) r.len (sym w.len_is)

    all-entries : entries_in n keys ≡ map (entry label) (d ∷ ds) ++ rest
    all-entries = ap (entries_in n) w.keys_are ∙ read_again n name named (map (entry label) (d ∷ ds) ++ rest) w.valid

    rest-entries : entries_in n (drop r.end keys) ≡ rest
    rest-entries = ap (entries_in n) (rest_part n name named keys tombstone label (d ∷ ds) rest r w) ∙ read_again n name named rest (rest-valid n name named keys tombstone label (d ∷ ds) rest r w)

    pub whole-line : FirstLine n keys tombstone r
    whole-line =
        let l = w.len_is in
        let c = w.count-is in
        record {
          some = omega (arith, first-within);
          within = end-within;
          label-within = omega (arith, closed_within);
          label-short = omega (arith, label-ok.1);
          sized =
              let same : n + r.len + label_key_fixed ≡ n + length label + label_key_fixed = omega arith in
              rw (taken-part n name named keys tombstone label (d ∷ ds) rest r w, keys_again n name named (map (entry label) (d ∷ ds)) (taken-valid n name named keys tombstone label (d ∷ ds) rest r w), same)
              (sized-keys n name named label label-ok.0 (d ∷ ds));
          count-is = c ∙ ap length (sym dots_are);
          all-is = λ t. dots_are ∙ w.all-is t ∙ sym all-dots;
          few = omega (arith, w.end_is, dots-few n name named label label-ok.0 (is_live tombstone) (d ∷ ds));
          short = omega (arith, w.end_is, line-short n name named label label-ok.0 (is_live tombstone) d ds);
          rest = subst (StoredKeys n) (sym (rest_part n name named keys tombstone label (d ∷ ds) rest r w))
              (stored_again n name named rest (rest-valid n name named keys tombstone label (d ∷ ds) rest r w) (up_rest (map (entry label) (d ∷ ds)) rest w.ascend));
          lines =
              ap (lines_of_live tombstone) all-entries ∙ line-lines
              ∙ ap₂ ◌++◌ (ap₂ line_if (sym label_is) (sym dots_are)) (ap (lines_of_live tombstone) (sym rest-entries));
        }

-- ---- from the first key on

-- a key of the line's label comes next
pub record AtKey (n : ℕ) (keys : Bytes) (tombstone : List Dot) (r : ListedLine) : Type 0 where
  pub name : Name
  pub named : length name ≡ n
  pub label : Label
  pub dots : List Dot
  pub dot : Dot
  pub rest : List Entry
  pub walk : LineWalk n name keys tombstone label dots (entry label dot ∷ rest) r

-- the first key's
module _ (n : ℕ) (keys : Bytes) (tombstone : List Dot) (stored : StoredKeys n keys) (more : 0 < length keys) (short : n ≤ name_most) (size : ℕ) (read : size ≡ key_end keys 0 n) where
  pub record Begun (es : List Entry) : Type 0 where
    pub long : n + label_key_fixed ≤ size
    pub at_key : AtKey n keys tombstone (record { len = size - (n + label_key_fixed); end = 0; count = 0; all = true })

  begin : (es : List Entry) → entries_in n keys ≡ es → Begun es
  unfolding keep store_bytes end_to_end
  begin [] q =
      let none : length keys ≡ 0 = ap length (sym stored.written ∙ ap (store_bytes stored.name) q) in
      absurd (omega arith)
  begin (e ∷ es) q =
      let name : Name = stored.name in
      let written : keys ≡ store_bytes name (e ∷ es) = sym stored.written ∙ ap (store_bytes name) q in
      let valid : all entry_ok (e ∷ es) ≡ true = rw q at stored.valid in
      let ok : entry_ok e ≡ true = all-member entry_ok (e ∷ es) valid e (Memᴰ.head refl) in
      let first : key_length n (drop 0 keys) ≡ n + length e.label + label_key_fixed =
      ap (key_length n) written ∙ rw (← stored.named) (key-length name e ok (store_bytes name es)) ∙ key-long n name stored.named e in
      let is : size ≡ n + length e.label + label_key_fixed = omega (arith, read, key_end_is keys 0 n more short) in
      record {
        long = omega arith;
        at_key = record {
          name = name;
          named = stored.named;
          label = e.label;
          dots = [];
          dot = e.dot;
          rest = es;
          walk = record {
            keys_are = written;
            valid = valid;
            ascend = subst (Ascending compare_entries) q stored.ascend;
            len_is = omega arith;
            end_is = refl;
            count-is = refl;
            all-is = λ t. refl;
          };
        };
      }

  pub begun : Begun (entries_in n keys)
  begun = begin (entries_in n keys) refl

-- ---- one turn

-- a key taken
pub record Taken (n : ℕ) (keys : Bytes) (tombstone : List Dot) (r : ListedLine) : Type 0 where
  pub name : Name
  pub named : length name ≡ n
  pub label : Label
  pub first : Dot
  pub dots : List Dot
  pub rest : List Entry
  pub walk : LineWalk n name keys tombstone label (first ∷ dots) rest r

some-dot : (ds : List Dot) (d : Dot) → (c : Dot) × (cs : List Dot) × (ds ++ (d ∷ []) ≡ c ∷ cs)
some-dot [] d = (d, [], refl)
some-dot (c ∷ cs) d = (c, cs ++ (d ∷ []), refl)

module _ (n : ℕ) (keys : Bytes) (tombstone : List Dot) (r : ListedLine) (k : AtKey n keys tombstone r) where
  pub key_fits : r.end + key_size n r ≤ length keys
  key_fits = key-within n k.name k.named keys tombstone k.label k.dots k.dot k.rest r k.walk

  pub not_ended : length keys ≤ r.end → ⊥
  not_ended h = omega (arith, key_fits)

  here_label : 1 ≤ length k.label
  here_label = (label-size k.name (entry k.label k.dot) (here-ok n k.name k.named keys tombstone k.label k.dots k.dot k.rest r k.walk)).0

  pub few-dots : length keys ≤ store_most → r.count ≤ store_most
  few-dots most =
      let few = dots-few n k.name k.named k.label here_label (is_live tombstone) k.dots in
      let c = k.walk.count-is in
      let e = k.walk.end_is in
      omega (arith, key_fits)

  module _ (s : ListedLine) (next : s ≡ with_key n keys tombstone r) where
    pub fewer-left : length keys - s.end < length keys - r.end
    unfolding with_key
    fewer-left = let h = key_fits in rw next (omega arith)

    taken-key : Taken n keys tombstone s
    taken-key =
        let some = some-dot k.dots k.dot in
        let walk = with-key n k.name k.named keys tombstone k.label k.dots k.dot k.rest r k.walk in
        record {
          name = k.name;
          named = k.named;
          label = k.label;
          first = some.0;
          dots = some.1;
          rest = k.rest;
          walk = rw next (subst (λ (ds : List Dot). LineWalk n k.name keys tombstone k.label ds k.rest (with_key n keys tombstone r)) some.2 walk);
        }

    pub label_closed : n + prefix_fixed + (s.len + 1) ≤ length keys
    label_closed = let t = taken-key in closed_within n t.name t.named keys tombstone t.label t.first t.dots t.rest s t.walk

    pub label-some : 1 ≤ s.len
    label-some = let t = taken-key in let l = t.walk.len_is in omega (arith, (label-ok n t.name t.named keys tombstone t.label t.first t.dots t.rest s t.walk).0)

    pub keys-within : s.end ≤ length keys
    keys-within = let t = taken-key in end-within n t.name t.named keys tombstone t.label t.first t.dots t.rest s t.walk

    module _ (on : Bool) (tested : on ≡ goes_on n keys s) where
      on-is : on ≡ first_has taken-key.label taken-key.rest
      on-is = let t = taken-key in tested ∙ goes_on_is n t.name t.named keys tombstone t.label t.first t.dots t.rest s t.walk

      pub line-ends : not on ≡ true → FirstLine n keys tombstone s
      line-ends f = let t = taken-key in whole-line n t.name t.named keys tombstone t.label t.first t.dots t.rest s t.walk (sym on-is ∙ not-true on f)

      pub line_goes_on : not on ≡ false → AtKey n keys tombstone s
      line_goes_on f = go taken-key.rest refl
        where
          go : (es : List Entry) → taken-key.rest ≡ es → AtKey n keys tombstone s
          go [] q = absurd (true≢false (sym (not-false on f) ∙ on-is ∙ ap (first_has taken-key.label) q))
          go (e ∷ es) q =
              let t = taken-key in
              let same : e.label ≡ t.label = same-label e.label t.label (sym (ap (first_has t.label) q) ∙ sym on-is ∙ not-false on f) in
              let next-is : t.rest ≡ entry t.label e.dot ∷ es = q ∙ ap (λ (l : Label). entry l e.dot ∷ es) same in
              record {
                name = t.name;
                named = t.named;
                label = t.label;
                dots = t.first ∷ t.dots;
                dot = e.dot;
                rest = es;
                walk = subst (λ (zs : List Entry). LineWalk n t.name keys tombstone t.label (t.first ∷ t.dots) zs s) next-is t.walk;
              }
