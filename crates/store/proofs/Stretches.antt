-- The stretch of a label in the bytes of ascending entries: where it starts and ends, whose keys it holds, and whose come after it. Assumes nothing.
use Rattle.std.proofs.Common.{◌≡◌, ℕ, ◌+◌, ◌-◌, ◌≤◌, Bool, true, false, cond, not, ◌&&◌, leb, ◌⊎◌, List, [], ◌∷◌, ◌++◌, map, length, drop, sym, refl, ap, ◌∙◌, inl, inr, true≢false, append_assoc, append-nil, arith, length-append, drop-drop, ne_eqb, leb-true}
use mathlib.Core.List.Memᴰ
use Prim.Native.Nat.{Ordering, compare}
use lib.Dec.{compare_is_eq}
use lib.Seq.{take-append_seam, drop-append_seam}
use Rattle.wire.specs.Lists.{◌∈◌, cons_if, keep, all, then, is_lt, compare_lists, Less, Ascending}
use Rattle.wire.specs.Bytes.{Bytes, big_endian, compare_bytes, part_at, starts_with}
use Rattle.wire.proofs.Tests.{both, untrue, pass, holds}
use Rattle.wire.proofs.Lists.{lt_is, tie-is, keep-member, keep_all, all-member, member-all, ascending-keep, irreflexive}
use Rattle.wire.proofs.Orders.{bytes_lawful, then_lt}
use Rattle.wire.proofs.ByteOrder.{compare_common, compare_ended, starts_common}
use Rattle.dots.specs.declared.Dot.{Dot}
use Rattle.dots.specs.Names.{Name, Label, label_most, label_ok}
use Rattle.dots.specs.Dots.{compare_dots}
use Rattle.dots.specs.Entries.{Entry, compare_entries}
use Rattle.dots.proofs.Orders.{entries}
use Rattle.keys.specs.Entry.{entry_ok, entry_key, prefix, suffix}
use Rattle.keys.proofs.Texts.{text_nonzero}
use Rattle.keys.proofs.EntryKeys.{entry_key_parts}
use Rattle.store.specs.Cut.{end_to_end, store_bytes}
use Rattle.store.specs.Place.{length_while, lower_than, label_start, stretch_start, stretch_end}
use Rattle.store.proofs.RoundTrip.{keys-written, store-append}

-- ---- a test that fails for all after one for which it fails

module _ {A : Type 0} where
  abbrev pub FrontOnly : (A → Bool) → List A → Type 0
  FrontOnly p [] = Unit {0}
  FrontOnly p (x ∷ xs) = (p x ≡ false → (y : A) → y ∈ xs → p y ≡ false) × FrontOnly p xs

  keep-none : (p : A → Bool) (xs : List A) → ((y : A) → y ∈ xs → p y ≡ false) → keep p xs ≡ []
  unfolding keep
  keep-none p [] none = refl
  keep-none p (x ∷ xs) none = rw (none x (Memᴰ.head refl)) (keep-none p xs (λ y m. none y (Memᴰ.tail m)))

  -- such a list is what passes, and then what does not
  pub keep-front : (p : A → Bool) (xs : List A) → FrontOnly p xs → keep p xs ++ keep (λ (x : A). not (p x)) xs ≡ xs
  unfolding keep
  keep-front p [] front = refl
  keep-front p (x ∷ xs) front = by-test (p x) refl (keep-front p xs front.1)
    where
      by-test : (b : Bool) → p x ≡ b → keep p xs ++ keep (λ (y : A). not (p y)) xs ≡ xs → cons_if b x (keep p xs) ++ cons_if (not b) x (keep (λ (y : A). not (p y)) xs) ≡ x ∷ xs
      by-test true e rest = ap (λ (t : List A). x ∷ t) rest
      by-test false e rest = let none : (y : A) → y ∈ xs → p y ≡ false = front.0 e in rw (keep-none p xs none, keep_all (λ (y : A). not (p y)) xs (λ y m. ap not (none y m)))

  -- what passes one test and then another
  pub keep-keep : (p q r : A → Bool) → ((x : A) → r x ≡ (p x && q x)) → (xs : List A) → keep r xs ≡ keep q (keep p xs)
  unfolding keep
  keep-keep p q r both [] = refl
  keep-keep p q r both (x ∷ xs) = rw (both x, keep-keep p q r both xs) (by-test (p x))
    where
      by-test : (b : Bool) → cons_if (b && q x) x (keep q (keep p xs)) ≡ keep q (cons_if b x (keep p xs))
      by-test true = refl
      by-test false = refl

  pub all_keep : (p q : A → Bool) (xs : List A) → all q xs ≡ true → all q (keep p xs) ≡ true
  all_keep p q xs h = member-all q (keep p xs) (λ x m. all-member q xs h x (keep-member p xs m).0)

-- ---- the keys at the front that pass a test, as entries

module _ (name : Name) (test : Bytes → Bool) (p : Entry → Bool) (same : (e : Entry) → entry_ok e ≡ true → test (entry_key name e) ≡ p e) where
  pub while_kept : (es : List Entry) → all entry_ok es ≡ true → FrontOnly p es → length_while test (map (entry_key name) es) ≡ length (store_bytes name (keep p es))
  unfolding length_while store_bytes end_to_end keep all
  while_kept [] valid front = refl
  while_kept (e ∷ es) valid front = rw (same e (search both)) (by-test (p e) refl (while_kept es (search both) front.1))
    where
      by-test : (b : Bool) → p e ≡ b → length_while test (map (entry_key name) es) ≡ length (store_bytes name (keep p es))
          → cond b (length (entry_key name e) + length_while test (map (entry_key name) es)) 0 ≡ length (store_bytes name (cons_if b e (keep p es)))
      by-test true h rest = rw (rest, length-append)
      by-test false h rest = rw (keep-none p es (front.0 h))

-- ---- labels and the keys' bytes

-- a text with its closing 0 begins what a text with its closing 0 begins if the texts are the same
pub begins-ended : (l m t : Bytes) → all (leb 1) l ≡ true → all (leb 1) m ≡ true → starts_with (m ++ (0 ∷ [])) (l ++ (0 ∷ t)) ≡ compare_is_eq (compare_bytes l m)
unfolding starts_with compare_lists all
begins-ended [] [] t h k = refl
begins-ended [] (y ∷ m) t h k = let low : 1 ≤ y = leb-true 1 y (search both) in rw (ne_eqb 0 y (λ e. omega arith))
begins-ended (x ∷ l) [] t h k = let low : 1 ≤ x = leb-true 1 x (search both) in rw (ne_eqb x 0 (λ e. omega arith))
begins-ended (x ∷ l) (y ∷ m) t h k = rw (begins-ended l m t (search both) (search both)) (by_order (compare x y))
  where
    by_order : (o : Ordering) → (compare_is_eq o && compare_is_eq (compare_bytes l m)) ≡ compare_is_eq (then o (compare_bytes l m))
    by_order Ordering.lt = refl
    by_order Ordering.eq = refl
    by_order Ordering.gt = refl

-- labels of ascending entries
pub labels_up : (e f : Entry) → Less compare_entries e f → Less compare_bytes e.label f.label ⊎ (e.label ≡ f.label)
labels_up e f h = by_cases (then_lt (compare_bytes e.label f.label) (compare_dots e.dot f.dot) h)
  where
    by_cases : Less compare_bytes e.label f.label ⊎ ((compare_bytes e.label f.label ≡ Ordering.eq) × (compare_dots e.dot f.dot ≡ Ordering.lt)) → Less compare_bytes e.label f.label ⊎ (e.label ≡ f.label)
    by_cases (inl l) = inl l
    by_cases (inr t) = inr (bytes_lawful.tie e.label f.label t.0)

module _ (label : Label) where
  abbrev pub lower : Entry → Bool
  lower e = is_lt (compare_bytes e.label label)

  abbrev pub same : Entry → Bool
  same e = compare_is_eq (compare_bytes e.label label)

  module _ (name : Name) (ok : label_ok label ≡ true) (e : Entry) (valid : entry_ok e ≡ true) where
    lower-key : lower_than (label_start name label) (entry_key name e) ≡ lower e
    unfolding label_start suffix compare_lists entry_ok
    lower-key =
        let d : Dot = e.dot in
        rw entry_key_parts
        (ap is_lt (compare_common (prefix name) (e.label ++ suffix d) (label ++ (0 ∷ []))
        ∙ compare_ended e.label label (d.actor.number ∷ 0 ∷ big_endian 8 d.counter.number) [] (text_nonzero label_most e.label (search both)) (text_nonzero label_most label ok))
        ∙ by_order (compare_bytes e.label label))
      where
        by_order : (o : Ordering) → is_lt (then o Ordering.gt) ≡ is_lt o
        by_order Ordering.lt = refl
        by_order Ordering.eq = refl
        by_order Ordering.gt = refl

    -- whatever follows the key
    pub begins-key : (t : Bytes) → starts_with (label_start name label) (entry_key name e ++ t) ≡ same e
    unfolding label_start suffix entry_ok
    begins-key t =
        let d : Dot = e.dot in
        let more : Bytes = d.actor.number ∷ 0 ∷ (big_endian 8 d.counter.number ++ t) in
        let parts : entry_key name e ++ t ≡ prefix name ++ (e.label ++ (0 ∷ more)) = rw (entry_key_parts, append_assoc, append_assoc) in
        rw (parts, starts_common (prefix name) (label ++ (0 ∷ [])) (e.label ++ (0 ∷ more)))
        (begins-ended e.label label more (text_nonzero label_most e.label (search both)) (text_nonzero label_most label ok))

    pub begins_alone : starts_with (label_start name label) (entry_key name e) ≡ same e
    begins_alone = ap (starts_with (label_start name label)) (sym (append-nil (entry_key name e))) ∙ begins-key []

  -- ---- entries of lower labels, and of the label

  lower-front : (es : List Entry) → Ascending compare_entries es → FrontOnly lower es
  lower-front [] up = tt
  lower-front (e ∷ es) up = (λ f y m. untrue (lower y) (λ t. below f y t (labels_up e y (up.0 y m))), lower-front es up.1)
    where
      below : lower e ≡ false → (y : Entry) → lower y ≡ true → Less compare_bytes e.label y.label ⊎ (e.label ≡ y.label) → ⊥
      below f y t (inl l) = true≢false (sym (ap is_lt (bytes_lawful.chain e.label y.label label l (lt_is (compare_bytes y.label label) t))) ∙ f)
      below f y t (inr q) = true≢false (sym t ∙ ap (λ (l : Label). is_lt (compare_bytes l label)) (sym q) ∙ f)

  pub same-front : (es : List Entry) → Ascending compare_entries es → all (λ (e : Entry). not (lower e)) es ≡ true → FrontOnly same es
  unfolding all
  same-front [] up none = tt
  same-front (e ∷ es) up none = (λ f y m. untrue (same y) (λ t. there f y t (labels_up e y (up.0 y m))), same-front es up.1 (search both))
    where
      is-label : (y : Entry) → same y ≡ true → y.label ≡ label
      is-label y t = bytes_lawful.tie y.label label (tie-is (compare_bytes y.label label) (pass t))

      there : same e ≡ false → (y : Entry) → same y ≡ true → Less compare_bytes e.label y.label ⊎ (e.label ≡ y.label) → ⊥
      there f y t (inl l) = let first : not (lower e) ≡ true = search both in true≢false (sym first ∙ ap not (ap is_lt (ap (compare_bytes e.label) (sym (is-label y t)) ∙ l)))
      there f y t (inr q) = true≢false (sym t ∙ ap (λ (l : Label). compare_is_eq (compare_bytes l label)) (sym q) ∙ f)

  -- those of the label are not lower, and those that are neither are after it
  same_not_lower : (e : Entry) → same e ≡ (not (lower e) && same e)
  same_not_lower e = by_order (compare_bytes e.label label)
    where
      by_order : (o : Ordering) → compare_is_eq o ≡ (not (is_lt o) && compare_is_eq o)
      by_order Ordering.lt = refl
      by_order Ordering.eq = refl
      by_order Ordering.gt = refl

  after_neither : (e : Entry) → is_lt (compare_bytes label e.label) ≡ (not (lower e) && not (same e))
  after_neither e = by_order (compare_bytes e.label label) refl
    where
      by_order : (o : Ordering) → compare_bytes e.label label ≡ o → is_lt (compare_bytes label e.label) ≡ (not (is_lt o) && not (compare_is_eq o))
      by_order Ordering.lt q = untrue _ (λ t. irreflexive compare_bytes bytes_lawful e.label (bytes_lawful.chain e.label label e.label q (lt_is _ t)))
      by_order Ordering.eq q = rw (bytes_lawful.tie e.label label q, bytes_lawful.self label)
      by_order Ordering.gt q = rw (bytes_lawful.turn e.label label q)

  -- ---- the stretch

  module _ (name : Name) (ok : label_ok label ≡ true) (es : List Entry) (valid : all entry_ok es ≡ true) (up : Ascending compare_entries es) where
    -- the entries from the stretch on, and its own
    later : List Entry
    later = keep (λ (e : Entry). not (lower e)) es

    later-valid : all entry_ok later ≡ true
    unfolding later
    later-valid = all_keep (λ (e : Entry). not (lower e)) entry_ok es valid

    later-front : FrontOnly same later
    unfolding later
    later-front = same-front later (ascending-keep compare_entries entries (λ (e : Entry). not (lower e)) es up) (member-all (λ (e : Entry). not (lower e)) later (λ e m. holds _ (keep-member (λ (x : Entry). not (lower x)) es m).1))

    same-later : keep same later ≡ keep same es
    unfolding later
    same-later = sym (keep-keep (λ (e : Entry). not (lower e)) same same same_not_lower es)

    pub stretch-start : stretch_start name label (store_bytes name es) ≡ length (store_bytes name (keep (λ (e : Entry). is_lt (compare_bytes e.label label)) es))
    unfolding stretch_start
    stretch-start = rw (keys-written name es valid) (while_kept name (lower_than (label_start name label)) lower (lower-key name ok) es valid (lower-front es up))

    from_start : drop (stretch_start name label (store_bytes name es)) (store_bytes name es) ≡ store_bytes name later
    unfolding later
    from_start =
        let split : store_bytes name es ≡ store_bytes name (keep lower es) ++ store_bytes name later = ap (store_bytes name) (sym (keep-front lower es (lower-front es up))) ∙ store-append name (keep lower es) later in
        rw (stretch-start, split) (drop-append_seam (store_bytes name (keep lower es)) (store_bytes name later))

    pub stretch-end : stretch_end name label (store_bytes name es)
        ≡ stretch_start name label (store_bytes name es) + length (store_bytes name (keep (λ (e : Entry). compare_is_eq (compare_bytes e.label label)) es))
    unfolding stretch_end
    stretch-end =
        ap (λ (n : ℕ). stretch_start name label (store_bytes name es) + n)
        (rw (from_start, keys-written name later later-valid, while_kept name (starts_with (label_start name label)) same (begins_alone name ok) later later-valid later-front, same-later))

    -- the stretch, and what follows it
    own-rest : store_bytes name later ≡ store_bytes name (keep same later) ++ store_bytes name (keep (λ (e : Entry). not (same e)) later)
    own-rest = ap (store_bytes name) (sym (keep-front same later later-front)) ∙ store-append name (keep same later) (keep (λ (e : Entry). not (same e)) later)

    pub stretch-bytes : part_at (store_bytes name es) (stretch_start name label (store_bytes name es)) (stretch_end name label (store_bytes name es) - stretch_start name label (store_bytes name es))
        ≡ store_bytes name (keep (λ (e : Entry). compare_is_eq (compare_bytes e.label label)) es)
    stretch-bytes =
        let size : stretch_end name label (store_bytes name es) - stretch_start name label (store_bytes name es) ≡ length (store_bytes name (keep same later)) = rw (stretch-end, same-later) (omega arith) in
        rw (from_start, size, own-rest, take-append_seam) (ap (store_bytes name) same-later)

    -- past it come the keys of the labels after it
    pub past-stretch : drop (stretch_end name label (store_bytes name es)) (store_bytes name es) ≡ store_bytes name (keep (λ (e : Entry). is_lt (compare_bytes label e.label)) es)
    unfolding later
    past-stretch =
        let end : drop (stretch_end name label (store_bytes name es)) (store_bytes name es) ≡ drop (length (store_bytes name (keep same later))) (drop (stretch_start name label (store_bytes name es)) (store_bytes name es)) =
        rw (stretch-end, same-later, drop-drop) in
        rw (end, from_start, own-rest, drop-append_seam)
        (ap (store_bytes name) (sym (keep-keep (λ (e : Entry). not (lower e)) (λ (e : Entry). not (same e)) (λ (e : Entry). is_lt (compare_bytes label e.label)) after_neither es)))
