-- The key that comes next in two stores of one set: no label of either is lower than its own. Assumes nothing.
use mathlib.Core.Path.{◌≡◌, refl, sym, ap, ◌∙◌, subst}
use mathlib.Core.Logic.{◌⊎◌, inl, inr}
use mathlib.Core.Bool.{Bool, true, false, not, cond}
use mathlib.Core.List.Memᴰ
use mathlib.Core.List.{List, [], ◌∷◌, ◌++◌}
use Prim.Native.Nat.{ℕ, ◌<◌, Ordering}
use native.Mathlib.Nat.{sub-zero}
use native.Mathlib.Omega.{arith}
use lib.ListN.{length, length-append}
use lib.Seq.{take_at, take-nil}
use denote.Ref.{Bor}
use borrow.Author.Tests.{lt-ltb, ne_eqb}
use Rattle.wire.specs.Lists.{◌∈◌, all, is_lt, Less, Ascending}
use Rattle.wire.specs.Bytes.{Bytes, compare_bytes}
use Rattle.wire.proofs.Tests.{both, untrue}
use Rattle.wire.proofs.Lists.{lt_is, member-all, irreflexive}
use Rattle.wire.proofs.Orders.{bytes_lawful}
use Rattle.dots.specs.Names.{Name, Label}
use Rattle.dots.specs.Entries.{Entry, compare_entries}
use Rattle.dots.proofs.Orders.{entries}
use Rattle.keys.specs.Entry.{entry_ok, entry_key}
use Rattle.keys.proofs.EntryKeys.{length_entry_key, entry-order}
use Rattle.store.specs.Cut.{end_to_end, store_bytes, key_length}
use Rattle.store.proofs.RoundTrip.{key-length}
use Rattle.store.proofs.Stretches.{lower, labels_up}
use Rattle.merge.specs.Step.{first_key, second_lower, FirstOf, Handed}

-- ---- what is handed back, as bytes

pub handed-bytes : (n : ℕ) (a b r : Bor Bytes) → Handed n a b r → r.now ≡ cond (second_lower n a.now b.now) (first_key n b.now) (first_key n a.now)
handed-bytes n a b r h = go (second_lower n a.now b.now) h
  where
    go : (c : Bool) → FirstOf c n a b r → r.now ≡ cond c (first_key n b.now) (first_key n a.now)
    go true p = p.bytes ∙ rw sub-zero
    go false p = p.bytes ∙ rw sub-zero

-- ---- one store

module _ (name : Name) (e : Entry) (es : List Entry) (ok : entry_ok e ≡ true) where
  rest-is : store_bytes name (e ∷ es) ≡ entry_key name e ++ store_bytes name es
  unfolding store_bytes end_to_end
  rest-is = refl

  first-length : key_length (length name) (store_bytes name (e ∷ es)) ≡ length (entry_key name e)
  first-length = rw rest-is (key-length name e ok (store_bytes name es))

  -- its first key is that of its first entry
  first-is : first_key (length name) (store_bytes name (e ∷ es)) ≡ entry_key name e
  first-is = rw (first-length, rest-is) (take_at (entry_key name e) (store_bytes name es) (length (entry_key name e)) refl)

  some_bytes : 0 < length (store_bytes name (e ∷ es))
  some_bytes = rw (rest-is, length-append (entry_key name e) (store_bytes name es)) (omega (arith, length_entry_key name e))

no_bytes : (name : Name) → store_bytes name [] ≡ []
unfolding store_bytes end_to_end
no_bytes name = refl

-- ---- two stores

module _ (name : Name) where
  second_is : (x : Entry) (xs : List Entry) (y : Entry) (ys : List Entry) → entry_ok x ≡ true → entry_ok y ≡ true
      → second_lower (length name) (store_bytes name (x ∷ xs)) (store_bytes name (y ∷ ys)) ≡ is_lt (compare_entries y x)
  unfolding second_lower
  second_is x xs y ys h k =
      let some-x = some_bytes name x xs h in
      let some-y = some_bytes name y ys k in
      rw (
        lt-ltb 0 (length (store_bytes name (y ∷ ys))) some-y,
        ne_eqb (length (store_bytes name (x ∷ xs))) 0 (λ e. omega arith),
        first-is name x xs h,
        first-is name y ys k,
        entry-order name y x k h,
      )

  second_alone : (y : Entry) (ys : List Entry) → entry_ok y ≡ true → second_lower (length name) (store_bytes name []) (store_bytes name (y ∷ ys)) ≡ true
  unfolding second_lower
  second_alone y ys k = let some-y = some_bytes name y ys k in rw (lt-ltb 0 (length (store_bytes name (y ∷ ys))) some-y, no_bytes name)

  first_alone : (xs : List Entry) → second_lower (length name) (store_bytes name xs) (store_bytes name []) ≡ false
  unfolding second_lower
  first_alone xs = rw (no_bytes name)

-- no entry has a lower label
abbrev pub NoneLower : Label → List Entry → Type 0
NoneLower l es = all (λ (e : Entry). not (lower l e)) es ≡ true

-- an entry that comes before another, or is it, has no higher label
not_lower : (h e : Entry) → Less compare_entries h e ⊎ (h ≡ e) → lower h.label e ≡ false
not_lower h e (inl l) = untrue (lower h.label e) (λ t. go (lt_is (compare_bytes e.label h.label) t) (labels_up h e l))
  where
    go : Less compare_bytes e.label h.label → Less compare_bytes h.label e.label ⊎ (h.label ≡ e.label) → ⊥
    go b (inl a) = irreflexive compare_bytes bytes_lawful h.label (bytes_lawful.chain h.label e.label h.label a b)
    go b (inr q) = irreflexive compare_bytes bytes_lawful e.label (subst (Less compare_bytes e.label) q b)
not_lower h e (inr q) = ap (λ (x : Entry). is_lt (compare_bytes x.label h.label)) (sym q) ∙ ap is_lt (bytes_lawful.self h.label)

none-lower : (h x : Entry) (xs : List Entry) → Ascending compare_entries (x ∷ xs) → Less compare_entries h x ⊎ (h ≡ x) → NoneLower h.label (x ∷ xs)
none-lower h x xs up low = member-all (λ (e : Entry). not (lower h.label e)) (x ∷ xs) (λ e m. ap not (not_lower h e (go e low (Memᴰ.cases_cons m))))
  where
    go : (e : Entry) → Less compare_entries h x ⊎ (h ≡ x) → (e ≡ x) ⊎ (e ∈ xs) → Less compare_entries h e ⊎ (h ≡ e)
    go e (inl l) (inl q) = inl (subst (Less compare_entries h) (sym q) l)
    go e (inl l) (inr m) = inl (entries.chain h x e l (up.0 e m))
    go e (inr p) (inl q) = inr (p ∙ sym q)
    go e (inr p) (inr m) = inl (subst (λ (z : Entry). Less compare_entries z e) (sym p) (up.0 e m))

none_in_none : (l : Label) → NoneLower l []
unfolding all
none_in_none l = refl

-- the key is that of an entry of either, and no label is lower
pub record Head (name : Name) (xs ys : List Entry) (key : Bytes) : Type 0 where
  pub head : Entry
  pub key-is : key ≡ entry_key name head
  pub ok : entry_ok head ≡ true
  pub held : (head ∈ xs) ⊎ (head ∈ ys)
  pub first-higher : NoneLower head.label xs
  pub second-higher : NoneLower head.label ys

pub record BothEnd (xs ys : List Entry) (key : Bytes) : Type 0 where
  pub first-none : xs ≡ []
  pub second_none : ys ≡ []
  pub no_key : key ≡ []

module _ (name : Name) (key : Bytes) where
  abbrev HandedKey : List Entry → List Entry → Type 0
  HandedKey xs ys =
      key ≡ cond (second_lower (length name) (store_bytes name xs) (store_bytes name ys)) (first_key (length name) (store_bytes name ys)) (first_key (length name) (store_bytes name xs))

  pub next-head : (xs ys : List Entry) → all entry_ok xs ≡ true → all entry_ok ys ≡ true → Ascending compare_entries xs → Ascending compare_entries ys → HandedKey xs ys
      → BothEnd xs ys key ⊎ Head name xs ys key
  unfolding all
  next-head [] [] v w up up' h = inl (record { first-none = refl; second_none = refl; no_key = h ∙ rw (first_alone name [], no_bytes name, take-nil) })
  next-head (x ∷ xs) [] v w up up' h =
      inr (record {
        head = x;
        key-is = h ∙ rw (first_alone name (x ∷ xs)) (first-is name x xs (search both));
        ok = search both;
        held = inl (Memᴰ.head refl);
        first-higher = none-lower x x xs up (inr refl);
        second-higher = none_in_none x.label;
      })
  next-head [] (y ∷ ys) v w up up' h =
      inr (record {
        head = y;
        key-is = h ∙ rw (second_alone name y ys (search both)) (first-is name y ys (search both));
        ok = search both;
        held = inr (Memᴰ.head refl);
        first-higher = none_in_none y.label;
        second-higher = none-lower y y ys up' (inr refl);
      })
  next-head (x ∷ xs) (y ∷ ys) v w up up' h = inr (go (compare_entries y x) refl)
    where
      is : second_lower (length name) (store_bytes name (x ∷ xs)) (store_bytes name (y ∷ ys)) ≡ is_lt (compare_entries y x)
      is = second_is name x xs y ys (search both) (search both)

      of_first : Less compare_entries x y ⊎ (x ≡ y) → is_lt (compare_entries y x) ≡ false → Head name (x ∷ xs) (y ∷ ys) key
      of_first low e = record {
        head = x;
        key-is = h ∙ rw (is, e) (first-is name x xs (search both));
        ok = search both;
        held = inl (Memᴰ.head refl);
        first-higher = none-lower x x xs up (inr refl);
        second-higher = none-lower x y ys up' low;
      }

      go : (o : Ordering) → compare_entries y x ≡ o → Head name (x ∷ xs) (y ∷ ys) key
      go Ordering.lt e = record {
        head = y;
        key-is = h ∙ rw (is, e) (first-is name y ys (search both));
        ok = search both;
        held = inr (Memᴰ.head refl);
        first-higher = none-lower y x xs up (inl e);
        second-higher = none-lower y y ys up' (inr refl);
      }
      go Ordering.eq e = of_first (inr (sym (entries.tie y x e))) (ap is_lt e)
      go Ordering.gt e = of_first (inl (entries.turn y x e)) (ap is_lt e)
