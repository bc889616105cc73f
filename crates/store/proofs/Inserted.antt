-- A key put at its place makes the bytes of the entries with its entry inserted. Assumes nothing.
use Rattle.std.proofs.Common.{◌≡◌, ℕ, ◌+◌, ◌-◌, ◌≤◌, Bool, true, false, cond, ◌||◌, List, [], ◌∷◌, ◌++◌, map, length, take, drop, sym, refl, ap, ◌∙◌, true≢false, append_assoc, arith, length-append, take-append-drop, length-take, length-take-le, take-take, take_at, drop_at}
use Prim.Native.Nat.{Ordering}
use lib.Dec.{compare_is_eq}
use lib.Seq.{take-append-add, drop-append-add}
use Rattle.wire.specs.Lists.{◌∈◌, all, is_lt, place, member, insert}
use Rattle.wire.specs.Bytes.{Bytes, inserted_at}
use Rattle.wire.proofs.Tests.{both, untrue, pass}
use Rattle.wire.proofs.Lists.{member-sound}
use Rattle.wire.proofs.Parts.{drop-take}
use Rattle.dots.specs.Names.{Name}
use Rattle.dots.specs.Entries.{Entry, compare_entries}
use Rattle.dots.proofs.Orders.{entries}
use Rattle.keys.specs.Entry.{entry_ok, entry_key}
use Rattle.keys.proofs.EntryKeys.{length_entry_key, entry-order}
use Rattle.store.specs.Cut.{end_to_end, store_bytes, keys_of}
use Rattle.store.specs.Place.{length_while, lower_than, place_in, inserted_entry}
use Rattle.store.proofs.Cut.{end_to_end_keys_of}
use Rattle.store.proofs.RoundTrip.{keys-written}
use Rattle.store.proofs.Placed.{not_lower}
use Rattle.keys.specs.Key.{label_key_fixed}

-- the keys at the front that pass a test end within the bytes
pub while_within : (test : Bytes → Bool) (ks : List Bytes) → length_while test ks ≤ length (end_to_end ks)
unfolding length_while end_to_end
while_within test [] = omega arith
while_within test (k ∷ ks) = rw length-append (by-test (test k) (while_within test ks))
  where
    by-test : (b : Bool) → length_while test ks ≤ length (end_to_end ks) → cond b (length k + length_while test ks) 0 ≤ length k + length (end_to_end ks)
    by-test true h = omega arith
    by-test false h = omega arith

module _ (name : Name) (e : Entry) (ok : entry_ok e ≡ true) where
  -- where the key of e goes among the keys of entries
  place_among : List Entry → ℕ
  place_among es = place_in (entry_key name e) (map (entry_key name) es)

  put_among : (es : List Entry) → all entry_ok es ≡ true → member compare_entries e es ≡ false
      → take (place_among es) (store_bytes name es) ++ (entry_key name e ++ drop (place_among es) (store_bytes name es)) ≡ store_bytes name (insert compare_entries e es)
  unfolding place_among length_while store_bytes end_to_end insert member all
  put_among [] valid new = refl
  put_among (x ∷ es) valid new =
      rw (entry-order name x e (search both) ok) (by_order (compare_entries e x) refl new (put_among es (search both)))
    where
      k : Bytes
      k = entry_key name x

      by_order : (o : Ordering) → compare_entries e x ≡ o → (compare_is_eq o || member compare_entries e es) ≡ false
          → (member compare_entries e es ≡ false → take (place_among es) (store_bytes name es) ++ (entry_key name e ++ drop (place_among es) (store_bytes name es)) ≡ store_bytes name (insert compare_entries e es))
          → take (cond (is_lt (compare_entries x e)) (length k + place_among es) 0) (k ++ store_bytes name es) ++ (entry_key name e ++ drop (cond (is_lt (compare_entries x e)) (length k + place_among es) 0) (k ++ store_bytes name es))
          ≡ store_bytes name (place o e x es (insert compare_entries e es))
      by_order Ordering.lt h f below = rw (not_lower compare_entries entries e x h)
      by_order Ordering.eq h f below = absurd (true≢false f)
      by_order Ordering.gt h f below =
          rw (entries.turn e x h, take-append-add k (store_bytes name es) (place_among es), drop-append-add k (store_bytes name es) (place_among es), append_assoc)
          (ap (λ (t : Bytes). k ++ t) (below f))

  module _ (es : List Entry) (valid : all entry_ok es ≡ true) (new : e ∈ es → ⊥) where
    p : ℕ
    p = place_in (entry_key name e) (keys_of (length name) (store_bytes name es))

    -- the used bytes with the key at its place
    pub key-inserted : take (place_in (entry_key name e) (keys_of (length name) (store_bytes name es))) (store_bytes name es)
        ++ (entry_key name e ++ drop (place_in (entry_key name e) (keys_of (length name) (store_bytes name es))) (store_bytes name es))
        ≡ store_bytes name (insert compare_entries e es)
    unfolding place_among
    key-inserted =
        rw (keys-written name es valid) (put_among es valid (untrue (member compare_entries e es) (λ t. new (member-sound compare_entries entries es (pass t)))))

    pub length_inserted : length (store_bytes name (insert compare_entries e es)) ≡ length (store_bytes name es) + (length name + length e.label + label_key_fixed)
    unfolding p
    length_inserted =
        let bytes : Bytes = store_bytes name es in
        let parts : length (take p bytes) + length (drop p bytes) ≡ length bytes = sym (length-append (take p bytes) (drop p bytes)) ∙ ap length (take-append-drop p bytes) in
        sym (ap length key-inserted) ∙ rw (length-append, length-append, length_entry_key) (omega arith)

    -- the whole store: the used bytes, and the rest as it was
    module _ (store : Bytes) (used : ℕ) (held : take used store ≡ store_bytes name es) where
      pub entry_inserted : inserted_entry name store used e ≡ store_bytes name (insert compare_entries e es) ++ drop (used + (length name + length e.label + label_key_fixed)) store
      unfolding inserted_at p
      entry_inserted =
          let within : p ≤ used = omega (arith, while_within (lower_than (entry_key name e)) (keys_of (length name) (store_bytes name es)), ap length (end_to_end_keys_of (length name) (store_bytes name es)), ap length held, length-take used store) in
          let before : take p store ≡ take p (store_bytes name es) = sym (take-take p used store within) ∙ ap (take p) held in
          let after : take (used - p) (drop p store) ≡ drop p (store_bytes name es) = sym (drop-take p used store) ∙ ap (drop p) held in
          rw (held, before, after, length_entry_key, ← append_assoc (entry_key name e), ← append_assoc (take p (store_bytes name es)), key-inserted)

      module _ (fits : used ≤ length store) where
        size : length (store_bytes name (insert compare_entries e es)) ≡ used + (length name + length e.label + label_key_fixed)
        size = length_inserted ∙ rw (← held, length-take-le used store fits)

        pub inserted-used : take (used + (length name + length e.label + label_key_fixed)) (inserted_entry name store used e) ≡ store_bytes name (insert compare_entries e es)
        inserted-used = rw entry_inserted (take_at (store_bytes name (insert compare_entries e es)) (drop (used + (length name + length e.label + label_key_fixed)) store) (used + (length name + length e.label + label_key_fixed)) size)

        pub inserted-rest : drop (used + (length name + length e.label + label_key_fixed)) (inserted_entry name store used e) ≡ drop (used + (length name + length e.label + label_key_fixed)) store
        inserted-rest = rw entry_inserted (drop_at (store_bytes name (insert compare_entries e es)) (drop (used + (length name + length e.label + label_key_fixed)) store) (used + (length name + length e.label + label_key_fixed)) size)
