-- One pass over the used bytes decides their rules: the keys begin alike, so that each needs to be compared with the one before it only from its label on. Assumes nothing.
use Rattle.std.proofs.Common.{◌≡◌, ℕ, ◌+◌, ◌-◌, ◌<◌, ◌≤◌, Bool, true, false, cond, ◌&&◌, ◌⊎◌, List, [], ◌∷◌, ◌++◌, map, length, take, drop, sym, refl, ap, ◌∙◌, ap₂, inl, inr, append_assoc, arith, length-append, length-drop, drop_of_length-le, length-take, drop-drop, drop_at}
use Rattle.wire.specs.Lists.{all, is_lt, ascends_from, ascends}
use Rattle.wire.specs.Bytes.{Bytes, compare_bytes}
use Rattle.wire.proofs.Tests.{both, decided}
use Rattle.wire.proofs.ByteOrder.{compare_common}
use Rattle.wire.proofs.Parts.{rest_part, drop-take}
use Rattle.dots.specs.Names.{Name}
use Rattle.dots.specs.Entries.{Entry}
use Rattle.keys.specs.Entry.{prefix, suffix}
use Rattle.keys.proofs.EntryKeys.{entry_key_parts, length-prefix, length-suffix}
use Rattle.store.specs.Cut.{key_length, keys_after, keys_of, key_says}
use Rattle.store.specs.Place.{lower_than}
use Rattle.store.specs.Pass.{rest_ok}
use Rattle.store.specs.Valid.{key_ok, used_ok}
use Rattle.store.specs.Front.{front_length}
use Rattle.store.proofs.Cut.{key_length_pos, key_length_le, keys_of_step}
use Rattle.store.proofs.RoundTrip.{label-size, key-read}
use Rattle.store.proofs.FirstNumbers.{none_before}
use Rattle.keys.specs.Key.{prefix_fixed}

-- the bounds of a key: it has 12 bytes at least from its label on, and ends within the keys
pub record Bounds (name : Name) (keys : Bytes) (at len : ℕ) : Type 0 where
  pub tail_within : at + (length name + prefix_fixed) + 12 ≤ at + len
  pub end-within : at + len ≤ length keys

regroup : (a b c d : Bool) → (a && b && (c && d)) ≡ (a && (c && (b && d)))
regroup false b c d = refl
regroup true true c d = refl
regroup true false true d = refl
regroup true false false d = refl

module _ (name : Name) (words : List ℕ) where
  -- the bytes of a key from its label on
  abbrev tail : Bytes → Bytes
  tail k = drop (length name + prefix_fixed) k

  -- a key of the set is the prefix and its tail
  record Parts (k : Bytes) : Type 0 where
    whole : prefix name ++ tail k ≡ k
    more : 12 ≤ length (tail k)

  parts : (k : Bytes) → key_ok name words k ≡ true → Parts k
  parts k ok =
      let read = key-read name words k ok in
      let e : Entry = key_says (length name) k in
      let split : prefix name ++ (e.label ++ suffix e.dot) ≡ k = sym (entry_key_parts name e) ∙ read.key in
      let rest : tail k ≡ e.label ++ suffix e.dot = ap tail (sym split) ∙ drop_at (prefix name) (e.label ++ suffix e.dot) (length name + prefix_fixed) (length-prefix name) in
      record { whole = rw rest split; more = rw (rest, length-append, length-suffix) (omega (arith, (label-size name e read.valid).0)) }

  tail-order : (k l : Bytes) → key_ok name words k ≡ true → key_ok name words l ≡ true → compare_bytes k l ≡ compare_bytes (tail k) (tail l)
  tail-order k l ok ok' = ap₂ compare_bytes (sym (parts k ok).whole) (sym (parts l ok').whole) ∙ compare_common (prefix name) (tail k) (tail l)

  tails-ascend : (k : Bytes) (ks : List Bytes) → key_ok name words k ≡ true → all (key_ok name words) ks ≡ true → ascends_from compare_bytes k ks ≡ ascends_from compare_bytes (tail k) (map tail ks)
  unfolding ascends_from all
  tails-ascend k [] ok rest = refl
  tails-ascend k (l ∷ ks) ok rest = rw (tail-order k l ok (search both), tails-ascend l ks (search both) (search both))

  all_after_none : (ks : List Bytes) → all (key_ok name words) ks ≡ true → ascends compare_bytes ks ≡ ascends_from compare_bytes [] (map tail ks)
  unfolding ascends ascends_from all
  all_after_none [] ok = refl
  all_after_none (k ∷ ks) ok = rw (none_before (tail k) (omega (arith, (parts k (search both)).more))) (tails-ascend k ks (search both) (search both))

  -- the first key, and what must hold of the others after it
  rest_cons : (b k : Bytes) (ks : List Bytes) → rest_ok name words b (k ∷ ks) ≡ (key_ok name words k && (is_lt (compare_bytes b (tail k)) && rest_ok name words (tail k) ks))
  unfolding rest_ok all ascends_from
  rest_cons b k ks = regroup (key_ok name words k) (all (key_ok name words) ks) (is_lt (compare_bytes b (tail k))) (ascends_from compare_bytes (tail k) (map tail ks))

  module _ (keys : Bytes) where
    -- the key at a place, and its length
    size : ℕ → ℕ
    size at = key_length (length name) (drop at keys)

    key : ℕ → Bytes
    key at = take (size at) (drop at keys)

    pub started : used_ok name words keys ≡ rest_ok name words (take (0 - 0) (drop 0 keys)) (keys_of (length name) (drop 0 keys))
    unfolding used_ok rest_ok
    started = by-keys (decided (all (key_ok name words) ks))
      where
        ks : List Bytes
        ks = keys_of (length name) keys

        by-keys : (all (key_ok name words) ks ≡ true) ⊎ (all (key_ok name words) ks ≡ false) → (all (key_ok name words) ks && ascends compare_bytes ks) ≡ (all (key_ok name words) ks && ascends_from compare_bytes [] (map tail ks))
        by-keys (inl ok) = ap (λ (b : Bool). all (key_ok name words) ks && b) (all_after_none ks ok)
        by-keys (inr f) = rw f

    -- its length, where it is read: 0 if it breaks the rules
    len_is : (at len : ℕ) → len ≡ front_length name words (take (length keys - at) (drop at keys)) → len ≡ cond (key_ok name words (key at)) (size at) 0
    unfolding front_length key size
    len_is at len read = rw rest_part at read

    -- a key that keeps the rules
    module _ (at len : ℕ) (read : len ≡ front_length name words (take (length keys - at) (drop at keys))) (some : len ≡ 0 → ⊥) where
      passes : key_ok name words (key at) ≡ true
      passes = by-test (key_ok name words (key at)) (len_is at len read)
        where
          by-test : (b : Bool) → len ≡ cond b (size at) 0 → b ≡ true
          by-test true f = refl
          by-test false f = absurd (some f)

      is-size : len ≡ size at
      is-size = len_is at len read ∙ rw passes

      pub key-length : len ≡ key_length (length name) (drop at keys)
      unfolding size
      key-length = is-size

      pub bounds : at < length keys → Bounds name keys at len
      unfolding key size
      bounds h =
          let front : length (key at) ≤ len = rw (length-take, is-size) (omega arith) in
          record {
            tail_within = omega (arith, (parts (key at) passes).more, length-drop (length name + prefix_fixed) (key at));
            end-within = omega (arith, is-size, key_length_le (length name) (drop at keys), length-drop at keys);
          }

      -- the key from its label on, as it is lent
      tail-is : take (at + len - (at + (length name + prefix_fixed))) (drop (at + (length name + prefix_fixed)) keys) ≡ tail (key at)
      unfolding key
      tail-is =
          let left : at + len - (at + (length name + prefix_fixed)) ≡ size at - (length name + prefix_fixed) = omega (arith, is-size) in
          rw (left, drop-take (length name + prefix_fixed) (size at) (drop at keys), drop-drop (length name + prefix_fixed) at keys)

      -- a key that comes before others from its label on comes before them
      pub key-before : (label tail' : Bytes) → is_lt (compare_bytes (take (at + len - (at + (length name + prefix_fixed))) (drop (at + (length name + prefix_fixed)) keys)) (label ++ tail')) ≡ true
          → lower_than ((prefix name ++ label) ++ tail') (take len (drop at keys)) ≡ true
      unfolding key size
      key-before label tail' below =
          let whole : compare_bytes (key at) ((prefix name ++ label) ++ tail') ≡ compare_bytes (tail (key at)) (label ++ tail') =
          ap (λ (k : Bytes). compare_bytes k ((prefix name ++ label) ++ tail')) (sym (parts (key at) passes).whole) ∙ ap (compare_bytes (prefix name ++ tail (key at))) (append_assoc (prefix name) label tail') ∙ compare_common (prefix name) (tail (key at)) (label ++ tail') in
          rw is-size (ap is_lt whole ∙ rw tail-is at below)

    module _ (label at : ℕ) (inv : used_ok name words keys ≡ rest_ok name words (take (at - label) (drop label keys)) (keys_of (length name) (drop at keys))) where
      pub ended : length keys ≤ at → true ≡ used_ok name words keys
      unfolding rest_ok all ascends_from keys_after
      ended h = sym (inv ∙ rw (drop_of_length-le keys h))

      module _ (more : at < length keys) (len : ℕ) (read : len ≡ front_length name words (take (length keys - at) (drop at keys))) where
        cut : used_ok name words keys ≡ (key_ok name words (key at) && (is_lt (compare_bytes (take (at - label) (drop label keys)) (tail (key at))) && rest_ok name words (tail (key at)) (keys_of (length name) (drop (at + size at) keys))))
        unfolding key size
        cut = inv ∙ rw (keys_of_step (length name) keys at more) (rest_cons (take (at - label) (drop label keys)) (key at) (keys_of (length name) (drop (at + size at) keys)))

        pub no_key_lem : len ≡ 0 → false ≡ used_ok name words keys
        unfolding size
        no_key_lem e = sym (cut ∙ by-test (key_ok name words (key at)) (len_is at len read))
          where
            by-test : (b : Bool) → len ≡ cond b (size at) 0 → (b && (is_lt (compare_bytes (take (at - label) (drop label keys)) (tail (key at))) && rest_ok name words (tail (key at)) (keys_of (length name) (drop (at + size at) keys)))) ≡ false
            by-test true f = absurd (omega (arith, key_length_pos (length name) (drop at keys) (rw length-drop (omega arith))))
            by-test false f = refl

        module _ (some : len ≡ 0 → ⊥) (o : Bool) (ordered : o ≡ is_lt (compare_bytes (take (at - label) (drop label keys)) (take (at + len - (at + (length name + prefix_fixed))) (drop (at + (length name + prefix_fixed)) keys)))) where
          is-ordered : o ≡ is_lt (compare_bytes (take (at - label) (drop label keys)) (tail (key at)))
          is-ordered = rw (tail-is at len read some) at ordered

          pub out_of_order : o ≡ false → false ≡ used_ok name words keys
          out_of_order d = sym (cut ∙ rw (passes at len read some, ← is-ordered, d))

          pub passed : o ≡ true → used_ok name words keys ≡ rest_ok name words (take (at + len - (at + (length name + prefix_fixed))) (drop (at + (length name + prefix_fixed)) keys)) (keys_of (length name) (drop (at + len) keys))
          passed d = cut ∙ rw (passes at len read some, ← is-ordered, d, tail-is at len read some, is-size at len read some)
