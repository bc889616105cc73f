-- One key more of the pass: what is known of the keys so far, before and after it. Assumes nothing.
use Rattle.std.proofs.Common.{◌≡◌, ℕ, ◌+◌, ◌-◌, ◌<◌, ◌≤◌, Bool, true, false, ◌⊎◌, List, length, get_or, take, drop, sym, refl, ap, ◌∙◌, inl, inr, arith, drop-drop, w8, Fits}
use Rattle.wire.specs.Lists.{is_lt}
use Rattle.wire.specs.Bytes.{Bytes, compare_bytes, number_at, starts_with}
use Rattle.wire.proofs.Tests.{decided}
use Rattle.wire.proofs.Parts.{rest_part}
use Rattle.wire.proofs.Fields.{bytes_take, bytes_drop}
use Rattle.dots.specs.Names.{Name}
use Rattle.keys.specs.Key.{prefix_fixed, suffix_size}
use Rattle.store.specs.declared.KeyTail.{KeyTail}
use Rattle.store.specs.Valid.{used_ok}
use Rattle.store.specs.Front.{front_length, after_length, FirstNumbers, TailIn, tail_of}
use Rattle.store.specs.Pass.{name_in, IsStart, MarkTells, Passing}
use Rattle.store.proofs.Front.{front-other, front-refused, front-passed}
use Rattle.store.proofs.FirstNumbers.{numbers-none, numbers-read}
use Rattle.store.proofs.LowFront.{passed_none, next-tells}
use Rattle.store.proofs.OnePass.{Bounds, bounds, started, ended, no_key_lem, out_of_order, passed, key-length, key-before}

-- before the first key
abbrev pub no_key : KeyTail
no_key = record { from = 0; end = 0; len = 0; mark = 0; word = 0; half = 0 }

module _ (name : Name) (words : List ℕ) (keys : Bytes) where
  pub passing-none : Passing name words keys no_key
  passing-none = record { tail_in = numbers-none keys; marked = λ h. absurd (h refl); decides = started name words keys; tells = λ label below. passed_none _ _ keys }

  module _ (last : KeyTail) (p : Passing name words keys last) where
    -- after the last key
    pub passing-ended : length keys ≤ last.end → used_ok name words keys ≡ true
    passing-ended h = sym (ended name words keys last.from last.end p.decides h)

    module _ (more : last.end < length keys) (len : ℕ) (read : len ≡ front_length name words (take (length keys - last.end) (drop last.end keys))) where
      pub next-bad : len ≡ 0 → used_ok name words keys ≡ false
      next-bad e = sym (no_key_lem name words keys last.from last.end p.decides more len read e)

      module _ (some : len ≡ 0 → ⊥) where
        pub next-bounds : Bounds name keys last.end len
        next-bounds = bounds name words keys last.end len read some more

        module _ (next : KeyTail) (from_is : next.from ≡ last.end + (length name + prefix_fixed)) (end_is : next.end ≡ last.end + len)
            (o : Bool) (ordered : o ≡ is_lt (compare_bytes (tail_of keys last) (tail_of keys next))) where
          tail-is : tail_of keys next ≡ take (last.end + len - (last.end + (length name + prefix_fixed))) (drop (last.end + (length name + prefix_fixed)) keys)
          tail-is = rw (from_is, end_is)

          is-ordered : o ≡ is_lt (compare_bytes (tail_of keys last) (take (last.end + len - (last.end + (length name + prefix_fixed))) (drop (last.end + (length name + prefix_fixed)) keys)))
          is-ordered = rw (← tail-is) ordered

          pub next_unordered : o ≡ false → used_ok name words keys ≡ false
          next_unordered d = sym (out_of_order name words keys last.from last.end p.decides more len read some o is-ordered d)

          pub next-sound : o ≡ true → TailIn keys next → MarkTells next.mark next.len → Passing name words keys next
          next-sound d numbers marks = record {
            tail_in = numbers;
            marked = marks;
            decides = rw (tail-is, end_is) (passed name words keys last.from last.end p.decides more len read some o is-ordered d);
            tells = λ label below. rw end_is (next-tells name label keys (tail_of keys last) _ last.end len more (key-length name words keys last.end len read some) (sym is-ordered ∙ d)
                (key-before name words keys last.end len read some label) (p.tells label) (rw tail-is at below));
          }

-- ---- a key with room for the longest, by its parts

-- what follows a place, and what follows so many bytes there, as they are lent
abbrev pub rest_at : Bytes → ℕ → Bytes
rest_at keys at = take (length keys - at) (drop at keys)

abbrev pub tail_at : Bytes → ℕ → ℕ → Bytes
tail_at keys len at = rest_at (rest_at keys len) at

module _ (start : Bytes) (words : List ℕ) (keys : Bytes) (at len : ℕ) (is : IsStart start) (size : len ≡ length start) (small : (i : ℕ) → Fits w8 (get_or keys i 0)) where
  abbrev rest : Bytes
  rest = rest_at keys at

  abbrev tail : Bytes
  tail = tail_at keys len at

  tail-rest : tail ≡ take (length rest - length start) (drop (length start) rest)
  tail-rest =
      let same : len + at ≡ at + length start = omega arith in
      rw (rest_part, rest_part, rest_part, rest_part, drop-drop, drop-drop, same)

  -- the numbers read there
  number-there : (k i : ℕ) → number_at k tail i ≡ number_at k keys (at + len + i)
  number-there k i =
      let same : len + (at + i) ≡ at + len + i = omega arith in
      rw (rest_part, rest_part, drop-drop, drop-drop, same)

  pub roomy-numbers : (end word half : ℕ) → at + len + 12 ≤ end → end ≤ length keys → word ≡ number_at 8 tail 0 → half ≡ number_at 4 tail 8 → FirstNumbers keys (at + len) end word half
  roomy-numbers end word half h l e f =
      let zero : at + len + 0 ≡ at + len = omega arith in
      numbers-read keys (at + len) end word half h l (e ∙ number-there 8 0 ∙ rw zero) (f ∙ number-there 4 8)

  bytes_rest : (i : ℕ) → Fits w8 (get_or rest i 0)
  bytes_rest i = record { fits = bytes_take (drop at keys) (length keys - at) (bytes_drop keys at (λ k. (small k).fits)) i }

  module _ (r : Bool) (begins : r ≡ starts_with start rest) where
    pub roomy-other : r ≡ false → 0 ≡ front_length (name_in start) words rest
    roomy-other = front-other (name_in start) words rest is.0 bytes_rest start is.1 r begins

    pub roomy-read : r ≡ true → (l : ℕ) → after_length words tail ≡ l + suffix_size → length start + (l + suffix_size) ≡ front_length (name_in start) words rest
    roomy-read d l e = front-passed (name_in start) words rest is.0 bytes_rest start is.1 r begins d (l + suffix_size) (sym e ∙ ap (after_length words) tail-rest) (λ z. omega arith)

  pub roomy-bad : after_length words tail ≡ 0 → 0 ≡ front_length (name_in start) words rest
  roomy-bad e = by-start (decided (starts_with start rest))
    where
      by-start : (starts_with start rest ≡ true) ⊎ (starts_with start rest ≡ false) → 0 ≡ front_length (name_in start) words rest
      by-start (inl t) = front-refused (name_in start) words rest is.0 bytes_rest start is.1 true (sym t) refl 0 (sym e ∙ ap (after_length words) tail-rest) refl
      by-start (inr f) = front-other (name_in start) words rest is.0 bytes_rest start is.1 false (sym f) refl
