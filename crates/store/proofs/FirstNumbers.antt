-- The order of bytes by the numbers in their first 8 bytes and in the next 4, where these differ; no bytes come first. Assumes nothing.
use Rattle.std.proofs.Common.{◌≡◌, ℕ, ◌+◌, ◌-◌, ◌<◌, ◌≤◌, Bool, true, false, cond, eqb, ltb, [], ◌∷◌, length, get_or, take, drop, sym, refl, ap, ◌∙◌, add-zero, arith, take-take, drop-drop, w8, Fits, lt-ltb, eqb-true}
use Prim.Native.Nat.{compare}
use native.Mathlib.Decide.{dec_lt}
use borrow.Author.Tests.{eqb-false}
use Rattle.wire.specs.Lists.{then, is_lt, compare_lists}
use Rattle.wire.specs.Bytes.{Bytes, AreBytes, compare_bytes, number_at, from_big_endian}
use Rattle.wire.proofs.Orders.{numbers-self, is_lt_differs}
use Rattle.wire.proofs.Parts.{drop-take}
use Rattle.wire.proofs.Fields.{bytes_take, bytes_drop, part_length}
use Rattle.wire.proofs.Words.{compare_words}
use Rattle.store.specs.Front.{FirstNumbers}

-- no bytes come before all that are some
pub none_before : (s : Bytes) → 0 < length s → is_lt (compare_bytes [] s) ≡ true
unfolding compare_lists
none_before [] h = absurd (omega arith)
none_before (b ∷ s) h = refl

-- a number in a part is the one in the whole
pub number-part : (s : Bytes) (at len k i : ℕ) → i + k ≤ len → number_at k (take len (drop at s)) i ≡ number_at k s (at + i)
number-part s at len k i h = rw (drop-take i len (drop at s), drop-drop i at s, take-take k (len - i) (drop (at + i) s) (omega arith))

-- the numbers read at a place
pub numbers-read : (s : Bytes) (from to word half : ℕ) → from + 12 ≤ to → to ≤ length s → word ≡ number_at 8 s from → half ≡ number_at 4 s (from + 8) → FirstNumbers s from to word half
numbers-read s from to word half h l e f =
    record {
      order = omega arith;
      within = l;
      long = λ _. h;
      first = e ∙ sym (rw add-zero at (number-part s from (to - from) 8 0 (omega arith)));
      second = f ∙ sym (number-part s from (to - from) 4 8 (omega arith));
    }

-- no bytes, and the numbers 0
pub numbers-none : (s : Bytes) → FirstNumbers s 0 0 0 0
unfolding from_big_endian
numbers-none s = record { order = omega arith; within = omega arith; long = λ h. absurd (omega arith); first = refl; second = refl }

-- bytes that are some have room for both
pub tail-room : (s : Bytes) (from to word half : ℕ) → FirstNumbers s from to word half → (from ≡ to → ⊥) → from + 8 ≤ to
tail-room s from to word half n h = omega (arith, n.long (omega (arith, n.order, h)))

pub tail-some : (s : Bytes) (from to word half : ℕ) → FirstNumbers s from to word half → from < to → from + 8 ≤ to
tail-some s from to word half n h = omega (arith, n.long h)

some-long : (s : Bytes) (from to word half : ℕ) → FirstNumbers s from to word half → from < to → 12 ≤ length (take (to - from) (drop from s))
some-long s from to word half n h = rw (part_length s from (to - from) (omega arith)) (omega (arith, n.long h))

-- bytes that have both numbers are ordered by them, then by the rest
by-numbers : (a b : Bytes) → AreBytes a → AreBytes b → 12 ≤ length a → 12 ≤ length b
    → compare_bytes a b ≡ then (compare (number_at 8 a 0) (number_at 8 b 0)) (then (compare (number_at 4 a 8) (number_at 4 b 8)) (compare_bytes (drop 12 a) (drop 12 b)))
by-numbers a b p q h l = compare_words a b p q 8 0 (omega arith) (omega arith) ∙ rw (compare_words a b p q 4 8 h l)

module _ (s : Bytes) (small : (i : ℕ) → Fits w8 (get_or s i 0)) (label at next end word half word' half' : ℕ)
    (old : FirstNumbers s label at word half) (new : FirstNumbers s next end word' half') (some : next < end)
    (low high : ℕ) (is-low : low ≡ cond (eqb word word') half word) (is-high : high ≡ cond (eqb word word') half' word') (d : low ≡ high → ⊥) where
  a : Bytes
  a = take (at - label) (drop label s)

  b : Bytes
  b = take (end - next) (drop next s)

  are_bytes : (i n : ℕ) → AreBytes (take n (drop i s))
  are_bytes i n = bytes_take (drop i s) n (bytes_drop s i (λ k. (small k).fits))

  -- the bytes before are none
  after_none : at ≤ label → ltb low high ≡ is_lt (compare_bytes a b)
  unfolding a b from_big_endian
  after_none h =
      let none : at - label ≡ 0 = omega arith in
      let no_word : word ≡ 0 = old.first ∙ rw none in
      let no-half : half ≡ 0 = old.second ∙ rw none in
      let no-low : low ≡ 0 = is-low ∙ by-test (eqb word word') no_word no-half in
      lt-ltb low high (omega (arith, d)) ∙ sym (rw none (none_before b (omega (arith, some-long s next end word' half' new some))))
    where
      by-test : (t : Bool) → word ≡ 0 → half ≡ 0 → cond t half word ≡ 0
      by-test true e f = f
      by-test false e f = e

  -- the bytes before are 12 at least
  after-some : label < at → ltb low high ≡ is_lt (compare_bytes a b)
  unfolding a b
  after-some h = sym (ap is_lt ordered ∙ by-test (eqb word word') refl)
    where
      ordered : compare_bytes a b ≡ then (compare word word') (then (compare half half') (compare_bytes (drop 12 a) (drop 12 b)))
      ordered = rw (old.first, old.second, new.first, new.second) (by-numbers a b (are_bytes label (at - label)) (are_bytes next (end - next)) (some-long s label at word half old h) (some-long s next end word' half' new some))

      by-test : (t : Bool) → eqb word word' ≡ t → is_lt (then (compare word word') (then (compare half half') (compare_bytes (drop 12 a) (drop 12 b)))) ≡ ltb low high
      by-test true e =
          let is-half : low ≡ half = is-low ∙ rw e in
          let is-half' : high ≡ half' = is-high ∙ rw e in
          rw (eqb-true word word' e, numbers-self, is-half, is-half') (is_lt_differs half half' _ (λ q. d (is-half ∙ q ∙ sym is-half')))
      by-test false e =
          let is_word : low ≡ word = is-low ∙ rw e in
          let is-word' : high ≡ word' = is-high ∙ rw e in
          rw (is_word, is-word') (is_lt_differs word word' _ (eqb-false word word' e))

  pub numbers-decide : ltb low high ≡ is_lt (compare_bytes (take (at - label) (drop label s)) (take (end - next) (drop next s)))
  unfolding a b
  numbers-decide = elim (dec_lt label at) [
    | yes h ↦ after-some h
    | no h ↦ after_none (omega arith)
  ]

-- where the numbers are equal, the bytes after the first 8 decide
module _ (s : Bytes) (small : (i : ℕ) → Fits w8 (get_or s i 0)) (label at next end word half word' half' : ℕ)
    (old : FirstNumbers s label at word half) (new : FirstNumbers s next end word' half') (some : next < end)
    (low high : ℕ) (is-low : low ≡ cond (eqb word word') half word) (is-high : high ≡ cond (eqb word word') half' word') (d : low ≡ high) where
  same_word : word ≡ word'
  same_word = by-test (eqb word word') refl
    where
      by-test : (t : Bool) → eqb word word' ≡ t → word ≡ word'
      by-test true e = eqb-true word word' e
      by-test false e = sym (is-low ∙ rw e) ∙ d ∙ is-high ∙ rw e

  -- what follows the first 8 bytes of a part
  later : (i j : ℕ) → take (j - (i + 8)) (drop (i + 8) s) ≡ drop 8 (take (j - i) (drop i s))
  later i j = let left : j - (i + 8) ≡ j - i - 8 = omega arith in rw (left, drop-take 8 (j - i) (drop i s), drop-drop 8 i s)

  pub rest-decides : (label ≡ at → ⊥) → (r : Bool) → r ≡ is_lt (compare_bytes (take (at - (label + 8)) (drop (label + 8) s)) (take (end - (next + 8)) (drop (next + 8) s)))
      → r ≡ is_lt (compare_bytes (take (at - label) (drop label s)) (take (end - next) (drop next s)))
  rest-decides h r e =
      let more : label < at = omega (arith, old.order, h) in
      let bytes-at : (i n : ℕ) → AreBytes (take n (drop i s)) = λ i n. bytes_take (drop i s) n (bytes_drop s i (λ k. (small k).fits)) in
      let a : Bytes = take (at - label) (drop label s) in
      let b : Bytes = take (end - next) (drop next s) in
      let first : compare_bytes a b ≡ then (compare word word') (compare_bytes (drop 8 a) (drop 8 b)) =
      rw (old.first, new.first) (compare_words a b (bytes-at label (at - label)) (bytes-at next (end - next)) 8 0 (omega (arith, some-long s label at word half old more)) (omega (arith, some-long s next end word' half' new some))) in
      e ∙ rw (later label at, later next end) (sym (ap is_lt first ∙ rw (same_word, numbers-self)))

  pub after_none_first : label ≡ at → true ≡ is_lt (compare_bytes (take (at - label) (drop label s)) (take (end - next) (drop next s)))
  after_none_first e =
      let none : at - label ≡ 0 = omega arith in
      sym (rw none (none_before (take (end - next) (drop next s)) (omega (arith, some-long s next end word' half' new some))))
