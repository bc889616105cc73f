-- Byte order of two lists with a common start: what follows it decides, by words, and where one list ends there, the lengths.
-- Assumes nothing.
use Rattle.std.proofs.Common.{◌≡◌, ℕ, ◌+◌, ◌≤◌, min, false, ltb, List, [], ◌∷◌, length, get_or, take, drop, sym, refl, ap, ◌∙◌, ap₂, arith, take-append-drop, drop_of_length-le, take-take, take-add, w8, Fits, le-ltb, lt-ltb}
use native.Mathlib.Decide.{dec_lt}
use Rattle.wire.specs.Lists.{is_lt, compare_lists}
use Rattle.wire.specs.Bytes.{compare_bytes, big_endian, from_big_endian, number_at}
use Rattle.wire.proofs.Orders.{is_lt_differs}
use Rattle.wire.proofs.Parts.{drop-step}
use Rattle.wire.proofs.BigEndian.{big_endian-from}
use Rattle.wire.proofs.ByteOrder.{compare_common}
use Rattle.wire.proofs.Words.{compare_words, same-part}

-- nothing comes before the empty list
pub none-lower : (l : List ℕ) → is_lt (compare_bytes l []) ≡ false
unfolding compare_lists
none-lower [] = refl
none-lower (x ∷ l) = refl

module _ (a b : List ℕ) (i : ℕ) (same : take i a ≡ take i b) where
  pub shorter_start : (j : ℕ) → j ≤ i → take j a ≡ take j b
  shorter_start j h = sym (take-take j i a h) ∙ ap (take j) same ∙ take-take j i b h

  rests : compare_bytes a b ≡ compare_bytes (drop i a) (drop i b)
  rests = ap₂ compare_bytes (sym (take-append-drop i a)) (sym (take-append-drop i b) ∙ rw (← same)) ∙ compare_common (take i a) (drop i a) (drop i b)

  -- the words after it
  module _ (p : (k : ℕ) → Fits w8 (get_or a k 0)) (q : (k : ℕ) → Fits w8 (get_or b k 0)) (n x y : ℕ) (m : n ≡ min (length a) (length b)) (h : i + 8 ≤ n) (e : x ≡ number_at 8 a i) (f : y ≡ number_at 8 b i) where
    pub words-decide : (x ≡ y → ⊥) → ltb x y ≡ is_lt (compare_bytes a b)
    words-decide d = sym (ap is_lt (rests ∙ compare_words a b (λ k. (p k).fits) (λ k. (q k).fits) 8 i (omega arith) (omega arith)) ∙ rw (← e, ← f) (is_lt_differs x y _ d))

    pub longer-start : x ≡ y → take (i + 8) a ≡ take (i + 8) b
    longer-start d =
        let w : take 8 (drop i a) ≡ take 8 (drop i b) = same-part big_endian from_big_endian big_endian-from b a (λ k. (q k).fits) (λ k. (p k).fits) 8 i (omega arith) (omega arith) (sym e ∙ d ∙ f) in
        take-add i 8 a ∙ rw (same, w) (sym (take-add i 8 b))

  -- it is the whole of one
  pub length-decides : i ≡ min (length a) (length b) → ltb (length a) (length b) ≡ is_lt (compare_bytes a b)
  unfolding compare_lists
  length-decides m = sym (ap is_lt rests ∙ (elim (dec_lt (length a) (length b)) [
    | yes l ↦
        let none : length a ≤ i = omega arith in
        rw (drop_of_length-le a none, drop-step b i (omega arith), lt-ltb (length a) (length b) l)
    | no l ↦
        let none : length b ≤ i = omega arith in
        rw (drop_of_length-le b none, none-lower (drop i a), le-ltb (length a) (length b) (omega arith))
  ]))
