-- A common start by pieces: pieces of k bytes one after the other, and a last one that ends with a and may overlap them. Assumes nothing.
use Rattle.std.proofs.Common.{◌≡◌, ℕ, ◌+◌, ◌-◌, ◌<◌, ◌≤◌, Bool, true, false, ◌&&◌, eqb, List, [], ◌∷◌, length, take, drop, sym, refl, ap, ap₂, ◌∙◌, zero-add, arith, length-append, length-drop, take_all, drop-drop, take_at, eq-eqb, eqb-true}
use lib.Pointwise.{pointwise}
use Rattle.wire.specs.Bytes.{AreBytes, part_at, low_number_at, from_little_endian, starts_with}
use Rattle.wire.proofs.Tests.{untrue, both_ways, both_left, both_right}
use Rattle.wire.proofs.Fields.{part-back, part_length}
use Rattle.wire.proofs.ByteOrder.{starts-append, starts-itself, starts-split}
use Rattle.wire.proofs.Words.{same_low_part}

-- bytes that begin with longer ones do not
pub too_short : (a s : List ℕ) → length s < length a → false ≡ starts_with a s
too_short a s h = sym (untrue (starts_with a s) (λ t. omega (arith, simp length-append at (ap length (starts-split a s t)))))

-- as std tells it
turned : (x y : ℕ) → eqb x y ≡ eqb y x
turned x y = both_ways (eqb x y) (eqb y x) (λ t. eq-eqb y x (sym (eqb-true x y t))) (λ t. eq-eqb x y (sym (eqb-true y x t)))

pub std-starts : (a s : List ℕ) → pointwise eqb a (take (length a) s) ≡ starts_with a s
unfolding starts_with
std-starts [] s = refl
std-starts (x ∷ a) [] = refl
std-starts (x ∷ a) (y ∷ s) = ap₂ ◌&&◌ (turned x y) (std-starts a s)

-- two words are equal where the bytes are
pub same_piece : (a s : List ℕ) → AreBytes a → AreBytes s → (k i x y : ℕ) → i + k ≤ length a → i + k ≤ length s → x ≡ low_number_at k s i → y ≡ low_number_at k a i
    → eqb x y ≡ starts_with (part_at a i k) (drop i s)
same_piece a s p q k i x y h l e f = both_ways (eqb x y) (starts_with (part_at a i k) (drop i s)) to from
  where
    to : eqb x y ≡ true → starts_with (part_at a i k) (drop i s) ≡ true
    to t =
        let same : part_at s i k ≡ part_at a i k = same_low_part a s p q k i h l (sym e ∙ eqb-true x y t ∙ f) in
        ap (starts_with (part_at a i k)) (sym (part-back s i k) ∙ rw same) ∙ starts-itself (part_at a i k) (drop (i + k) s)

    from : starts_with (part_at a i k) (drop i s) ≡ true → eqb x y ≡ true
    from t =
        let same : part_at s i k ≡ part_at a i k = ap (take k) (sym (starts-split (part_at a i k) (drop i s) t)) ∙ take_at (part_at a i k) _ k (part_length a i k h) in
        eq-eqb x y (e ∙ ap from_little_endian same ∙ sym f)

-- ---- whether s begins with a from a place on

module _ (a s : List ℕ) where
  -- by the bytes at that place, and those after them
  by_piece : (k i : ℕ) → i + k ≤ length a → starts_with (drop i a) (drop i s) ≡ (starts_with (part_at a i k) (drop i s) && starts_with (drop (i + k) a) (drop (i + k) s))
  by_piece k i h =
      ap (λ (l : List ℕ). starts_with l (drop i s)) (sym (part-back a i k))
      ∙ starts-append (part_at a i k) (drop (i + k) a) (drop i s)
      ∙ rw (part_length a i k h, drop-drop)

  -- from a later place on too
  later : (i j : ℕ) → i ≤ j → j ≤ length a → starts_with (drop i a) (drop i s) ≡ true → starts_with (drop j a) (drop j s) ≡ true
  later i j h l t =
      let e : i + (j - i) ≡ j = omega arith in
      let rest : starts_with (drop (i + (j - i)) a) (drop (i + (j - i)) s) ≡ true = both_right (starts_with (part_at a i (j - i)) (drop i s)) _ (sym (by_piece (j - i) i (omega arith)) ∙ t) in
      rw e at rest

  -- the last k bytes
  last_piece : (k : ℕ) → k ≤ length a → part_at a (length a - k) k ≡ drop (length a - k) a
  last_piece k h = take_all k (drop (length a - k) a) (rw length-drop (omega arith))

  pub first_piece : (k : ℕ) → k ≤ length a → starts_with a s ≡ (starts_with (part_at a 0 k) (drop 0 s) && starts_with (drop k a) (drop k s))
  first_piece k h = rw zero-add at (by_piece k 0 (omega arith))

  -- `f` decides up to a place: with a piece that reaches it from before, `f` and the piece decide up to the piece's end
  pub piece_on : (f : Bool) (k i j : ℕ) → j ≤ i → i ≤ j + k → j + k ≤ length a → starts_with a s ≡ (f && starts_with (drop i a) (drop i s))
      → starts_with a s ≡ ((f && starts_with (part_at a j k) (drop j s)) && starts_with (drop (j + k) a) (drop (j + k) s))
  piece_on f k i j h r l e = both_ways (starts_with a s) _ to from
    where
      to : starts_with a s ≡ true → ((f && starts_with (part_at a j k) (drop j s)) && starts_with (drop (j + k) a) (drop (j + k) s)) ≡ true
      to t =
          let there = sym (by_piece k j l) ∙ later 0 j (omega arith) (omega arith) t in
          rw (both_left f _ (sym e ∙ t), both_left (starts_with (part_at a j k) (drop j s)) _ there, both_right (starts_with (part_at a j k) (drop j s)) _ there)

      from : ((f && starts_with (part_at a j k) (drop j s)) && starts_with (drop (j + k) a) (drop (j + k) s)) ≡ true → starts_with a s ≡ true
      from t =
          let both = both_left (f && starts_with (part_at a j k) (drop j s)) _ t in
          let there : starts_with (drop j a) (drop j s) ≡ true = by_piece k j l ∙ rw (both_right f _ both, both_right (f && starts_with (part_at a j k) (drop j s)) _ t) in
          e ∙ rw (both_left f _ both, later j i h (omega arith) there)

  -- one piece more
  pub piece_more : (f : Bool) (k i : ℕ) → i + k ≤ length a → starts_with a s ≡ (f && starts_with (drop i a) (drop i s))
      → starts_with a s ≡ ((f && starts_with (part_at a i k) (drop i s)) && starts_with (drop (i + k) a) (drop (i + k) s))
  piece_more f k i h e = piece_on f k i i (omega arith) (omega arith) h e

  -- `f` decides up to a place that the last piece reaches: with it, all is decided
  pub piece_last : (f : Bool) (k i : ℕ) → k ≤ length a → length a ≤ i + k → i ≤ length a → starts_with a s ≡ (f && starts_with (drop i a) (drop i s))
      → (f && starts_with (part_at a (length a - k) k) (drop (length a - k) s)) ≡ starts_with a s
  piece_last f k i h r l e = rw (last_piece k h) (both_ways (f && starts_with (drop n a) (drop n s)) (starts_with a s) to from)
    where
      n : ℕ
      n = length a - k

      to : (f && starts_with (drop n a) (drop n s)) ≡ true → starts_with a s ≡ true
      to t = e ∙ rw (both_left f _ t, later n i (omega arith) l (both_right f _ t))

      from : starts_with a s ≡ true → (f && starts_with (drop n a) (drop n s)) ≡ true
      from t = rw (both_left f _ (sym e ∙ t), later 0 n (omega arith) (omega arith) t)
