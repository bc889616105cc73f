-- The lowest byte of a word that is 0, found in all bytes at once: by induction on the number of bytes, from the lowest.
-- With 1 subtracted from every byte, a byte of 0 sets its high bit, which was clear, and borrows from the next. Below the lowest 0 nothing borrows, and no byte sets a high bit that was clear.
-- Assumes nothing.
use Rattle.std.proofs.Common.{◌≡◌, ℕ, zero, suc, ◌+◌, ◌-◌, ◌*◌, ◌/◌, ◌%◌, ◌^◌, ◌<◌, ◌≤◌, Option, eqb, List, [], ◌∷◌, ◌++◌, length, get_or, take, drop, sym, refl, ap, ◌∙◌, ap₂, mod-lt, mul_assoc, suc-mul, suc-add, pow-suc, zero-add, drop-drop, arith, lit<, w8, Fits}
use native.Mathlib.Decide.{dec_lt}
use mir.Syntax.{w64}
use lib.Dec.{eqb-suc-zero}
use Rattle.std.specs.Prelude.{unwrap_or}
use Rattle.std.specs.List.{position_from}
use Rattle.std.specs.Simd.{first_chunks}
use Rattle.std.specs.Int.{from_le_bytes}
use lib.Bits.{bit_and, and_block, and_comm, and_le_l, and_le_r, and_lt, and_shifted, and_step, shifted_even, shifted_half}
use lib.Count.{count_trailing_zeros, trailing_le, trailing_of_zero, under}
use Rattle.wire.specs.Bytes.{little_endian, from_little_endian, low_number_at, zero_at}
use Rattle.search.specs.Marks.{mark_place}
use Rattle.wire.proofs.LittleEndian.{little_endian-from}
use Rattle.wire.proofs.StdNumbers.{low_read}
use Rattle.wire.proofs.Fields.{part-back, part_length, part-written}

-- ---- the first 0 of a list

-- by the first byte
pub zero-first : (b : ℕ) (bs : List ℕ) → b ≡ 0 → zero_at (b ∷ bs) ≡ 0
unfolding zero_at
zero-first zero bs e = refl
zero-first (suc b) bs e = absurd (omega arith)

pub zero-later : (b : ℕ) (bs : List ℕ) → (b ≡ 0 → ⊥) → zero_at (b ∷ bs) ≡ suc (zero_at bs)
unfolding zero_at
zero-later zero bs e = absurd (e refl)
zero-later (suc b) bs e = refl

-- as std finds its place, in the bytes from number i on
zero-found : (s : List ℕ) (i : ℕ) → unwrap_or (position_from (λ b. eqb b 0) i s) (i + length s) ≡ i + zero_at s
unfolding zero_at
zero-found [] i = refl
zero-found (zero ∷ s) i = omega arith
zero-found (suc b ∷ s) i =
    let more : i + suc (length s) ≡ i + 1 + length s = omega arith in
    rw (more, eqb-suc-zero b) (zero-found s (i + 1) ∙ omega arith)

zero_le : (s : List ℕ) → zero_at s ≤ length s
unfolding zero_at
zero_le [] = omega arith
zero_le (zero ∷ s) = omega arith
zero_le (suc b ∷ s) = omega (arith, zero_le s)

pub zero-position : (s : List ℕ) (o : Option ℕ) (r : ℕ) → o ≡ position_from (λ b. eqb b 0) 0 s → r ≡ unwrap_or o (length s) → (r ≡ zero_at s) × (r ≤ length s)
zero-position s o r e f =
    let is : r ≡ zero_at s = f ∙ rw e (rw (zero-add, zero-add) at (zero-found s 0)) in
    (is, rw is (zero_le s))

-- by the bytes in front: they have the first 0, or are passed over
zero-within : (l t : List ℕ) → zero_at l < length l → zero_at (l ++ t) ≡ zero_at l
unfolding zero_at
zero-within [] t h = absurd (omega arith)
zero-within (zero ∷ l) t h = refl
zero-within (suc b ∷ l) t h = ap suc (zero-within l t (omega arith))

zero_beyond : (l t : List ℕ) → length l ≤ zero_at l → zero_at (l ++ t) ≡ length l + zero_at t
unfolding zero_at
zero_beyond [] t h = omega arith
zero_beyond (zero ∷ l) t h = absurd (omega arith)
zero_beyond (suc b ∷ l) t h = omega (arith, zero_beyond l t (omega arith))

-- ---- trailing zeros

-- j zeros below a number
trailing_shifted : (j n m : ℕ) → count_trailing_zeros (j + n) (m * 2 ^ j) ≡ j + count_trailing_zeros n m
unfolding count_trailing_zeros
trailing_shifted zero n m =
    let one : m * 1 ≡ m = omega arith in
    rw (zero-add n, zero-add (count_trailing_zeros n m), one)
trailing_shifted (suc j) n m = rw (suc-add j n, suc-add j (count_trailing_zeros n m), shifted_even, shifted_half, trailing_shifted j n m)

-- a mark in the lowest byte
trailing_marked : (n m : ℕ) → count_trailing_zeros (n + 8) (m * 256 + 128) ≡ 7
unfolding count_trailing_zeros
trailing_marked n m =
    let size : n + 8 ≡ 7 + suc n = omega arith in
    let shift : m * 256 + 128 ≡ (m * 2 + 1) * 2 ^ 7 = omega arith in
    let odd : (m * 2 + 1) % 2 ≡ 1 = omega arith in
    rw (size, shift, trailing_shifted 7 (suc n) (m * 2 + 1), odd)

-- none in the lowest byte
trailing_unmarked : (n m : ℕ) → count_trailing_zeros (n + 8) (m * 256 + 0) ≡ count_trailing_zeros n m + 8
trailing_unmarked n m =
    let size : n + 8 ≡ 8 + n = omega arith in
    let shift : m * 256 + 0 ≡ m * 2 ^ 8 = omega arith in
    rw (size, shift) (omega (arith, trailing_shifted 8 n m))

-- a number that is not 0 has fewer than all
trailing_some : (k n : ℕ) → 0 < n → n < 2 ^ k → count_trailing_zeros k n < k
unfolding count_trailing_zeros
trailing_some zero n some h = absurd (omega arith)
trailing_some (suc k) n some h = by_digit (n % 2) refl (trailing_some k (n / 2))
  where
    by_digit : (d : ℕ) → n % 2 ≡ d → (0 < n / 2 → n / 2 < 2 ^ k → count_trailing_zeros k (n / 2) < k) → under d (count_trailing_zeros k (n / 2)) < suc k
    by_digit zero e ih = omega (arith, ih (omega arith) (omega arith))
    by_digit (suc d) e ih = omega arith

-- the lowest set digit alone: m and x together are a multiple of the power of 2
trailing_lowest : (n m x c : ℕ) → x + m ≡ c * 2 ^ n → count_trailing_zeros n (bit_and m x) ≡ count_trailing_zeros n m
unfolding count_trailing_zeros
trailing_lowest zero m x c e = refl
trailing_lowest (suc n) m x c e = by_digit (m % 2) refl (x % 2) refl (trailing_lowest n (m / 2) (x / 2) c)
  where
    whole : c * 2 ^ suc n ≡ c * 2 ^ n * 2
    whole = rw (pow-suc, mul_assoc)

    rest : bit_and m x / 2 ≡ bit_and (m / 2) (x / 2)
    rest = omega (arith, and_step m x)

    by_digit : (d : ℕ) → m % 2 ≡ d → (f : ℕ) → x % 2 ≡ f → (x / 2 + m / 2 ≡ c * 2 ^ n → count_trailing_zeros n (bit_and (m / 2) (x / 2)) ≡ count_trailing_zeros n (m / 2))
        → under (bit_and m x % 2) (count_trailing_zeros n (bit_and m x / 2)) ≡ under (m % 2) (count_trailing_zeros n (m / 2))
    by_digit zero p zero q ih =
        let none : bit_and m x % 2 ≡ 0 = omega (arith, and_step m x) in
        rw (none, p, rest) (ap suc (ih (omega (arith, whole))))
    by_digit (suc d) p (suc f) q ih =
        let one : bit_and m x % 2 ≡ 1 = omega (arith, and_step m x) in
        let odd : m % 2 ≡ 1 = omega arith in
        rw (one, odd)
    by_digit zero p (suc f) q ih = absurd (omega (arith, whole))
    by_digit (suc d) p zero q ih = absurd (omega (arith, whole))

-- ---- the marks

-- k bytes of 1
unfoldable pub ones_in : ℕ → ℕ
ones_in zero = 0
ones_in (suc k) = ones_in k * 256 + 1

-- three numbers by their lowest byte and the rest
and_bytes : (a b c r s t : ℕ) → r < 256 → s < 256 → t < 256
    → bit_and (bit_and (a * 256 + r) (b * 256 + s)) (c * 256 + t) ≡ bit_and (bit_and a b) c * 256 + bit_and (bit_and r s) t
and_bytes a b c r s t hr hs ht =
    ap (λ (x : ℕ). bit_and x (c * 256 + t)) (and_block 8 a b r s hr hs)
    ∙ and_block 8 (bit_and a b) c (bit_and r s) t (and_lt 8 r s hr hs) ht

-- a byte that is not 0 gets no mark
unmarked : (b : ℕ) → b < 255 → bit_and (bit_and b (254 - b)) 128 ≡ 0
unmarked b h = and_comm (bit_and b (254 - b)) 128 ∙ and_shifted 1 7 (bit_and b (254 - b)) (elim (dec_lt b 128) [
  | yes l ↦ omega (arith, and_le_l b (254 - b))
  | no l ↦ omega (arith, and_le_r b (254 - b))
])

-- the high bits that are clear in w and set in d, in k bytes: d is w with 1 subtracted from every byte
unfoldable pub marks : ℕ → ℕ → ℕ → ℕ
marks k d w = bit_and (bit_and d (256 ^ k - 1 - w)) (128 * ones_in k)

-- the marks of the bytes above the lowest, and its own
marks_suc : (k d w : ℕ) → w < 256 ^ suc k → marks (suc k) d w ≡ marks k (d / 256) (w / 256) * 256 + bit_and (bit_and (d % 256) (255 - w % 256)) 128
unfolding ones_in marks
marks_suc k d w h =
    let da : d ≡ d / 256 * 256 + d % 256 = omega arith in
    let wa : 256 ^ suc k - 1 - w ≡ (256 ^ k - 1 - w / 256) * 256 + (255 - w % 256) = omega arith in
    let oa : 128 * (ones_in k * 256 + 1) ≡ 128 * ones_in k * 256 + 128 = omega arith in
    let low : 255 - w % 256 < 256 = omega arith in
    ap₂ bit_and (ap₂ bit_and da wa) oa ∙ and_bytes (d / 256) (256 ^ k - 1 - w / 256) (128 * ones_in k) (d % 256) (255 - w % 256) 128 (mod-lt d (lit< tt)) low (lit< tt)

-- the lowest mark is that of the lowest 0; c is what the sum of d and the ones carries out of k bytes
pub marks-zero : (k d w c : ℕ) → w < 256 ^ k → d + ones_in k ≡ w + c * 256 ^ k → count_trailing_zeros (k * 8) (marks k d w) / 8 ≡ zero_at (little_endian k w)
unfolding ones_in count_trailing_zeros little_endian zero_at
marks-zero zero d w c h e = refl
marks-zero (suc k) d w c h e = step (dec_lt 0 (w % 256)) (λ f. marks-zero k (d / 256) (w / 256) c (omega arith) f)
  where
    m : ℕ
    m = marks k (d / 256) (w / 256)

    carry : c * 256 ^ suc k ≡ c * 256 ^ k * 256
    carry = rw (pow-suc, mul_assoc)

    step : Dec (0 < w % 256) → (d / 256 + ones_in k ≡ w / 256 + c * 256 ^ k → count_trailing_zeros (k * 8) m / 8 ≡ zero_at (little_endian k (w / 256)))
        → count_trailing_zeros (suc k * 8) (marks (suc k) d w) / 8 ≡ zero_at (w % 256 ∷ little_endian k (w / 256))
    step (yes l) ih =
        let low : bit_and (bit_and (d % 256) (255 - w % 256)) 128 ≡ 0 = let f : 255 - w % 256 ≡ 254 - d % 256 = omega (arith, carry) in rw f (unmarked (d % 256) (omega (arith, carry))) in
        rw (suc-mul, marks_suc k d w h, low, trailing_unmarked (k * 8) m, zero-later (w % 256) (little_endian k (w / 256)) (omega arith))
        (omega (arith, ih (omega (arith, carry))))
    step (no l) ih =
        let high : d % 256 ≡ 255 = omega (arith, carry) in
        let none : w % 256 ≡ 0 = omega arith in
        rw (suc-mul, marks_suc k d w h, high, none, trailing_marked (k * 8) m)

-- a word, in the terms of the code
pub word-zero : (d w : ℕ) → w < 2 ^ 64 → (d + 72340172838076673) % 2 ^ 64 ≡ w
    → mark_place (bit_and (bit_and d (2 ^ 64 - 1 - w)) 9259542123273814144) ≡ zero_at (little_endian 8 w)
unfolding ones_in marks mark_place
word-zero d w h e = marks-zero 8 d w ((d + 72340172838076673) / 2 ^ 64) h (omega arith)

-- ---- the place of the lowest mark

pub place_le : (m : ℕ) → mark_place m ≤ 8
unfolding mark_place
place_le m = omega (arith, trailing_le 64 m)

pub place_none : mark_place 0 ≡ 8
unfolding mark_place
place_none = rw trailing_of_zero

pub place-some : (m : ℕ) → (m ≡ 0 → ⊥) → m < 2 ^ 64 → mark_place m < 8
unfolding mark_place
place-some m some h = omega (arith, trailing_some 64 m (omega (arith, some)) h)

pub place_lowest : (m x : ℕ) → (x + m) % 2 ^ 64 ≡ 0 → mark_place (bit_and m x) ≡ mark_place m
unfolding mark_place
place_lowest m x e = rw (trailing_lowest 64 m x ((x + m) / 2 ^ 64) (omega arith))

-- ---- the words of a list

-- the word at a place has its first 0 at z: so have the bytes from there on, or the word is passed over
module _ (s : List ℕ) (known : (k : ℕ) → Fits w8 (get_or s k 0)) (i w z : ℕ) (h : i + 8 ≤ length s) (e : w ≡ low_number_at 8 s i) (f : z ≡ zero_at (little_endian 8 w)) where
  word : z ≡ zero_at (take 8 (drop i s))
  word = f ∙ rw (e, part-written little_endian from_little_endian little_endian-from s (λ k. (known k).fits) 8 i h)

  pub zero_in_word : z < 8 → zero_at (drop i s) ≡ z
  zero_in_word l = rw (← part-back s i 8) (zero-within (take 8 (drop i s)) (drop (i + 8) s) (omega (arith, word, part_length s i 8 h)) ∙ sym word)

  pub zero_past_word : 8 ≤ z → zero_at (drop i s) ≡ 8 + zero_at (drop (i + 8) s)
  zero_past_word l =
      rw (← part-back s i 8)
      (omega (arith, zero_beyond (take 8 (drop i s)) (drop (i + 8) s) (omega (arith, word, part_length s i 8 h)), part_length s i 8 h))

-- ---- a list as words of 8 bytes, as std makes them

chunk-at : (k i : ℕ) (d s : List ℕ) → i < k → get_or (first_chunks 8 k s) i d ≡ take 8 (drop (i * 8) s)
chunk-at zero i d s h = absurd (omega arith)
chunk-at (suc k) zero d s h = refl
chunk-at (suc k) (suc i) d s h =
    let next : 8 + i * 8 ≡ suc i * 8 = omega arith in
    chunk-at k i d (drop 8 s) (omega arith) ∙ ap (take 8) (drop-drop (i * 8) 8 s ∙ rw next)

pub word-at : (s : List ℕ) (words : List (List ℕ)) (i w : ℕ) (d : List ℕ) → words ≡ first_chunks 8 (length s / 8) s → i < length s / 8 → w ≡ from_le_bytes w64 (get_or words i d)
    → w ≡ low_number_at 8 s (i * 8)
word-at s words i w d e h f = low_read w64 s (get_or words i d) (i * 8) w (omega arith) (rw e (chunk-at (length s / 8) i d s h)) f
