-- Rows in bytes, for windows of w bytes: their lengths, and both ways. Assumes nothing.
use Prim.Native.Nat.{ℕ, zero, suc, ◌+◌, ◌*◌, ◌^◌, ◌≤◌, ◌<◌}
use mathlib.Core.Path.{◌≡◌, sym, ◌∙◌}
use mathlib.Core.Logic.{inl, inr}
use mathlib.Core.List.{List, ◌++◌, append_assoc}
use native.Mathlib.Nat.{suc-mul, zero-mul, add-zero, add_assoc}
use native.Mathlib.Decide.{dec_lt}
use native.Mathlib.Omega.{arith}
use lib.ListN.{length, drop, length-append, length-replicate}
use Rattle.wire.specs.Bytes.{Bytes, AreBytes, big_endian}
use Rattle.wire.proofs.BigEndian.{length-big_endian}
use Rattle.wire.proofs.Fields.{number-on, number-back}
use Rattle.dots.specs.Dots.{actor_most}
use Rattle.clock.specs.Row.{Row}
use Rattle.clock.specs.Clock.{clock_words, row_at}
use Rattle.clock.proofs.Rows.{row_eq}
use Rattle.clock.proofs.Clocks.{row-none, row_same, row_other, length_with_row, rows_eq}
use Rattle.calls.specs.Image.{row_size, row_bytes, rows_bytes}
use Rattle.calls.specs.ImageRead.{row_in, clock_in}

-- ---- lengths

length-row : (w : ℕ) (r : Row) → length (row_bytes w r) ≡ row_size w
length-row w r = rw (length-append, length-big_endian 8 r.base, length-big_endian w r.window)

pub length-rows : (w n : ℕ) (words : List ℕ) → length (rows_bytes w n words) ≡ n * row_size w
unfolding rows_bytes
length-rows w zero words = sym (zero-mul (row_size w))
length-rows w (suc n) words =
    length-append (rows_bytes w n words) (row_bytes w (row_at words (suc n)))
    ∙ rw (length-rows w n words, length-row w (row_at words (suc n)), suc-mul n (row_size w))

pub length-clock : (w n : ℕ) (s : Bytes) (at : ℕ) → length (clock_in w n s at) ≡ clock_words
unfolding clock_in
length-clock w zero s at = length-replicate {A = ℕ} clock_words 0
length-clock w (suc n) s at = length_with_row (clock_in w n s at) (suc n) (row_in w s (at + n * row_size w)) ∙ length-clock w n s at

-- ---- the rows of a clock that was read

clock-row : (w n : ℕ) (s : Bytes) (at a : ℕ) → n ≤ actor_most → a < n → row_at (clock_in w n s at) (suc a) ≡ row_in w s (at + a * row_size w)
unfolding clock_in
clock-row w zero s at a most h = absurd (omega arith)
clock-row w (suc n) s at a most h = elim (dec_lt a n) [
  | yes l ↦ row_other (clock_in w n s at) (suc n) (suc a) (row_in w s (at + n * row_size w)) (λ q. omega arith) ∙ clock-row w n s at a (omega arith) l
  | no l ↦
      let e : a ≡ n = omega arith in
      rw e (row_same (clock_in w n s at) (suc n) (row_in w s (at + n * row_size w)) (length-clock w n s at) (omega arith) (omega arith))
]

-- ---- written, then read

-- the numbers of each row fit their bytes
abbrev pub RowsFit : ℕ → List ℕ → Type 0
RowsFit w words = (a : ℕ) → ((row_at words a).base < 256 ^ 8) × ((row_at words a).window < 256 ^ w)

row_on : (w : ℕ) (s : Bytes) (at : ℕ) (r : Row) (t : Bytes) → (r.base < 256 ^ 8) × (r.window < 256 ^ w) → drop at s ≡ row_bytes w r ++ t
    → (row_in w s at ≡ r) × (drop (at + row_size w) s ≡ t)
row_on w s at r t small h =
    let base = number-on s 8 at r.base (big_endian w r.window ++ t) small.0 (rw append_assoc at h) in
    let window = number-on s w (at + 8) r.window t small.1 base.1 in
    let next : at + 8 + w ≡ at + row_size w = omega arith in
    (row_eq base.0 window.0, rw next at window.1)

-- the rows of the actors 1 to n are read from a place on
abbrev RowsRead : ℕ → Bytes → ℕ → List ℕ → ℕ → Type 0
RowsRead w s i words n = (a : ℕ) → a < n → row_in w s (i + a * row_size w) ≡ row_at words (suc a)

module _ (w : ℕ) (s : Bytes) (i : ℕ) (words : List ℕ) (fit : RowsFit w words) where
  rows_on : (n : ℕ) (t : Bytes) → drop i s ≡ rows_bytes w n words ++ t → RowsRead w s i words n × (drop (i + n * row_size w) s ≡ t)
  unfolding rows_bytes
  rows_on zero t h = (λ a k. absurd (omega arith), rw (zero-mul, add-zero) h)
  rows_on (suc n) t h =
      let before = rows_on n (row_bytes w (row_at words (suc n)) ++ t) (rw append_assoc at h) in
      let here = row_on w s (i + n * row_size w) (row_at words (suc n)) t (fit (suc n)) before.1 in
      let next : i + n * row_size w + row_size w ≡ i + suc n * row_size w = rw suc-mul (add_assoc i (n * row_size w) (row_size w)) in (
        λ a k. elim (dec_lt a n) [
          | yes l ↦ before.0 a l
          | no l ↦ let e : a ≡ n = omega arith in rw e here.0
        ],
        rw next at here.1,
      )

  rows_same : RowsRead w s i words actor_most → (a : ℕ) → row_at (clock_in w actor_most s i) a ≡ row_at words a
  rows_same on zero = row-none (clock_in w actor_most s i) 0 (inl (omega arith)) ∙ sym (row-none words 0 (inl (omega arith)))
  rows_same on (suc a) = elim (dec_lt a actor_most) [
    | yes h ↦ clock-row w actor_most s i a (omega arith) h ∙ on a h
    | no h ↦ row-none (clock_in w actor_most s i) (suc a) (inr (omega arith)) ∙ sym (row-none words (suc a) (inr (omega arith)))
  ]

  -- where all rows of a clock were written, that clock is read
  pub clock-on : (t : Bytes) → length words ≡ clock_words → drop i s ≡ rows_bytes w actor_most words ++ t
      → (clock_in w actor_most s i ≡ words) × (drop (i + actor_most * row_size w) s ≡ t)
  clock-on t size h =
      let on = rows_on actor_most t h in
      (rows_eq (clock_in w actor_most s i) words (length-clock w actor_most s i) size (rows_same on.0), on.1)

-- ---- read, then written

module _ (w : ℕ) (s : Bytes) (small : AreBytes s) where
  row_back : (at : ℕ) → at + row_size w ≤ length s → row_bytes w (row_in w s at) ++ drop (at + row_size w) s ≡ drop at s
  row_back at h =
      let next : at + row_size w ≡ at + 8 + w = omega arith in
      rw (append_assoc, next, number-back s small w (at + 8) (omega arith)) (number-back s small 8 at (omega arith))

  rows_back : (i n : ℕ) → n ≤ actor_most → i + n * row_size w ≤ length s → rows_bytes w n (clock_in w actor_most s i) ++ drop (i + n * row_size w) s ≡ drop i s
  unfolding rows_bytes
  rows_back i zero most h = rw (zero-mul, add-zero)
  rows_back i (suc n) most h =
      let next : i + suc n * row_size w ≡ i + n * row_size w + row_size w = rw suc-mul (sym (add_assoc i (n * row_size w) (row_size w))) in
      let room : i + n * row_size w + row_size w ≤ length s = rw next at h in
      rw (append_assoc, clock-row w actor_most s i n (omega arith) (omega arith), next, row_back (i + n * row_size w) room) (rows_back i n (omega arith) (omega arith))

  -- the clock that was read, written again
  pub clock-back : (i : ℕ) → i + actor_most * row_size w ≤ length s → rows_bytes w actor_most (clock_in w actor_most s i) ++ drop (i + actor_most * row_size w) s ≡ drop i s
  clock-back i fits = rows_back i actor_most (omega arith) fits
