-- Rows in bytes, for windows of w bytes: one row more, written and read, and one row of those read. Assumes nothing.
use Prim.Native.Nat.{ℕ, zero, suc, ◌+◌, ◌-◌, ◌*◌, ◌≤◌, ◌<◌}
use mathlib.Core.Path.{◌≡◌, refl, sym, ◌∙◌}
use mathlib.Core.List.{List}
use native.Mathlib.Nat.{add-zero}
use native.Mathlib.Numerals.{add-one}
use native.Mathlib.Decide.{dec_lt}
use native.Mathlib.Omega.{arith}
use lib.ListN.{length, take-append-drop}
use Rattle.wire.specs.Bytes.{Bytes, put_at}
use Rattle.wire.proofs.Fields.{put_next}
use Rattle.dots.specs.Dots.{actor_most}
use Rattle.clock.specs.Row.{Row}
use Rattle.clock.specs.Clock.{zero_clock, row_at, with_row}
use Rattle.clock.proofs.Clocks.{row_same, row_other}
use Rattle.calls.specs.Image.{row_size, row_bytes, rows_bytes}
use Rattle.calls.specs.ImageRead.{row_in, clock_in}
use Rattle.calls.proofs.ImageRows.{length-rows, length-clock}

pub no_rows_put : (s : Bytes) (at w : ℕ) (words : List ℕ) → s ≡ put_at s at (rows_bytes w 0 words)
unfolding put_at rows_bytes
no_rows_put s at w words = rw add-zero (sym (take-append-drop at s))

pub row_put : (s t u : Bytes) (at next w a : ℕ) (words : List ℕ) (r : Row) → t ≡ put_at s at (rows_bytes w a words) → next ≡ at + a * row_size w → r ≡ row_at words (a + 1)
    → u ≡ put_at t next (row_bytes w r) → next ≤ length s → u ≡ put_at s at (rows_bytes w (a + 1) words)
unfolding rows_bytes
row_put s t u at next w a words r e place row f fits =
    put_next s t u (rows_bytes w a words) (row_bytes w r) at next e (place ∙ rw length-rows) f fits ∙ rw (row, add-one a)

pub no_rows_read : (s : Bytes) (at w : ℕ) → zero_clock ≡ clock_in w 0 s at
unfolding clock_in
no_rows_read s at w = refl

pub row_read : (s : Bytes) (at w a : ℕ) (words words' : List ℕ) (r : Row) → words ≡ clock_in w a s at → r ≡ row_in w s (at + a * row_size w)
    → words' ≡ with_row words (a + 1) r → words' ≡ clock_in w (a + 1) s at
unfolding clock_in
row_read s at w a words words' r e row f = f ∙ rw (e, row, add-one a)

-- ---- one row of the clock that is read

row_there : (w n : ℕ) (s : Bytes) (at a : ℕ) → n ≤ actor_most → a < n → row_at (clock_in w n s at) (suc a) ≡ row_in w s (at + a * row_size w)
unfolding clock_in
row_there w zero s at a most h = absurd (omega arith)
row_there w (suc n) s at a most h = elim (dec_lt a n) [
  | yes l ↦ row_other (clock_in w n s at) (suc n) (suc a) (row_in w s (at + n * row_size w)) (λ q. omega arith) ∙ row_there w n s at a (omega arith) l
  | no l ↦
      let e : a ≡ n = omega arith in
      rw e (row_same (clock_in w n s at) (suc n) (row_in w s (at + n * row_size w)) (length-clock w n s at) (omega arith) (omega arith))
]

pub actor-row : (s : Bytes) (at w actor : ℕ) (r : Row) → r ≡ row_in w s (at + (actor - 1) * row_size w) → 1 ≤ actor → actor ≤ actor_most → r ≡ row_at (clock_in w actor_most s at) actor
actor-row s at w actor r e least most =
    let next : actor ≡ suc (actor - 1) = omega arith in
    let there = row_there w actor_most s at (actor - 1) (omega arith) (omega arith) in
    e ∙ sym (rw (← next) at there)
