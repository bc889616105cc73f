use Rattle.std.proofs.Common.{◌≡◌, ℕ, ◌+◌, ◌%◌, ◌<◌, ◌≤◌, min, List, length, get_or, drop, sym, ◌∙◌, arith, w8, w64, Fits, rules}
use Rattle.wire.specs.Bytes.{little_endian, low_number_at, zero_at}
use Rattle.search.specs.Marks.{mark_place}
use Rattle.search.proofs.ZeroBytes.{place_none, place-some, zero_in_word, zero_past_word}
use Rattle.search.proofs.zero_near.Goals as goal

module _ (s : List ℕ) (known : (k : ℕ) → Fits w8 (get_or s k 0)) (at i w m : ℕ) (room : (at + 40 ≤ length s) × (zero_at (drop at s) ≡ 8 + zero_at (drop (at + 8) s))) (more : i < 40)
    (inv : (i ≤ 40) × (i % 8 ≡ 0) × (zero_at (drop at s) ≡ i + zero_at (drop (at + i) s))) (e : w ≡ low_number_at 8 s (at + i)) (f : mark_place m ≡ zero_at (little_endian 8 w)) where
  found : (z : ℕ) → (m ≡ 0 → ⊥) → Fits w64 m → (z ≡ mark_place m) × (z ≤ 8) → i + z ≡ min 40 (zero_at (drop at s))
  found z some small is =
      let less : z < 8 = rw is.0 (place-some m some small.fits) in
      omega (arith, zero_in_word s known (at + i) w z (omega arith) e (is.0 ∙ f) less)

  none : m ≡ 0 → zero_at (drop at s) ≡ i + 8 + zero_at (drop (at + (i + 8)) s)
  none z =
      let past : zero_at (drop (at + i) s) ≡ 8 + zero_at (drop (at + i + 8) s) = zero_past_word s known (at + i) w 8 (omega arith) e (sym place_none ∙ rw z at f) (omega arith) in
      let same : at + (i + 8) ≡ at + i + 8 = omega arith in
      rw same (omega arith)

pub returns-then-marks-ne0 : goal.returns-then-marks-ne0
returns-then-marks-ne0 c = search (rules, found)

pub loop-i-preserved : goal.loop-i-preserved
loop-i-preserved c = (omega arith, omega arith, search (rules, none))
