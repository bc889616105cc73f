-- By the marks of the first 8 bytes: none, and the next words are searched; a new one, whose place is told; or that of the last label, which is as long.
use Rattle.std.proofs.Common.{◌≡◌, ℕ, ◌+◌, ◌<◌, ◌≤◌, min, true, false, length, get_or, drop, sym, refl, ◌∙◌, arith, w8, w64, Fits, rules, le-leb}
use borrow.Author.Tests.{lt-leb}
use Rattle.wire.specs.Bytes.{Bytes, between, little_endian, low_number_at, zero_at}
use Rattle.search.specs.Marks.{mark_place}
use Rattle.search.proofs.ZeroBytes.{place_none, place-some, zero_in_word, zero_past_word}
use Rattle.dots.specs.Names.{label_most}
use Rattle.store.specs.Pass.{tail_most, MarkTells}
use Rattle.store.proofs.label_end.Goals as goal

within : (z : ℕ) → 1 ≤ z → z ≤ label_most → between 1 label_most z ≡ true
within z h l = rw (le-leb 1 z h, le-leb z label_most l)

module _ (t : Bytes) (known : (k : ℕ) → Fits w8 (get_or t k 0)) (room : tail_most ≤ length t) (w m : ℕ) (e : w ≡ low_number_at 8 t 0) (f : mark_place m ≡ zero_at (little_endian 8 w)) where
  past : m ≡ 0 → zero_at (drop 0 t) ≡ 8 + zero_at (drop (0 + 8) t)
  past z = zero_past_word t known 0 w 8 (omega arith) e (sym place_none ∙ rw z at f) (omega arith)

  near : (m ≡ 0 → ⊥) → Fits w64 m → (zero_at t ≡ mark_place m) × (mark_place m < 8)
  near some small = let less : mark_place m < 8 = place-some m some small.fits in (zero_in_word t known 0 w (mark_place m) (omega arith) e f less, less)

  -- a label that goes on past its first 8 bytes
  module _ (z : m ≡ 0) (len : ℕ) (is : len ≡ min 40 (zero_at (drop 0 t))) where
    pub far-bad : label_most < len → between 1 label_most (zero_at t) ≡ false
    far-bad h = rw (lt-leb (zero_at t) label_most (omega arith), le-leb 1 (zero_at t) (omega arith))

    pub far-ends : len ≤ label_most → (len ≡ zero_at t) × (between 1 label_most (zero_at t) ≡ true) × MarkTells 0 len
    far-ends h = let more = past z in (omega arith, within (zero_at t) (omega arith) (omega arith), λ none. absurd (none refl))

  -- one that ends in them, at a new mark
  module _ (some : m ≡ 0 → ⊥) (small : Fits w64 m) (mark : ℕ) (lowest : mark_place mark ≡ mark_place m) where
    module _ (len : ℕ) (is : (len ≡ mark_place m) × (len ≤ 8)) where
      pub new-bad : len ≡ 0 → between 1 label_most (zero_at t) ≡ false
      new-bad z = let none : zero_at t ≡ 0 = (near some small).0 ∙ sym is.0 ∙ z in rw none

      pub new-ends : (len ≡ 0 → ⊥) → (len ≡ zero_at t) × (between 1 label_most (zero_at t) ≡ true) × MarkTells mark len
      new-ends more = let n = near some small in (omega arith, within (zero_at t) (omega (arith, more)) (omega arith), λ _. (omega arith, omega (arith, more)))

    pub same_ends : (last : ℕ) (len : ℕ) → mark ≡ last → MarkTells last len → (len ≡ zero_at t) × (between 1 label_most (zero_at t) ≡ true) × MarkTells mark len
    same_ends last len e' tells =
        let n = near some small in
        let kept : mark ≡ 0 → ⊥ = λ z. omega (arith, place_none, rw z at lowest) in
        let told = tells (λ z. kept (e' ∙ z)) in
        let same : len ≡ mark_place mark = rw e' told.0 in
        (omega arith, within (zero_at t) (omega arith) (omega arith), λ _. (same, told.1))

pub zero_near-len-requires : goal.zero_near-len-requires
zero_near-len-requires c = (omega arith, search (rules, past))

pub returns-then-len-gt-LABEL_MOST : goal.returns-then-len-gt-LABEL_MOST
returns-then-len-gt-LABEL_MOST c = search (rules, far-bad)

pub returns-then-marks-eq0 : goal.returns-then-marks-eq0
returns-then-marks-eq0 c = far-ends _ c.type_inv.t c.requires.0 _ _ c.low_at.ensures c.zero_marks-marks.ensures c.if-marks-eq0.true _ c.zero_near-len.ensures c.if-len-gt-LABEL_MOST.false

pub returns-then-len-eq0 : goal.returns-then-len-eq0
returns-then-len-eq0 c = search (rules, new-bad)

pub returns-then-mark-last : goal.returns-then-mark-last
returns-then-mark-last c = new-ends _ c.type_inv.t c.requires.0 _ _ c.low_at.ensures c.zero_marks-marks.ensures c.if-marks-eq0.false (search rules) _ c.lowest_mark-mark.ensures _ c.mark_place-len.ensures c.if-len-eq0.false

pub returns : goal.returns
returns c = same_ends _ c.type_inv.t c.requires.0 _ _ c.low_at.ensures c.zero_marks-marks.ensures c.if-marks-eq0.false (search rules) _ c.lowest_mark-mark.ensures _ _ c.if-mark-last.false c.requires.1
