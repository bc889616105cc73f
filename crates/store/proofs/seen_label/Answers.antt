-- The label, and then its dot.
use Rattle.std.proofs.Common.{◌≡◌, ℕ, ◌+◌, ◌≤◌, Bool, true, false, cond, leb, Some, List, length, refl, ◌∙◌, arith, leb-true}
use Rattle.std.specs.Bool.{then_some}
use Rattle.wire.specs.Bytes.{Bytes, zero_at}
use Rattle.wire.proofs.Tests.{both_left, both_right}
use Rattle.dots.specs.Names.{label_most}
use Rattle.keys.specs.Key.{suffix_size}
use Rattle.store.specs.declared.LabelEnd.{LabelEnd}
use Rattle.store.specs.Front.{after_length}
use Rattle.store.specs.Pass.{tail_most, LabelIs, AfterIs, dot_seen}
use Rattle.store.proofs.Front.{after-bad, after-told}
use Rattle.store.proofs.seen_label.Goals as goal

-- a label that keeps its rule
module _ (z : ℕ) (l : LabelEnd) (read : LabelIs z (Some l)) where
  short : l.len ≤ label_most
  short = rw read.0 (leb-true z label_most (both_right (leb 1 z) (leb z label_most) read.1))

  some : 1 ≤ l.len
  some = rw read.0 (leb-true 1 z (both_left (leb 1 z) (leb z label_most) read.1))

module _ (words : List ℕ) (t : Bytes) (room : tail_most ≤ length t) (l : LabelEnd) (read : LabelIs (zero_at t) (Some l)) (r : Bool) (seen : r ≡ dot_seen words t (l.len + 1)) where
  after : after_length words t ≡ cond (dot_seen words t (l.len + 1)) (l.len + suffix_size) 0
  after = after-told words t l.len read.0 read.1 (omega (arith, short (zero_at t) l read))

  told : r ≡ true → AfterIs (after_length words t) (Some l)
  told e = (after ∙ rw (← seen, e), some (zero_at t) l read, read.2)

  unseen : r ≡ false → after_length words t ≡ 0
  unseen e = after ∙ rw (← seen, e)

  answered : AfterIs (after_length words t) (then_some r l)
  answered = go r refl
    where
      go : (b : Bool) → r ≡ b → AfterIs (after_length words t) (then_some b l)
      go true e = told e
      go false e = unseen e

pub returns-in_err-label : goal.returns-in_err-label
returns-in_err-label c = rw c.from_residual.ensures (after-bad _ _ (rw c.in_err-label.was at c.label_end.ensures))

pub overflow_add-label : goal.overflow_add-label
overflow_add-label c = omega (arith, short _ _ (rw c.in_ok-label.was at c.label_end.ensures))

pub dot_seen-requires : goal.dot_seen-requires
dot_seen-requires c = omega (arith, short _ _ (rw c.in_ok-label.was at c.label_end.ensures))

pub returns : goal.returns
returns c = rw c.then_some.ensures (answered _ _ c.requires.0 _ (rw c.in_ok-label.was at c.label_end.ensures) _ c.dot_seen.ensures)
