-- By whether the first store has keys.
use borrow.Author.Tests.{eq-eqb, ne_eqb}
use Rattle.wire.proofs.Parts.{size-part}
use Rattle.merge.specs.Lines.{label_in}
use Rattle.merge.proofs.TwoStores.label.Goals as goal

pub slice_bounds-result-end : goal.slice_bounds-result-end
slice_bounds-result-end c = c.requires.1.in_second c.if-self-eq0.true

pub returns-then-self-eq0 : goal.returns-then-self-eq0
unfolding label_in
returns-then-self-eq0 c = rw (eq-eqb _ _ c.if-self-eq0.true, size-part)

pub slice_bounds-result-end-2 : goal.slice_bounds-result-end-2
slice_bounds-result-end-2 c = c.requires.1.in_first c.if-self-eq0.false

pub returns : goal.returns
unfolding label_in
returns c = rw (ne_eqb _ _ c.if-self-eq0.false, size-part)
