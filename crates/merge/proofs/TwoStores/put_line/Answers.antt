-- The dots first; where none is kept nothing is put, and what stands before them only where the run is not dry.
use mathlib.Core.Path.{refl}
use native.Mathlib.Omega.{arith}
use Rattle.merge.proofs.KeptDots.{label-short, dots-low}
use Rattle.merge.proofs.MergedLines.{none-put, dry_put, within, at-within, head-fits, wet_put}
use Rattle.merge.proofs.TwoStores.put_line.Goals as goal

pub returns-then-count-eq0 : goal.returns-then-count-eq0
returns-then-count-eq0 c = none-put _ _ _ _ _ _ c.requires _ _ c.put_kept-count.ensures c.if-count-eq0.true

pub overflow_add-size : goal.overflow_add-size
overflow_add-size c = omega (arith, label-short _ _ _ _ _ _ c.requires)

pub overflow_mul-size : goal.overflow_mul-size
overflow_mul-size c = omega (arith, dots-low _ _ _ _ _ _ c.requires, c.put_kept-count.ensures.0)

pub overflow_add-size-2 : goal.overflow_add-size-2
overflow_add-size-2 c = omega (arith, label-short _ _ _ _ _ _ c.requires, dots-low _ _ _ _ _ _ c.requires, c.put_kept-count.ensures.0)

pub returns-then-spot : goal.returns-then-spot
returns-then-spot c = dry_put _ _ _ _ _ _ c.requires _ _ c.put_kept-count.ensures c.if-count-eq0.false c.if-spot.true

pub slice_bounds-put_head-count : goal.slice_bounds-put_head-count
slice_bounds-put_head-count c = at-within _ _ _ _ _ _ c.requires _ _ c.put_kept-count.ensures c.if-count-eq0.false c.if-spot.false

pub slice_bounds-put_head-start : goal.slice_bounds-put_head-start
slice_bounds-put_head-start c = at-within _ _ _ _ _ _ c.requires _ _ c.put_kept-count.ensures c.if-count-eq0.false c.if-spot.false

pub label-requires : goal.label-requires
label-requires c = (label-short _ _ _ _ _ _ c.requires, within _ _ _ _ _ _ c.requires _ _ c.put_kept-count.ensures c.if-count-eq0.false)

pub put_head-requires : goal.put_head-requires
put_head-requires c = head-fits _ _ _ _ _ _ c.requires _ _ c.put_kept-count.ensures c.if-count-eq0.false c.if-spot.false _ c.label.ensures

pub returns : goal.returns
returns c = wet_put _ _ _ _ _ _ c.requires _ _ c.put_kept-count.ensures c.if-count-eq0.false c.if-spot.false _ c.label.ensures _ _ c.put_head.ensures.1 refl
