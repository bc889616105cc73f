use mathlib.Core.Path.{refl}
use Rattle.listing.proofs.Folds.{count_fits, part-short, part-stored, part-some, next-within, next-falls, carried, put-start, put-end, labels-fit, bytes_fit, part_room, put_full, put-none, put-more}
use borrow.Author.Rules.{rules}
use Rattle.listing.proofs.Listing.put_lines.Goals as goal
use Rattle.listing.proofs.Listing.put_lines.Goals.{then-not-dry, else-not-dry}

pub loop-at-init : goal.loop-at-init
loop-at-init c = search (rules, put-start)

pub first_line-line-requires : goal.first_line-line-requires
first_line-line-requires c = search (rules, part-short, part-stored, part-some)

pub listed_size-size-requires : goal.listed_size-size-requires
listed_size-size-requires c = search (rules, count_fits, part-short)

pub returns-then-out-bytes : goal.returns-then-out-bytes
returns-then-out-bytes c = search (rules, put_full)

pub put_listed-labels-requires : goal.put_listed-labels-requires
put_listed-labels-requires c = search (rules, part-short, part_room)

pub overflow_add-labels : goal.overflow_add-labels
overflow_add-labels c = labels-fit _ _ _ _ _ _ _ _ _ c.loop-at.invariant _ c.first_line-line.ensures _ c.listed_size-size.ensures _ c.put_listed-labels.ensures.0 (search rules)

pub overflow_add-bytes : goal.overflow_add-bytes
overflow_add-bytes c = search (rules, bytes_fit)

pub overflow_add-at : goal.overflow_add-at
overflow_add-at c = search (rules, next-within)

pub loop-at-smaller : goal.loop-at-smaller
loop-at-smaller c = search (rules, next-falls)

pub loop-at-preserved : goal.loop-at-preserved
loop-at-preserved c =
    let inv = c.loop-at.invariant in
    let line = c.first_line-line.ensures in
    let size = c.listed_size-size.ensures in
    elim c.if-not-dry.branch [
      | then-not-dry w ↦ carried _ _ _ _ _ _ _ _ _ _ _ w.out-is w.labels-is (put-more _ _ _ _ _ _ _ _ _ inv _ line _ size c.if-out-bytes.false w.if-not-dry.true _ _ _ w.put_listed-labels.ensures refl)
      | else-not-dry w ↦ carried _ _ _ _ _ _ _ _ _ _ _ w.out-is w.labels-is (put-none _ _ _ _ _ _ _ _ _ inv _ line _ size c.if-out-bytes.false w.if-not-dry.false)
    ]

pub returns : goal.returns
returns c = search (rules, put-end)
