-- By the prefix, and by what follows it.
use Rattle.store.proofs.Front.{front-other, front_fits, front-refused, front-end, front-passed}
use Rattle.std.proofs.Common.{sym, refl, arith, rules}
use Rattle.store.proofs.front_length.Goals as goal

pub returns-then-not-starts_with : goal.returns-then-not-starts_with
returns-then-not-starts_with c = sym (search (rules, front-other))

pub slice_bounds-after_length-count : goal.slice_bounds-after_length-count
slice_bounds-after_length-count c = search (rules, front_fits)

pub slice_bounds-after_length-start : goal.slice_bounds-after_length-start
slice_bounds-after_length-start c = search (rules, front_fits)

pub returns-in_err-len : goal.returns-in_err-len
returns-in_err-len c = rw c.from_residual.ensures (sym (front-refused _ _ _ c.requires.0 c.type_inv.s _ c.requires.1 _ c.starts_with.ensures c.if-not-starts_with.false _ refl (rw c.in_err-len.was at c.after_length.ensures)))

pub overflow_add-result : goal.overflow_add-result
overflow_add-result c =
    let read = rw c.in_ok-len.was at c.after_length.ensures in
    front-end _ _ _ c.requires.0 c.type_inv.s _ c.requires.1 _ c.starts_with.ensures c.if-not-starts_with.false _ read.0 read.1 (omega arith)

pub returns : goal.returns
returns c =
    let read = rw c.in_ok-len.was at c.after_length.ensures in
    (front-passed _ _ _ c.requires.0 c.type_inv.s _ c.requires.1 _ c.starts_with.ensures c.if-not-starts_with.false _ read.0 read.1, λ z. omega (arith, read.1))
