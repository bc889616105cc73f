use mathlib.Core.Path.{◌≡◌, refl, ap, ◌∙◌}
use mathlib.Core.Bool.{Bool, true, false, cond}
use Prim.Native.Nat.{ℕ, ◌+◌, ◌≤◌}
use native.Mathlib.Omega.{arith}
use lib.Dec.{ltb}
use mir.Val.{bool_byte}
use Rattle.merge.proofs.AllLines.{lines-short, lines_start, set-left, front-within, few-labels, part_bytes, can_put, lines-on, fewer-left, all-merged}
use Rattle.merge.proofs.TwoStores.merge_lines.Goals as goal

one_if : (b : Bool) → bool_byte b ≡ cond b 1 0
one_if true = refl
one_if false = refl

one_most : (b : Bool) → bool_byte b ≤ 1
one_most true = omega arith
one_most false = omega arith

pub loop-next-init : goal.loop-next-init
loop-next-init c = lines_start _ _ _ _ _ _ c.requires.keys.same_set

pub next_label-requires : goal.next_label-requires
next_label-requires c = set-left _ _ _ _ _ _ _ _ _ _ _ _ c.loop-next.invariant

pub front-label-requires : goal.front-label-requires
front-label-requires c = front-within _ _ _ _ _ _ _ _ _ _ _ _ c.loop-next.invariant _ c.in-Some.ensures

pub put_line-size-requires : goal.put_line-size-requires
put_line-size-requires c =
    let e = c.front-label.ensures in
    can_put _ _ _ _ _ _ _ _ _ _ _ _ c.loop-next.invariant _ c.in-Some.ensures _ _ _ e.0 e.1 e.2 c.requires.keys c.requires.has_room

pub overflow_add-labels : goal.overflow_add-labels
overflow_add-labels c =
    let w = c.loop-next.invariant in
    let e = c.front-label.ensures in
    let p = c.requires.keys in
    let h = p.first_short in
    let k = p.second_short in
    omega (
      arith,
      few-labels _ _ _ _ _ _ _ _ _ _ _ _ w,
      part_bytes _ _ _ _ _ _ _ _ _ _ _ _ w _ c.in-Some.ensures _ _ _ e.0 e.1 e.2,
      lines-short _ c.args.sides.now _ _ p.same_set,
      c.from-labels.ensures,
      one_most (ltb 0 c.put_line-size.result),
    )

pub overflow_add-bytes : goal.overflow_add-bytes
overflow_add-bytes c =
    let w = c.loop-next.invariant in
    let e = c.front-label.ensures in
    let p = c.requires.keys in
    let h = p.first_short in
    let k = p.second_short in
    omega (
      arith,
      part_bytes _ _ _ _ _ _ _ _ _ _ _ _ w _ c.in-Some.ensures _ _ _ e.0 e.1 e.2,
      c.put_line-size.ensures.0,
      lines-short _ c.args.sides.now _ _ p.same_set,
    )

pub past-rest-requires : goal.past-rest-requires
past-rest-requires c = front-within _ _ _ _ _ _ _ _ _ _ _ _ c.loop-next.invariant _ c.in-Some.ensures

pub loop-next-preserved : goal.loop-next-preserved
loop-next-preserved c =
    let e = c.front-label.ensures in
    let f = c.past-rest.ensures in
    lines-on _ _ _ _ _ _ _ _ _ _ _ _ c.loop-next.invariant _ c.in-Some.ensures _ _ _ e.0 e.1 e.2 _ _ _ f.0 f.1 f.2
    _ _ c.put_line-size.ensures.0 c.put_line-size.ensures.1 c.requires.has_room _ (ap (λ (m : ℕ). c.loop-next.labels + m) (c.from-labels.ensures ∙ one_if _))

pub loop-next-smaller : goal.loop-next-smaller
loop-next-smaller c =
    let e = c.front-label.ensures in
    let f = c.past-rest.ensures in
    fewer-left _ _ _ _ _ _ _ _ _ _ _ _ c.loop-next.invariant _ c.in-Some.ensures _ _ _ e.0 e.1 e.2 _ _ _ f.0 f.1 f.2

pub returns : goal.returns
returns c = all-merged _ _ _ _ _ _ _ _ _ _ _ _ c.loop-next.invariant c.in_default.ensures
