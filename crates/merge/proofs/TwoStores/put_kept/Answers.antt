use mathlib.Core.Path.{sym, ◌∙◌}
use Prim.Native.Nat.{◌+◌, ◌*◌}
use native.Mathlib.Omega.{arith}
use Rattle.merge.proofs.KeptDots.{walk_start, all-walked, few-done, first_fits_lem, second_fits, falls, one_more, walk-on, label-short, dots-low, dot-room}
use Rattle.merge.proofs.Puts.{PutIf, put_kept, put_not_kept}
use Rattle.merge.proofs.TwoStores.put_kept.Goals as goal
use Rattle.merge.proofs.TwoStores.put_kept.Goals.{then-keeps, else-keeps}

pub overflow_add-size : goal.overflow_add-size
overflow_add-size c = let h = c.args.self.short in omega (arith, label-short _ _ _ _ _ _ c.requires)

pub overflow_add-size-2 : goal.overflow_add-size-2
overflow_add-size-2 c = let h = c.args.self.short in omega (arith, label-short _ _ _ _ _ _ c.requires)

pub overflow_add-from : goal.overflow_add-from
overflow_add-from c = let h = c.requires.place-low in omega (arith, label-short _ _ _ _ _ _ c.requires)

pub overflow_add-from-2 : goal.overflow_add-from-2
overflow_add-from-2 c = let h = c.requires.place-low in omega (arith, label-short _ _ _ _ _ _ c.requires)

pub loop-next-init : goal.loop-next-init
loop-next-init c = walk_start _ _ _ _ _ _ _ _ c.requires.label-keys

pub overflow_mul-count : goal.overflow_mul-count
overflow_mul-count c = let w = c.loop-next.invariant in
    omega (arith, few-done _ _ _ _ _ _ _ _ _ _ _ _ _ w, w.counted, dots-low _ _ _ _ _ _ c.requires)

pub overflow_add-from-then-keeps : goal.overflow_add-from-then-keeps
overflow_add-from-then-keeps c = let w = c.loop-next.invariant in
    let h = c.requires.place-low in
    omega (arith, few-done _ _ _ _ _ _ _ _ _ _ _ _ _ w, w.counted, dots-low _ _ _ _ _ _ c.requires, label-short _ _ _ _ _ _ c.requires)

pub put_dot-requires : goal.put_dot-requires
put_dot-requires c = let w = c.loop-next.invariant in
    λ wet. omega (arith, dot-room _ _ _ _ _ _ c.requires wet _ (one_more _ _ _ _ _ _ _ _ _ _ _ _ _ w _ (sym c.in-Some.is ∙ c.next_dot.ensures) _ c.keeps.ensures c.if-keeps.true), w.same_size)

pub overflow_add-count : goal.overflow_add-count
overflow_add-count c = let w = c.loop-next.invariant in
    omega (arith, few-done _ _ _ _ _ _ _ _ _ _ _ _ _ w, w.counted, dots-low _ _ _ _ _ _ c.requires)

pub past_dot-rest-requires : goal.past_dot-rest-requires
past_dot-rest-requires c =
    let w = c.loop-next.invariant in
    let comes = sym c.in-Some.is ∙ c.next_dot.ensures in
    (first_fits_lem _ _ _ _ _ _ _ _ _ _ _ _ _ w _ comes, second_fits _ _ _ _ _ _ _ _ _ _ _ _ _ w _ comes)

pub loop-next-smaller : goal.loop-next-smaller
loop-next-smaller c =
    let e = c.past_dot-rest.ensures in
    rw (e.1, e.2) (falls _ _ _ _ _ _ _ _ _ _ _ _ _ c.loop-next.invariant _ (sym c.in-Some.is ∙ c.next_dot.ensures))

pub loop-next-preserved : goal.loop-next-preserved
loop-next-preserved c =
    let w = c.loop-next.invariant in
    let comes = sym c.in-Some.is ∙ c.next_dot.ensures in
    let e = c.past_dot-rest.ensures in
    let put : PutIf c.keeps.result c.args.spot.dry c.in-Some.next.dot (c.args.spot.at + c.args.spot.len + 3 + 9 * c.loop-next.count) c.loop-next.out c.if-keeps.out c.loop-next.count c.if-keeps.count =
    elim c.if-keeps.branch [
      | then-keeps v ↦ put_kept c.keeps.result c.args.spot.dry c.in-Some.next.dot (c.args.spot.at + c.args.spot.len + 3 + 9 * c.loop-next.count) c.loop-next.out c.if-keeps.out c.loop-next.count c.if-keeps.count v.if-keeps.true v.count-is (v.out-is ∙ v.put_dot.ensures)
      | else-keeps v ↦ put_not_kept c.keeps.result c.args.spot.dry c.in-Some.next.dot (c.args.spot.at + c.args.spot.len + 3 + 9 * c.loop-next.count) c.loop-next.out c.if-keeps.out c.loop-next.count c.if-keeps.count v.if-keeps.false v.count-is v.out-is
    ] in
    walk-on _ _ _ _ _ _ _ _ _ _ _ _ _ w _ comes _ c.keeps.ensures _ _ _ e.0 e.1 e.2 _ _ put
    (λ kept wet. dot-room _ _ _ _ _ _ c.requires wet _ (one_more _ _ _ _ _ _ _ _ _ _ _ _ _ w _ comes _ c.keeps.ensures kept))

pub returns : goal.returns
returns c = all-walked _ _ _ _ _ _ _ _ _ _ _ _ _ c.loop-next.invariant c.in_default.ensures
