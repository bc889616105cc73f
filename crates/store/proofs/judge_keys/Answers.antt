use Rattle.std.proofs.Common.{sym, arith, rules}
use Rattle.store.proofs.LowFront.{passed_none, passed-next, judged-bad, judged-rest}
use Rattle.store.proofs.NextKey.{passing-none}
use Rattle.store.proofs.Prefixes.{start-few}
use Rattle.store.proofs.judge_keys.Goals as goal

pub prefix_of-prefix-requires : goal.prefix_of-prefix-requires
prefix_of-prefix-requires c = search (rules, start-few)

pub loop-last-init : goal.loop-last-init
loop-last-init c = (passing-none _ _ _, passed_none _ _ _)

pub overflow_add-last : goal.overflow_add-last
overflow_add-last c = let p = c.loop-last.invariant.0.tail_in in omega arith

pub returns-in_err-next : goal.returns-in_err-next
returns-in_err-next c = rw c.from_residual.ensures (judged-bad _ _ _ _ (sym (rw c.in_err-next.was at c.judge_run.ensures)))

pub low_after-low-requires : goal.low_after-low-requires
low_after-low-requires c = (rw c.in_ok-next.was at c.judge_run.ensures).0.tail_in

pub loop-last-smaller : goal.loop-last-smaller
loop-last-smaller c = let r = rw c.in_ok-next.was at c.judge_run.ensures in let e = c.run_end-stop.ensures in omega arith

pub loop-last-preserved : goal.loop-last-preserved
loop-last-preserved c = let r = rw c.in_ok-next.was at c.judge_run.ensures in
    (r.0, passed-next _ _ _ _ _ _ _ c.low_after-low.ensures r.0 c.loop-last.invariant.1)

pub returns : goal.returns
returns c = judged-rest _ _ _ _ _ _ c.judge_rest.ensures c.loop-last.invariant.1
