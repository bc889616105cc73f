-- The state's own rules first, then the store.
use mathlib.Core.Path.{ap}
use mathlib.Core.Bool.{not}
use Rattle.store.proofs.LowFront.{judged-bad}
use Rattle.judging.proofs.DamageTest.{state-damaged, store-decides, name-kept}
use Rattle.judging.proofs.judge.Goals as goal

pub returns-then-not-state_ok : goal.returns-then-not-state_ok
returns-then-not-state_ok c = judged-bad _ _ _ _ (ap not (state-damaged c.args.state.now c.args.store.now _ c.state_ok.ensures c.if-not-state_ok.true))

pub judge_store-requires : goal.judge_store-requires
judge_store-requires c = name-kept c.args.state.now _ c.state_ok.ensures c.if-not-state_ok.false

pub returns : goal.returns
returns c = rw (← store-decides c.args.state.now c.args.store.now _ c.state_ok.ensures c.if-not-state_ok.false) c.judge_store.ensures
