-- A key that is not passed ends the walk, and so does the end of the keys.
use Rattle.std.proofs.Common.{ap}
use Rattle.store.specs.declared.Keys.{Keys}
use Rattle.store.specs.Cut.{keys_of}
use Rattle.store.proofs.KeyLoops.{walked-none, walked-left, walked-next, walked-ended}
use Rattle.store.proofs.walk_past.Goals as goal

pub loop-key-init : goal.loop-key-init
loop-key-init g c = walked-none _ _ _ _ (ap (λ (k : Keys). keys_of k.n k.rest.now) c.into_iter-key-iterator.ensures.into_iter_gives)

pub returns-then-not-passes-clause-walked : goal.returns-then-not-passes-clause-walked
returns-then-not-passes-clause-walked g c test tests = walked-left _ _ _ _ _ c.loop-key.invariant c.in-Some.key _ c.in-Some.ensures.steps _ c.passes.ensures c.if-not-passes.true test tests

pub loop-key-preserved : goal.loop-key-preserved
loop-key-preserved g c = walked-next _ _ _ _ _ c.loop-key.invariant c.in-Some.key _ c.in-Some.ensures.steps _ c.passes.ensures c.if-not-passes.false

pub returns-clause-walked : goal.returns-clause-walked
returns-clause-walked g c test tests = walked-ended _ _ _ _ _ c.loop-key.invariant c.in-None.ensures.steps.0 test tests
