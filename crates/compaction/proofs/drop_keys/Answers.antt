use native.Mathlib.Omega.{arith}
use Rattle.compaction.proofs.Compaction.{walk-started, key-within, key-room, turn-falls, walk-turned, walk-ended}
use borrow.Author.Rules.{rules}
use Rattle.compaction.proofs.drop_keys.Goals as goal

pub loop-run-init : goal.loop-run-init
loop-run-init c = search (rules, walk-started)

pub overflow_add-next : goal.overflow_add-next
overflow_add-next c = let end = key-within _ _ _ _ _ _ c.loop-run.invariant c.loop-run-test.true c.key_length.ensures in
    omega arith

pub walk_key-run-requires : goal.walk_key-run-requires
walk_key-run-requires c = search (rules, key-room, key-within)

pub loop-run-smaller : goal.loop-run-smaller
loop-run-smaller c = search (rules, turn-falls)

pub loop-run-preserved : goal.loop-run-preserved
loop-run-preserved c = search (rules, walk-turned)

pub returns : goal.returns
returns c = search (rules, walk-ended)
