-- Bytes that are no block, a state that stays, or what compaction leaves, packed.
use Prim.Native.Nat.{ℕ}
use mathlib.Core.Path.{sym}
use mathlib.Core.List.{[]}
use lib.ListN.{get_or}
use mir.Syntax.{w8}
use mir.Val.{Fits}
use Rattle.calls.specs.declared.State.{State}
use Rattle.calls.specs.Calls.{compact_result}
use Rattle.block.proofs.Blocks.{state-sized}
use Rattle.capi.proofs.Calls.{not_changed, changed, unchanged}
use Rattle.controller.proofs.Compacting.{compact-stays}
use borrow.Author.Rules.{rules}
use Rattle.calls.specs.State.{Sized}
use Rattle.capi.proofs.ptl_compact.Goals as goal

pub returns-then-state-ne-STATE_SIZE : goal.returns-then-state-ne-STATE_SIZE
returns-then-state-ne-STATE_SIZE c = not_changed c.args.state.now c.if-state-ne-STATE_SIZE.true c.args.store.now [] (λ (st : State). compact_result st c.args.store.now)

pub returns-then-read-eq0 : goal.returns-then-read-eq0
returns-then-read-eq0 c = let size = c.if-state-ne-STATE_SIZE.false in
    let block = c.args.state.now in
    let store = c.args.store.now in
    let st = c.unpack-read.result in
    let small : (i : ℕ) → Fits w8 (get_or block i 0) = search rules in
    let sized : Sized st = rw c.unpack-read.ensures (state-sized block size) in
    let stays = compact-stays st store sized c.if-read-eq0.true _ c.compact_answer.ensures in
    unchanged block size st c.unpack-read.ensures store [] (λ (x : State). compact_result x store) (λ i. (small i).fits) _ _ _ _ stays (sym stays.state-is) c.from.ensures

pub returns : goal.returns
returns c = changed c.args.state.now c.if-state-ne-STATE_SIZE.false c.unpack-read.result c.unpack-read.ensures c.args.store.now [] (λ (st : State). compact_result st c.args.store.now)
    _ _ _ _ c.compact-done.result c.compact-done.ensures c.pack.ensures c.from-2.ensures
