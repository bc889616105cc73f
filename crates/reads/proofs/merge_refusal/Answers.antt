-- Each test is its definition.
use Rattle.judging.proofs.Parts.{front-size}
use Rattle.reads.proofs.MergeCalls.{refused-other, not_refused}
use Rattle.reads.proofs.merge_refusal.Goals as goal

pub slice_bounds-other_set-end : goal.slice_bounds-other_set-end
slice_bounds-other_set-end c = front-size _ _ (c.requires c.if-damage.false).0

pub slice_bounds-other_set-end-2 : goal.slice_bounds-other_set-end-2
slice_bounds-other_set-end-2 c = front-size _ _ (c.requires c.if-damage.false).1

pub returns-then-other_set : goal.returns-then-other_set
returns-then-other_set c = refused-other c.args.damage c.args.name.now c.args.given.now c.if-damage.false _ c.other_set.ensures c.if-other_set.true

pub returns : goal.returns
returns c = not_refused c.args.damage c.args.name.now c.args.given.now c.if-damage.false _ c.other_set.ensures c.if-other_set.false
