-- The first of the refusals 1 and 7 that holds; else the merged lines of two undamaged stores of one set, or 13.
use mathlib.Core.Path.{refl, ap}
use Prim.Native.Nat.{◌*◌}
use lib.ListN.{replicate}
use Rattle.dots.specs.Wire.{tombstone_size}
use Rattle.dots.specs.Answer.{number_of}
use Rattle.steps.proofs.Passed.{refused-is}
use Rattle.calls.specs.State.{Sized}
use Rattle.calls.proofs.Clauses.{undamaged, used-fits}
use Rattle.judging.proofs.Parts.{front-size}
use Rattle.reads.proofs.MergeCalls.{names-fit, sides-answered, no_merge, may-merge, mergeable, first-room, second-room, end_fits, stand, merged-listing}
use borrow.Author.Rules.{rules}
use Rattle.reads.proofs.merge.Goals as goal
use Rattle.reads.proofs.merge.Goals.{Start}

-- the arrays of both states have their sizes
sizes : (c : Start) → Sized c.args.first × Sized c.args.second
sizes c = (search rules, search rules)

pub merge_refusal-requires : goal.merge_refusal-requires
merge_refusal-requires c = names-fit c.args.first c.args.a.now c.args.second c.args.b.now _ _ c.damaged-first_damaged.ensures c.damaged-second_damaged.ensures (sizes (goal.at.merge_refusal-requires c).Start).0 (sizes (goal.at.merge_refusal-requires c).Start).1

pub returns-in-Err : goal.returns-in-Err
returns-in-Err c =
    let r = refused-is _ _ (sides-answered c.args.first c.args.a.now c.args.second c.args.b.now _ _ c.damaged-first_damaged.ensures c.damaged-second_damaged.ensures _ c.in-Err.ensures) in
    no_merge c.args.first c.args.a.now c.args.second c.args.b.now _ r.0 _ (λ z. r.1 (ap number_of z))

pub put_tombstone-split-requires : goal.put_tombstone-split-requires
put_tombstone-split-requires c = let m = may-merge c.args.first c.args.a.now c.args.second c.args.b.now _ _ (sides-answered c.args.first c.args.a.now c.args.second c.args.b.now _ _ c.damaged-first_damaged.ensures c.damaged-second_damaged.ensures _ c.merge_refusal.ensures) c.in_default.is in
    first-room c.args.first c.args.a.now c.args.second c.args.b.now (sizes (goal.at.put_tombstone-split-requires c).Start).0 m.0 m.1 m.2 (sizes (goal.at.put_tombstone-split-requires c).Start).1 (replicate (2 * tombstone_size) 0) refl

pub put_tombstone-end-requires : goal.put_tombstone-end-requires
put_tombstone-end-requires c = let m = may-merge c.args.first c.args.a.now c.args.second c.args.b.now _ _ (sides-answered c.args.first c.args.a.now c.args.second c.args.b.now _ _ c.damaged-first_damaged.ensures c.damaged-second_damaged.ensures _ c.merge_refusal.ensures) c.in_default.is in
    second-room c.args.first c.args.a.now c.args.second c.args.b.now (sizes (goal.at.put_tombstone-end-requires c).Start).0 m.0 m.1 m.2 (sizes (goal.at.put_tombstone-end-requires c).Start).1 (replicate (2 * tombstone_size) 0) refl _ _ c.put_tombstone-split.ensures.0 c.put_tombstone-split.ensures.1

pub slice_bounds-put_merged-end : goal.slice_bounds-put_merged-end
slice_bounds-put_merged-end c = front-size c.args.a.now c.args.first.used (used-fits c.args.first c.args.a.now (undamaged c.args.first c.args.a.now (may-merge c.args.first c.args.a.now c.args.second c.args.b.now _ _ (sides-answered c.args.first c.args.a.now c.args.second c.args.b.now _ _ c.damaged-first_damaged.ensures c.damaged-second_damaged.ensures _ c.merge_refusal.ensures) c.in_default.is).0))

pub slice_bounds-put_merged-end-2 : goal.slice_bounds-put_merged-end-2
slice_bounds-put_merged-end-2 c = front-size c.args.b.now c.args.second.used (used-fits c.args.second c.args.b.now (undamaged c.args.second c.args.b.now (may-merge c.args.first c.args.a.now c.args.second c.args.b.now _ _ (sides-answered c.args.first c.args.a.now c.args.second c.args.b.now _ _ c.damaged-first_damaged.ensures c.damaged-second_damaged.ensures _ c.merge_refusal.ensures) c.in_default.is).1))

pub slice_bounds-dead-end : goal.slice_bounds-dead-end
slice_bounds-dead-end c = let m = may-merge c.args.first c.args.a.now c.args.second c.args.b.now _ _ (sides-answered c.args.first c.args.a.now c.args.second c.args.b.now _ _ c.damaged-first_damaged.ensures c.damaged-second_damaged.ensures _ c.merge_refusal.ensures) c.in_default.is in
    end_fits c.args.first c.args.a.now c.args.second c.args.b.now (sizes (goal.at.slice_bounds-dead-end c).Start).0 m.0 m.1 m.2 (sizes (goal.at.slice_bounds-dead-end c).Start).1 (replicate (2 * tombstone_size) 0) refl _ _ c.put_tombstone-split.ensures.0 c.put_tombstone-split.ensures.1 _ _ c.put_tombstone-end.ensures.0 c.put_tombstone-end.ensures.1

pub slice_bounds-put_merged-end-3 : goal.slice_bounds-put_merged-end-3
slice_bounds-put_merged-end-3 c = let m = may-merge c.args.first c.args.a.now c.args.second c.args.b.now _ _ (sides-answered c.args.first c.args.a.now c.args.second c.args.b.now _ _ c.damaged-first_damaged.ensures c.damaged-second_damaged.ensures _ c.merge_refusal.ensures) c.in_default.is in
    front-size _ _ (end_fits c.args.first c.args.a.now c.args.second c.args.b.now (sizes (goal.at.slice_bounds-put_merged-end-3 c).Start).0 m.0 m.1 m.2 (sizes (goal.at.slice_bounds-put_merged-end-3 c).Start).1 (replicate (2 * tombstone_size) 0) refl _ _ c.put_tombstone-split.ensures.0 c.put_tombstone-split.ensures.1 _ _ c.put_tombstone-end.ensures.0 c.put_tombstone-end.ensures.1)

pub put_merged-requires : goal.put_merged-requires
put_merged-requires c = let m = may-merge c.args.first c.args.a.now c.args.second c.args.b.now _ _ (sides-answered c.args.first c.args.a.now c.args.second c.args.b.now _ _ c.damaged-first_damaged.ensures c.damaged-second_damaged.ensures _ c.merge_refusal.ensures) c.in_default.is in
    (mergeable c.args.first c.args.a.now c.args.second c.args.b.now (sizes (goal.at.put_merged-requires c).Start).0 m.0 m.1 m.2, stand c.args.first c.args.a.now c.args.second c.args.b.now (sizes (goal.at.put_merged-requires c).Start).0 m.0 m.1 m.2 (sizes (goal.at.put_merged-requires c).Start).1 (replicate (2 * tombstone_size) 0) refl _ _ c.put_tombstone-split.ensures.0 c.put_tombstone-split.ensures.1 _ _ c.put_tombstone-end.ensures.0 c.put_tombstone-end.ensures.1)

pub returns : goal.returns
returns c = let m = may-merge c.args.first c.args.a.now c.args.second c.args.b.now _ _ (sides-answered c.args.first c.args.a.now c.args.second c.args.b.now _ _ c.damaged-first_damaged.ensures c.damaged-second_damaged.ensures _ c.merge_refusal.ensures) c.in_default.is in
    merged-listing c.args.first c.args.a.now c.args.second c.args.b.now (sizes (goal.at.returns c).Start).0 m.0 m.1 m.2 (sizes (goal.at.returns c).Start).1 (replicate (2 * tombstone_size) 0) refl _ _ c.put_tombstone-split.ensures.0 c.put_tombstone-split.ensures.1 _ _ c.put_tombstone-end.ensures.0 c.put_tombstone-end.ensures.1 _ _ c.put_merged.result _ c.listed.ensures c.put_merged.ensures
