-- The first refusal that holds; else the lines of the keys past the starting label.
use mathlib.Core.Path.{ap}
use native.Mathlib.Omega.{arith}
use Rattle.dots.specs.Answer.{number_of}
use Rattle.steps.proofs.Passed.{refused-is}
use Rattle.calls.specs.State.{Sized}
use Rattle.calls.proofs.Clauses.{undamaged, name-ok, used-fits}
use Rattle.judging.proofs.DamageTest.{tells_damage, tells-place}
use Rattle.judging.proofs.Parts.{front-size}
use Rattle.reads.proofs.ReadCalls.{name-fits}
use Rattle.reads.proofs.PageCalls.{may-page, no_page, page-readable, past-start, page-given}
use borrow.Author.Rules.{rules}
use Rattle.reads.proofs.page.Goals as goal
use Rattle.reads.proofs.page.Goals.{Start}

-- the arrays of the state have their sizes
sizes : (c : Start) → Sized c.args.state
sizes c = search rules

pub returns-in-Err : goal.returns-in-Err
returns-in-Err c =
    let r = refused-is _ _ c.in-Err.ensures in
    no_page c.args.state c.args.store.now c.args.start.now _ _ (tells_damage c.args.state c.args.store.now c.args.start.now _ c.judge-judged.ensures _ c.is_none.ensures)
    c.start_bad.ensures _ r.0 _ (λ z. r.1 (ap number_of z))

pub slice_bounds-name-end : goal.slice_bounds-name-end
slice_bounds-name-end c =
    front-size c.args.state.name.bytes c.args.state.name.len (name-fits c.args.state c.args.store.now (sizes (goal.at.slice_bounds-name-end c).Start) (may-page c.args.state c.args.store.now c.args.start.now _ _ (tells_damage c.args.state c.args.store.now c.args.start.now _ c.judge-judged.ensures _ c.is_none.ensures) c.start_bad.ensures _ _ c.early_refusal.ensures c.in_default.is).0)

pub shared_ref_as_front-name : goal.shared_ref_as_front-name
shared_ref_as_front-name c =
    let size = sizes (goal.at.shared_ref_as_front-name c).Start in
    omega (arith, size.name-size, name-fits c.args.state c.args.store.now size (may-page c.args.state c.args.store.now c.args.start.now _ _ (tells_damage c.args.state c.args.store.now c.args.start.now _ c.judge-judged.ensures _ c.is_none.ensures) c.start_bad.ensures _ _ c.early_refusal.ensures c.in_default.is).0)

pub slice_bounds-keys-end : goal.slice_bounds-keys-end
slice_bounds-keys-end c =
    front-size c.args.store.now c.args.state.used (used-fits c.args.state c.args.store.now (undamaged c.args.state c.args.store.now (may-page c.args.state c.args.store.now c.args.start.now _ _ (tells_damage c.args.state c.args.store.now c.args.start.now _ c.judge-judged.ensures _ c.is_none.ensures) c.start_bad.ensures _ _ c.early_refusal.ensures c.in_default.is).0))

pub page_start-from-requires : goal.page_start-from-requires
page_start-from-requires c =
    let m = may-page c.args.state c.args.store.now c.args.start.now _ _ (tells_damage c.args.state c.args.store.now c.args.start.now _ c.judge-judged.ensures _ c.is_none.ensures) c.start_bad.ensures _ _ c.early_refusal.ensures c.in_default.is in
    record {
      named = name-ok c.args.state c.args.store.now (undamaged c.args.state c.args.store.now m.0);
      started = m.1;
      passed = tells-place c.args.state c.args.store.now c.args.start.now _ c.judge-judged.ensures m.0 _ c.unwrap_or.ensures;
    }

pub put_used-requires : goal.put_used-requires
put_used-requires c =
    let m = may-page c.args.state c.args.store.now c.args.start.now _ _ (tells_damage c.args.state c.args.store.now c.args.start.now _ c.judge-judged.ensures _ c.is_none.ensures) c.start_bad.ensures _ _ c.early_refusal.ensures c.in_default.is in
    page-readable c.args.state c.args.store.now c.args.start.now _ (past-start c.args.state c.args.store.now c.args.start.now _ c.page_start-from.ensures.0) (sizes (goal.at.put_used-requires c).Start) m.0 m.1

pub returns : goal.returns
returns c =
    let m = may-page c.args.state c.args.store.now c.args.start.now _ _ (tells_damage c.args.state c.args.store.now c.args.start.now _ c.judge-judged.ensures _ c.is_none.ensures) c.start_bad.ensures _ _ c.early_refusal.ensures c.in_default.is in
    rw c.paged.ensures (page-given c.args.state c.args.store.now c.args.start.now _ _ _ c.put_used.result (sizes (goal.at.returns c).Start) m.0 m.1
    (past-start c.args.state c.args.store.now c.args.start.now _ c.page_start-from.ensures.0) c.put_used.ensures)
