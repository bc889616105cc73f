-- The first refusal that holds, with the empty stretch; else the stretch in the used part, and whether a key in it is live.
use mathlib.Core.Path.{refl, sym, ap}
use native.Mathlib.Omega.{arith}
use Rattle.steps.proofs.Passed.{refused-is}
use Rattle.dots.specs.Answer.{number_of}
use Rattle.calls.specs.State.{name_of, Sized}
use Rattle.calls.proofs.Clauses.{undamaged, name-ok, used-fits}
use Rattle.judging.proofs.DamageTest.{tells_damage, tells-place}
use Rattle.judging.proofs.Parts.{front-size}
use Rattle.reads.proofs.ReadCalls.{name_most_lem, name-fits, name-size, tombstone_most_lem, tombstone-ascends, part_of_store, look_is, may_look, not_looked_lem, stretch-fits, looked}
use borrow.Author.Rules.{rules}
use Rattle.reads.proofs.lookup.Goals as goal
use Rattle.reads.proofs.lookup.Goals.{Start}

-- the arrays of the state have their sizes
sizes : (c : Start) → Sized c.args.state
sizes c = search rules

pub returns-in-Err : goal.returns-in-Err
returns-in-Err c =
    let r = refused-is _ _ (look_is c.args.state c.args.store.now c.args.label.now _ _ _ (tells_damage c.args.state c.args.store.now c.args.label.now _ c.judge-judged.ensures _ c.is_none.ensures) c.label_ok.ensures c.in-Err.ensures) in
    not_looked_lem c.args.state c.args.store _ c.args.label.now _ c.from.result r.0 c.from.ensures (λ z. r.1 (ap number_of z)) (search rules)

pub slice_bounds-name-end : goal.slice_bounds-name-end
slice_bounds-name-end c =
    front-size c.args.state.name.bytes c.args.state.name.len (name-fits c.args.state c.args.store.now (sizes (goal.at.slice_bounds-name-end c).Start) (may_look c.args.state c.args.store.now c.args.label.now _ _ (look_is c.args.state c.args.store.now c.args.label.now _ _ _ (tells_damage c.args.state c.args.store.now c.args.label.now _ c.judge-judged.ensures _ c.is_none.ensures) c.label_ok.ensures c.early_refusal.ensures) c.in_default.is).0)

pub shared_ref_as_front-name : goal.shared_ref_as_front-name
shared_ref_as_front-name c =
    let size = sizes (goal.at.shared_ref_as_front-name c).Start in
    omega (arith, size.name-size, name-fits c.args.state c.args.store.now size (may_look c.args.state c.args.store.now c.args.label.now _ _ (look_is c.args.state c.args.store.now c.args.label.now _ _ _ (tells_damage c.args.state c.args.store.now c.args.label.now _ c.judge-judged.ensures _ c.is_none.ensures) c.label_ok.ensures c.early_refusal.ensures) c.in_default.is).0)

pub slice_bounds-keys-end : goal.slice_bounds-keys-end
slice_bounds-keys-end c =
    front-size c.args.store.now c.args.state.used (used-fits c.args.state c.args.store.now (undamaged c.args.state c.args.store.now (may_look c.args.state c.args.store.now c.args.label.now _ _ (look_is c.args.state c.args.store.now c.args.label.now _ _ _ (tells_damage c.args.state c.args.store.now c.args.label.now _ c.judge-judged.ensures _ c.is_none.ensures) c.label_ok.ensures c.early_refusal.ensures) c.in_default.is).0))

pub stretch-stretch-requires : goal.stretch-stretch-requires
stretch-stretch-requires c =
    let m = may_look c.args.state c.args.store.now c.args.label.now _ _ (look_is c.args.state c.args.store.now c.args.label.now _ _ _ (tells_damage c.args.state c.args.store.now c.args.label.now _ c.judge-judged.ensures _ c.is_none.ensures) c.label_ok.ensures c.early_refusal.ensures) c.in_default.is in
    (name-ok c.args.state c.args.store.now (undamaged c.args.state c.args.store.now m.0), m.1, tells-place c.args.state c.args.store.now c.args.label.now _ c.judge-judged.ensures m.0 _ c.unwrap_or.ensures)

pub any_listed-requires : goal.any_listed-requires
any_listed-requires c =
    let st = c.args.state in
    let store = c.args.store.now in
    let size = sizes (goal.at.any_listed-requires c).Start in
    let m = may_look c.args.state c.args.store.now c.args.label.now _ _ (look_is c.args.state c.args.store.now c.args.label.now _ _ _ (tells_damage c.args.state c.args.store.now c.args.label.now _ c.judge-judged.ensures _ c.is_none.ensures) c.label_ok.ensures c.early_refusal.ensures) c.in_default.is in
    let part = c.stretch-stretch.ensures in
    let within = part_of_store c.args.store c.stretch-stretch.result (name_of st) c.args.label.now st.used (used-fits st store (undamaged st store m.0)) part.block part.offset part.bytes in
    record {
      short-name = name_most_lem st store m.0;
      keys-fit = stretch-fits st store c.args.label.now m.0 m.1 st.name.len c.stretch-stretch.result.now (sym (name-size st store size m.0)) within.bytes;
      few = tombstone_most_lem st store m.0;
      ascends = tombstone-ascends st store m.0;
      size = size.tombstone-size;
    }

pub returns : goal.returns
returns c =
    let st = c.args.state in
    let store = c.args.store.now in
    let size = sizes (goal.at.returns c).Start in
    let m = may_look c.args.state c.args.store.now c.args.label.now _ _ (look_is c.args.state c.args.store.now c.args.label.now _ _ _ (tells_damage c.args.state c.args.store.now c.args.label.now _ c.judge-judged.ensures _ c.is_none.ensures) c.label_ok.ensures c.early_refusal.ensures) c.in_default.is in
    let part = c.stretch-stretch.ensures in
    let within = part_of_store c.args.store c.stretch-stretch.result (name_of st) c.args.label.now st.used (used-fits st store (undamaged st store m.0)) part.block part.offset part.bytes in
    looked st c.args.store c.stretch-stretch.result c.args.label.now _ c.any_listed.result size m.0 m.1 refl within c.any_listed.ensures
