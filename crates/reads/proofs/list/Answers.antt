-- Refusal 1, or the listing of the undamaged store.
use mathlib.Core.Bool.{false}
use mathlib.Core.Path.{◌≡◌, sym, ◌∙◌}
use native.Mathlib.Omega.{arith}
use Rattle.calls.specs.State.{used_part, Sized}
use Rattle.calls.specs.Damage.{damaged}
use Rattle.calls.proofs.Clauses.{undamaged, used-fits}
use Rattle.judging.proofs.Parts.{front-size}
use Rattle.reads.proofs.ReadCalls.{stored-keys, readable, damaged-listing, undamaged-listing}
use borrow.Author.Rules.{rules}
use Rattle.reads.proofs.list.Goals as goal
use Rattle.reads.proofs.list.Goals.{Else-damaged, Start}

-- the arrays of the state have their sizes
sizes : (c : Start) → Sized c.args.state
sizes c = search rules

-- an undamaged store's used part
may : (e : Else-damaged) → damaged e.args.state e.args.store.now ≡ false
may e = sym e.damaged.ensures ∙ e.if-damaged.false

pub returns-then-damaged : goal.returns-then-damaged
returns-then-damaged c = damaged-listing c.args.state c.args.store.now _ (sym c.damaged.ensures ∙ c.if-damaged.true)

pub slice_bounds-keys-end : goal.slice_bounds-keys-end
slice_bounds-keys-end c = front-size c.args.store.now c.args.state.used (used-fits c.args.state c.args.store.now (undamaged c.args.state c.args.store.now (may (goal.at.slice_bounds-keys-end c).Else-damaged)))

pub put_used-requires : goal.put_used-requires
put_used-requires c = readable c.args.state c.args.store.now (used_part c.args.state c.args.store.now) (sizes (goal.at.put_used-requires c).Start) (may (goal.at.put_used-requires c).Else-damaged) (stored-keys c.args.state c.args.store.now (sizes (goal.at.put_used-requires c).Start) (may (goal.at.put_used-requires c).Else-damaged)) (omega arith)

pub returns : goal.returns
returns c = undamaged-listing c.args.state c.args.store.now _ _ c.put_used.result _ (sizes (goal.at.returns c).Start) (may (goal.at.returns c).Else-damaged) c.listed.ensures c.put_used.ensures
