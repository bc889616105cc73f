-- One dot is in reach of the row at hand, or there is no reach.
use Rattle.std.proofs.Common.{true, sym, refl, ap, ◌∙◌, subst, inr, arith}
use Rattle.clock.specs.Row.{window_width, Row, join, in_reach}
use Rattle.clock.proofs.Rows.{WellFormed, formed, forms}
use Rattle.clock.specs.Reach.{Reach, reach_of}
use Rattle.clock.proofs.Reaching.{for_formed, step_in, step-out, step-formed}
use Rattle.clock.proofs.reach_step.Goals as goal

pub returns-then-not-reaches : goal.returns-then-not-reaches
returns-then-not-reaches c = let a = c.args in
    let out = ap (λ (r : Row). in_reach window_width r a.dot.counter.number) (sym c.row_for-row.ensures) ∙ sym c.reaches.ensures ∙ c.if-not-reaches.true in
    ap (λ (y : Reach). y.ok) (step-out window_width a.words.now (reach_of a.x) a.dot (inr out))

pub join-joined-requires : goal.join-joined-requires
join-joined-requires c = let a = c.args in (
  rw c.row_for-row.ensures (forms (for_formed window_width a.words.now (reach_of a.x) a.dot.actor.number c.requires.0 (formed c.requires.1))),
  sym c.reaches.ensures ∙ c.if-not-reaches.false,
)

pub returns : goal.returns
returns c =
    let a = c.args in
    let words = a.words.now in
    let x = reach_of a.x in
    let row = ap (λ (r : Row). join window_width r a.dot.counter.number) c.row_for-row.ensures in
    let reaches = ap (λ (r : Row). in_reach window_width r a.dot.counter.number) (sym c.row_for-row.ensures) ∙ sym c.reaches.ensures ∙ c.if-not-reaches.false in
    let stepped = ap {B = Reach} (λ r. record { ok = true; actor = a.dot.actor.number; row = r }) (c.join-joined.ensures ∙ row) ∙ sym (step_in window_width words x a.dot refl reaches) in
    let formed-row = step-formed window_width words x a.dot c.requires.0 (formed c.requires.1) (omega (arith, c.well_formed.1.1.0)) in
    (stepped, forms (subst (λ (y : Reach). WellFormed window_width y.row) (sym stepped) formed-row))
