--
use Rattle.std.proofs.Common.{sym, ◌∙◌}
use mathlib.Core.Bool.{false≢true}
use borrow.Author.Tests.{eqb-true, eq-eqb}
use Rattle.clock.specs.Reach.{reach_of}
use Rattle.clock.proofs.Reaching.{for_same, for_other}
use Rattle.clock.proofs.row_for.Goals as goal

pub returns-then-eq : goal.returns-then-eq
returns-then-eq c = let a = c.args in sym (for_same a.words.now (reach_of a.x) a.actor.number (eqb-true a.x.actor.number a.actor.number (sym c.eq.ensures ∙ c.if-eq.true)))

pub returns : goal.returns
returns c = let a = c.args in c.row_of.ensures ∙ sym (for_other a.words.now (reach_of a.x) a.actor.number (λ e. false≢true (sym c.if-eq.false ∙ c.eq.ensures ∙ eq-eqb a.x.actor.number a.actor.number e)))
