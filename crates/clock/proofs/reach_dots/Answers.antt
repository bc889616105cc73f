use Rattle.std.proofs.Common.{ap, sym, ◌∙◌}
use Rattle.clock.specs.Row.{window_width}
use Rattle.clock.specs.Reach.{Reach, reach_of}
use Rattle.clock.proofs.Reaching.{reach-next, reach-stop, reach-last}
use Rattle.clock.proofs.reach_dots.Goals as goal

pub loop-dot-init : goal.loop-dot-init
loop-dot-init c = (c.requires.1, cc)

pub reach_step-requires : goal.reach_step-requires
reach_step-requires c = (c.requires.0, c.loop-dot.invariant.0)

pub loop-dot-preserved : goal.loop-dot-preserved
loop-dot-preserved c = (
  c.in_ok-x.ensures.1,
  reach-next window_width c.args.words.now (reach_of c.loop-dot.x) _ (reach_of c.in_ok-x.x) c.in-Some.dot _ c.in-Some.ensures.steps c.in_ok-x.ensures.0 ∙ c.loop-dot.invariant.1,
)

pub returns-in_err-x : goal.returns-in_err-x
returns-in_err-x c =
    rw c.from_residual.ensures
    (ap (λ (y : Reach). y.ok) (sym c.loop-dot.invariant.1) ∙ reach-stop window_width c.args.words.now (reach_of c.loop-dot.x) _ c.in-Some.dot _ c.in-Some.ensures.steps c.in_err-x.ensures)

pub returns : goal.returns
returns c = (reach-last window_width c.args.words.now (reach_of c.loop-dot.x) _ c.in-None.ensures.steps.0 ∙ c.loop-dot.invariant.1, c.loop-dot.invariant.0)
