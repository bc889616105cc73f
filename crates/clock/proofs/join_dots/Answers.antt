use Rattle.std.proofs.Common.{◌≡◌, sym, ap, ◌∙◌, subst}
use Rattle.clock.specs.Row.{window_width}
use Rattle.clock.specs.Clock.{join_each}
use Rattle.dots.specs.Wire.{dots_of}
use Rattle.clock.specs.Reach.{Ready}
use Rattle.clock.proofs.Reaching.{ready-head, ready-tail}
use Rattle.clock.proofs.join_dots.Goals as goal

pub loop-dot-init : goal.loop-dot-init
loop-dot-init c =
    let same : dots_of c.into_iter-dot-iterator.result.bytes.now ≡ dots_of c.args.offered.now = cc in
    (subst (Ready window_width c.args.words.now) (sym same) c.requires, ap (join_each window_width c.args.words.now) same)

pub join_dot-requires : goal.join_dot-requires
join_dot-requires c = ready-head window_width c.loop-dot.words c.in-Some.dot _ (subst (Ready window_width c.loop-dot.words) c.in-Some.ensures.steps c.loop-dot.invariant.0)

pub loop-dot-preserved : goal.loop-dot-preserved
unfolding join_each
loop-dot-preserved c =
    let words = c.loop-dot.words in
    let next = c.in-Some.ensures.steps in
    rw c.join_dot.ensures
    (ready-tail window_width words c.in-Some.dot _ (subst (Ready window_width words) next c.loop-dot.invariant.0), ap (join_each window_width words) (sym next) ∙ c.loop-dot.invariant.1)

pub returns : goal.returns
unfolding join_each
returns c = sym (ap (join_each window_width c.loop-dot.words) c.in-None.ensures.steps.0) ∙ c.loop-dot.invariant.1
