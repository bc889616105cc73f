-- The dots before the place, the dot, and those after it are the context with the dot in it.
use Rattle.clock.specs.Row.{window_width}
use Rattle.std.proofs.Common.{◌≡◌, ◌-◌, ◌*◌, ◌∷◌, ◌++◌, length, take, drop, sym, ap, ◌∙◌, subst, length-take-le}
use Rattle.wire.specs.Lists.{insert}
use Rattle.dots.specs.Dots.{compare_dots}
use Rattle.dots.specs.Wire.{dots_of, dot_size}
use Rattle.clock.specs.Clock.{near}
use Rattle.clock.specs.Reach.{Offer}
use Rattle.clock.proofs.Contexts.{with-offer, with-near, with-around}
use Rattle.clock.proofs.near_with_dot.Goals as goal
use Rattle.clock.proofs.near_with_dot.Goals.{After-place_of-at}

around : (c : After-place_of-at) → let a = c.args in let s = a.context.now in let at = c.place_of-at.result * dot_size in
    insert compare_dots a.dot (dots_of s) ≡ dots_of (take at s) ++ (a.dot ∷ dots_of (take (length s - at) (drop at s)))
around c = with-around window_width c.args.words.now c.args.context.now c.args.dot c.requires c.place_of-at.result c.place_of-at.ensures.1 c.place_of-at.ensures.0

pub slice_bounds-near_around-end : goal.slice_bounds-near_around-end
slice_bounds-near_around-end c = sym (length-take-le (c.place_of-at.result * dot_size) c.args.context.now c.place_of-at.ensures.1)

pub near_around-requires : goal.near_around-requires
near_around-requires c = subst (Offer window_width c.args.words.now) (around (goal.at.near_around-requires c).After-place_of-at) (with-offer window_width c.args.words.now c.args.context.now c.args.dot c.requires)

pub returns : goal.returns
returns c = let words = c.args.words.now in
    c.near_around.ensures ∙ ap (near window_width words) (sym (around (goal.at.returns c).After-place_of-at)) ∙ with-near window_width words c.args.context.now c.args.dot c.requires
