-- The dots before the place, the dot, and those after it are the context with the dot in it.
use Rattle.clock.specs.Row.{window_width}
use Rattle.std.proofs.Common.{◌≡◌, ◌-◌, ◌*◌, ◌∷◌, ◌++◌, length, take, drop, sym, ap, ◌∙◌, subst, arith, length-take-le}
use Rattle.wire.specs.Lists.{insert}
use Rattle.dots.specs.Dots.{compare_dots}
use Rattle.dots.specs.Wire.{dots_of, dot_size}
use Rattle.clock.specs.Clock.{join_each}
use Rattle.clock.specs.Reach.{Ready}
use Rattle.clock.proofs.Contexts.{offer-ready, with-offer, with-near, with-joined, with-around}
use Rattle.clock.proofs.join_with_dot.Goals as goal
use Rattle.clock.proofs.join_with_dot.Goals.{After-place_of-at}

around : (c : After-place_of-at) → let a = c.args in let s = a.context.now in let at = c.place_of-at.result * dot_size in
    insert compare_dots a.dot (dots_of s) ≡ dots_of (take at s) ++ (a.dot ∷ dots_of (take (length s - at) (drop at s)))
around c = with-around window_width c.args.words.now c.args.context.now c.args.dot c.requires.1 c.place_of-at.result c.place_of-at.ensures.1 c.place_of-at.ensures.0

pub slice_bounds-join_around-end : goal.slice_bounds-join_around-end
slice_bounds-join_around-end c = sym (length-take-le (c.place_of-at.result * dot_size) c.args.context.now c.place_of-at.ensures.1)

pub join_around-requires : goal.join_around-requires
join_around-requires c = let words = c.args.words.now in
    let context = c.args.context.now in
    let d = c.args.dot in
    let offer = with-offer window_width words context d c.requires.1 in
    subst (Ready window_width words) (around (goal.at.join_around-requires c).After-place_of-at)
    (offer-ready window_width (omega arith) words (insert compare_dots d (dots_of context)) offer c.requires.0 (with-near window_width words context d c.requires.1 ∙ c.requires.2))

pub returns : goal.returns
returns c = let words = c.args.words.now in
    c.join_around.ensures ∙ ap (join_each window_width words) (sym (around (goal.at.returns c).After-place_of-at)) ∙ with-joined window_width words c.args.context.now c.args.dot c.requires.1
