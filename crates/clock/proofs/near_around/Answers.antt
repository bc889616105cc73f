-- One test over the dots before, the dot, and the dots after.
use Rattle.clock.specs.Row.{window_width}
use Rattle.std.proofs.Common.{◌≡◌, false, ◌∷◌, ◌++◌, sym, ap, ◌∙◌, arith}
use Rattle.dots.specs.Wire.{dots_of}
use Rattle.clock.specs.Reach.{Reach, reach_of, reach_start, reach_each}
use Rattle.clock.proofs.Reaching.{reach-some, around-below, around-there, around-end}
use Rattle.clock.proofs.Contexts.{start-formed, offer-near}
use Rattle.clock.proofs.near_around.Goals as goal

pub reach_dots-requires : goal.reach_dots-requires
reach_dots-requires c = (c.requires.rows, start-formed window_width (reach_of c.reach_start.result) c.reach_start.ensures)

pub returns-in_default : goal.returns-in_default
returns-in_default c = let words = c.args.words.now in
    let xs = dots_of c.args.lower.now in
    let ys = dots_of c.args.higher.now in
    let below : (reach_each window_width words reach_start xs).ok ≡ false = ap (λ (x : Reach). (reach_each window_width words x xs).ok) (sym c.reach_start.ensures) ∙ c.in_default.ensures in
    sym (around-below window_width words xs c.args.dot ys below) ∙ offer-near window_width (omega arith) words (xs ++ (c.args.dot ∷ ys)) c.requires

pub returns-in_default-reach_step : goal.returns-in_default-reach_step
returns-in_default-reach_step c = let words = c.args.words.now in
    let xs = dots_of c.args.lower.now in
    let ys = dots_of c.args.higher.now in
    let first = c.in-Some.ensures.0 ∙ ap (λ (x : Reach). reach_each window_width words x xs) c.reach_start.ensures in
    sym (around-there window_width words xs c.args.dot ys (reach_of c.in-Some.below) first c.in_default-reach_step.ensures) ∙ offer-near window_width (omega arith) words (xs ++ (c.args.dot ∷ ys)) c.requires

pub returns : goal.returns
returns c = let words = c.args.words.now in
    let xs = dots_of c.args.lower.now in
    let ys = dots_of c.args.higher.now in
    let there = reach_of c.in-Some-reach_step.there in
    let first = c.in-Some.ensures.0 ∙ ap (λ (x : Reach). reach_each window_width words x xs) c.reach_start.ensures in
    c.is_some.ensures
    ∙ reach-some window_width (reach_each window_width words there ys) c.reach_dots-2.result c.reach_dots-2.ensures
    ∙ ap (λ (x : Reach). x.ok) (around-end window_width words xs c.args.dot ys (reach_of c.in-Some.below) first there c.in-Some-reach_step.ensures.0)
    ∙ offer-near window_width (omega arith) words (xs ++ (c.args.dot ∷ ys)) c.requires
