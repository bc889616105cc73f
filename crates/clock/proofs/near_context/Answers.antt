-- One test over the dots.
use Rattle.clock.specs.Row.{window_width}
use Rattle.std.proofs.Common.{ap, ◌∙◌, arith}
use Rattle.dots.specs.Wire.{dots_of}
use Rattle.clock.specs.Reach.{Reach, reach_of, reach_each}
use Rattle.clock.proofs.Reaching.{reach-some}
use Rattle.clock.proofs.Contexts.{start-formed, offer-near}
use Rattle.clock.proofs.near_context.Goals as goal

pub reach_dots-requires : goal.reach_dots-requires
reach_dots-requires c = (c.requires.rows, start-formed window_width (reach_of c.reach_start.result) c.reach_start.ensures)

pub returns : goal.returns
returns c = let words = c.args.words.now in
    let ds = dots_of c.args.context.now in
    c.is_some.ensures
    ∙ reach-some window_width (reach_each window_width words (reach_of c.reach_start.result) ds) c.reach_dots.result c.reach_dots.ensures
    ∙ ap (λ (x : Reach). (reach_each window_width words x ds).ok) c.reach_start.ensures
    ∙ offer-near window_width (omega arith) words ds c.requires
