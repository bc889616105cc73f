-- Ascending dots are joined as they stand.
use Rattle.clock.specs.Row.{window_width}
use Rattle.std.proofs.Common.{◌∙◌, arith}
use Rattle.dots.specs.Wire.{dots_of}
use Rattle.clock.proofs.Contexts.{offer-ready, offer-joined}
use Rattle.clock.proofs.join_context.Goals as goal

pub join_dots-requires : goal.join_dots-requires
join_dots-requires c = offer-ready window_width (omega arith) c.args.words.now (dots_of c.args.context.now) c.requires.1 c.requires.0 c.requires.2

pub returns : goal.returns
returns c = c.join_dots.ensures ∙ offer-joined window_width (omega arith) c.args.words.now (dots_of c.args.context.now) c.requires.1
