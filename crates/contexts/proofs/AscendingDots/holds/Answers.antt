-- The dot is among ascending ones exactly if it stands at its place.
use Rattle.std.proofs.Common.{◌*◌, ap, ◌∙◌}
use Rattle.wire.proofs.Parts.{rest_part}
use Rattle.dots.specs.Wire.{dot_size}
use Rattle.contexts.proofs.Search.{holds_first}
use Rattle.contexts.proofs.AscendingDots.holds.Goals as goal

pub returns : goal.returns
returns c = c.eq.ensures ∙ holds_first c.args.self.dots.now c.args.dot c.args.self.ascending c.place-at.result c.place-at.ensures.0 c.place-at.ensures.1 c.dots_in.result.bytes.now (ap (λ b. b.now) c.dots_in.ensures ∙ rest_part c.args.self.dots.now (c.place-at.result * dot_size)) _ c.next.result c.next.ensures.steps
