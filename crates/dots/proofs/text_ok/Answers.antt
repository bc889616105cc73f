-- No byte is 0 where the first 0 is past the end.
use Rattle.dots.specs.Names.{text_ok}
use Rattle.dots.proofs.Rules.{nonzero}
use Rattle.dots.proofs.text_ok.Goals as goal

pub returns : goal.returns
unfolding text_ok
returns c = rw (c.zero_at.ensures.0, nonzero)
