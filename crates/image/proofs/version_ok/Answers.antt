-- The two bytes as a number.
use mathlib.Core.Path.{ap}
use lib.Dec.{eqb}
use Rattle.calls.specs.Image.{image_version}
use Rattle.calls.specs.ImageRead.{version_ok}
use Rattle.image.proofs.version_ok.Goals as goal

pub returns : goal.returns
unfolding version_ok
returns c = ap (λ n. eqb n image_version) c.two_at.ensures.0
