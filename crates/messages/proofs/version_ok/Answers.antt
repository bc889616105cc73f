-- The definition follows the expression.
use Rattle.messages.specs.Read.{version_ok}
use Rattle.messages.proofs.version_ok.Goals as goal

pub returns : goal.returns
unfolding version_ok
returns c = cc
