-- The definition follows the expression.
use Rattle.messages.specs.Read.{mark_ok}
use Rattle.messages.proofs.mark_ok.Goals as goal

pub returns : goal.returns
unfolding mark_ok
returns c = cc
