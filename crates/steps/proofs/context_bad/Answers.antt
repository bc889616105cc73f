-- The definition follows the tests.
use Rattle.steps.proofs.context_bad.Goals as goal

pub returns : goal.returns
returns c = cc
