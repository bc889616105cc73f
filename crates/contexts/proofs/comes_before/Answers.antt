-- The order by cases.
use Rattle.dots.proofs.Rules.{lower-test}
use Rattle.contexts.proofs.comes_before.Goals as goal

pub returns : goal.returns
returns c = let a = c.args in lower-test a.a a.b
