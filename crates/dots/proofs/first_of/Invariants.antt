-- The invariant: the rows passed do not hold, so the answer is that of the rows left.
use Rattle.std.proofs.Common.{◌≡◌, drop}
use Rattle.dots.specs.Answer.{first_of}
use Rattle.dots.proofs.first_of.Given as goal

abbrev pub invariant-loop-holds : goal.invariant-loop-holds
invariant-loop-holds l = first_of l.rows ≡ first_of (drop l.holds-index l.rows)
