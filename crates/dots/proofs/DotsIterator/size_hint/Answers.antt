-- As many dots as there are whole nines of bytes.
use native.Mathlib.Omega.{arith}
use Rattle.dots.proofs.Loops.{length-dots_of}
use Rattle.dots.proofs.DotsIterator.size_hint.Goals as goal

pub returns-clause-lower : goal.returns-clause-lower
returns-clause-lower c _ = let n = length-dots_of c.args.self.now.bytes.now in omega arith

pub returns-clause-upper : goal.returns-clause-upper
returns-clause-upper c = let n = length-dots_of c.args.self.now.bytes.now in (tt, omega arith)
