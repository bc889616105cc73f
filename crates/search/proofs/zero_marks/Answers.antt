-- The lowest mark is that of the lowest 0.
use Rattle.std.proofs.Common.{rules}
use Rattle.search.proofs.ZeroBytes.{word-zero}
use Rattle.search.proofs.zero_marks.Goals as goal

pub returns : goal.returns
returns c = search (rules, word-zero)
