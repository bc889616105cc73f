-- The bytes of the part, read as std reads them.
use Rattle.std.proofs.Common.{rules}
use mir.Syntax.{w32}
use Rattle.wire.proofs.StdNumbers.{low_read}
use Rattle.wire.proofs.low_half_at.Goals as goal

pub returns : goal.returns
returns c = (search (rules, low_read w32), search rules)
