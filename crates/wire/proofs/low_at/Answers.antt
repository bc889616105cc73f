-- The bytes of the part, read as std reads them.
use Rattle.std.proofs.Common.{rules}
use mir.Syntax.{w64}
use Rattle.wire.proofs.StdNumbers.{low_read}
use Rattle.wire.proofs.low_at.Goals as goal

pub returns : goal.returns
returns c = search (rules, low_read w64)
