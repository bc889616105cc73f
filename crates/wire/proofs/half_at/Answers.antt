-- The bytes of the part, read as std reads them.
use Rattle.std.proofs.Common.{rules}
use mir.Syntax.{w32}
use Rattle.wire.proofs.StdNumbers.{high_read}
use Rattle.wire.proofs.half_at.Goals as goal

pub returns : goal.returns
returns c = (search (rules, high_read w32), search rules)
