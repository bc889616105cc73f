-- The bytes that std writes.
use Rattle.std.proofs.Common.{rules}
use mir.Syntax.{w64}
use Rattle.wire.proofs.StdNumbers.{to_be}
use Rattle.wire.proofs.number_bytes.Goals as goal

pub returns : goal.returns
returns c = search (rules, to_be w64)
