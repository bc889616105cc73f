use borrow.Author.Rules.{rules}
use Rattle.crc.proofs.Steps.{register-on, crc-done}
use Rattle.crc.proofs.crc.Goals as goal

pub loop-byte-preserved : goal.loop-byte-preserved
loop-byte-preserved c = search (rules, register-on)

pub returns : goal.returns
returns c = search (rules, crc-done)
