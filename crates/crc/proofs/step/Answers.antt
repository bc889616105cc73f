-- A byte by the table is its eight bits.
use borrow.Author.Rules.{rules}
use Rattle.crc.proofs.Steps.{byte_by_table}
use Rattle.crc.proofs.step.Goals as goal

pub returns : goal.returns
returns c = search (rules, byte_by_table)
