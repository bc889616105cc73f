-- All entries against the bit-by-bit rule, by computing.
use mathlib.Core.Path.{refl}
use Rattle.crc.specs.Crc.{bit_step, bit_steps, entries_from}
use Rattle.crc.proofs.table.entries.Goals as goal

pub returns : goal.returns
unfolding bit_step bit_steps entries_from
returns c = refl
