-- The invariant: the register of all bytes is that of the rest, from the register so far.
use Rattle.std.proofs.Common.{◌≡◌, drop}
use Rattle.crc.specs.Crc.{all_ones, register}
use Rattle.crc.proofs.crc.Given as goal

abbrev pub invariant-loop-byte : goal.invariant-loop-byte
invariant-loop-byte l = register all_ones l.s ≡ register l.c (drop l.byte-index l.s)
