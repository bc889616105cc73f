-- The check value, by computing.
use mathlib.Core.Path.{refl}
use Rattle.crc.specs.Crc.{bit_step, bit_steps, byte_step, register, crc_of}
use Rattle.crc.specs.Cases.{CrcCases}

pub crc-cases : CrcCases
unfolding bit_step bit_steps byte_step register crc_of
crc-cases = record {
  check_value = refl;
  no_bytes = refl;
}
