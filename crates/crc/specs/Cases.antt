-- The check value of document 02, ""123456789" gives CBF43926", and the CRC of no bytes.
use Rattle.std.specs.Prelude.{◌≡◌, [], ◌∷◌}
use Rattle.wire.specs.Bytes.{Bytes}
use Rattle.crc.specs.Crc.{crc_of}

abbrev pub digits : Bytes
digits = 0x31 ∷ 0x32 ∷ 0x33 ∷ 0x34 ∷ 0x35 ∷ 0x36 ∷ 0x37 ∷ 0x38 ∷ 0x39 ∷ []

pub record CrcCases : Type 0 where
  pub check_value : crc_of digits ≡ 0xCBF43926
  pub no_bytes : crc_of [] ≡ 0
