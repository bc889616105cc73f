-- CRC-32, "the reflected one of IEEE 802.3 (polynomial EDB88320, start and final inversion)": the bit-by-bit rule, and its table.
use Rattle.std.specs.Prelude.{ℕ, zero, suc, ◌/◌, ◌%◌, cond, List, [], ◌∷◌, eqb}
use Rattle.std.specs.Int.Bits.{bit_xor}
use Rattle.wire.specs.Bytes.{Bytes}

abbrev pub polynomial : ℕ
polynomial = 0xEDB88320

-- 32 ones: the register at the start, and what inverts it at the end
abbrev pub all_ones : ℕ
all_ones = 0xFFFFFFFF

-- one bit: the register shifted right, exclusive or the polynomial if the bit shifted out is 1
unfoldable pub bit_step : ℕ → ℕ
bit_step c = cond (eqb (c % 2) 1) (bit_xor (c / 2) polynomial) (c / 2)

-- n bits
unfoldable pub bit_steps : ℕ → ℕ → ℕ
bit_steps zero c = c
bit_steps (suc n) c = bit_steps n (bit_step c)

-- one byte: exclusive or with the register, and its eight bits
unfoldable pub byte_step : ℕ → ℕ → ℕ
byte_step c b = bit_steps 8 (bit_xor c b)

-- the register after bytes
unfoldable pub register : ℕ → Bytes → ℕ
register c [] = c
register c (b ∷ bs) = register (byte_step c b) bs

unfoldable pub crc_of : Bytes → ℕ
crc_of bs = bit_xor (register all_ones bs) all_ones

-- ---- the table

-- what eight bit steps make of the n bytes from b on
unfoldable pub entries_from : ℕ → ℕ → List ℕ
entries_from b zero = []
entries_from b (suc n) = bit_steps 8 b ∷ entries_from (suc b) n

-- of all 256 bytes
abbrev pub crc_table : List ℕ
crc_table = entries_from 0 256
