-- std swaps the bytes of the word: `std-swapped`. They are the number's: `number_of_word`.
use Prim.Native.Nat.{ℕ}
use mathlib.Core.Path.{ap, ◌∙◌}
use Rattle.wire.specs.Bytes.{from_big_endian, little_endian}
use Rattle.wire.proofs.LittleEndian.{number_of_word}
use Rattle.wire.proofs.StdNumbers.{std-swapped}
use Rattle.wire.proofs.number_at.Goals as goal

pub returns : goal.returns
returns c = c.swap_bytes.ensures ∙ std-swapped _ c.low_at.type_inv ∙ ap (λ (w : ℕ). from_big_endian (little_endian 8 w)) c.low_at.ensures ∙ number_of_word _ (λ i. (c.type_inv.s i).fits) 8 _ c.requires
