-- The four bytes of the CRC.
use Prim.Native.Nat.{ℕ}
use mathlib.Core.Path.{◌≡◌}
use native.Mathlib.Omega.{arith}
use lib.ListN.{take}
use Rattle.wire.specs.Bytes.{Bytes, big_endian, put_at}
use Rattle.crc.specs.Crc.{crc_of}
use Rattle.judging.proofs.Parts.{front-size}
use borrow.Author.Rules.{rules}
use Rattle.image.proofs.put_crc.Goals as goal

crc-put : (s t : Bytes) (at crc : ℕ) → crc ≡ crc_of (take at s) → t ≡ put_at s at (big_endian 4 crc) → t ≡ put_at s at (big_endian 4 (crc_of (take at s)))
crc-put s t at crc e f = rw (← e) f

pub slice_bounds-crc-end-2 : goal.slice_bounds-crc-end-2
slice_bounds-crc-end-2 c = let fits = c.requires in front-size c.args.out.now c.args.at (omega arith)

pub returns : goal.returns
returns c = (search rules, search (rules, crc-put))
