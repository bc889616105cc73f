-- The last four bytes against the CRC of the others.
use Prim.Native.Nat.{◌-◌}
use native.Mathlib.Omega.{arith}
use lib.ListN.{length}
use Rattle.judging.proofs.Parts.{front-size}
use Rattle.image.proofs.Fields.{crc-tested}
use borrow.Author.Rules.{rules}
use Rattle.image.proofs.crc_ok.Goals as goal

pub slice_bounds-crc-end : goal.slice_bounds-crc-end
slice_bounds-crc-end c = front-size c.args.s.now (length c.args.s.now - 4) (omega arith)

pub returns : goal.returns
returns c = crc-tested c.args.s.now (λ k. (c.type_inv.s k).fits) c.requires _ _ c.crc-crc.ensures (search rules) c.half_at.ensures.0
