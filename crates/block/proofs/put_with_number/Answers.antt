-- The bytes, and the number after them.
use Prim.Native.Nat.{ℕ, ◌+◌, ◌≤◌}
use mathlib.Core.Path.{◌≡◌}
use mathlib.Core.List.{◌++◌}
use native.Mathlib.Omega.{arith}
use lib.ListN.{length, length-append}
use Rattle.wire.specs.Bytes.{Bytes, big_endian, put_at}
use Rattle.wire.proofs.BigEndian.{length-big_endian}
use Rattle.wire.proofs.Fields.{put_next}
use borrow.Author.Rules.{rules}
use Rattle.block.proofs.put_with_number.Goals as goal

both-put : (s t u bytes : Bytes) (at next number : ℕ) → at + length bytes + 8 ≤ length s → t ≡ put_at s at bytes → next ≡ at + length bytes → u ≡ put_at t next (big_endian 8 number) → u ≡ put_at s at (bytes ++ big_endian 8 number)
both-put s t u bytes at next number fits e n f = put_next s t u bytes (big_endian 8 number) at next e n f (omega arith)

both_end : (bytes : Bytes) (at next number r : ℕ) → next ≡ at + length bytes → r ≡ next + 8 → at + length (bytes ++ big_endian 8 number) ≡ r
both_end bytes at next number r n e = rw (length-append, length-big_endian 8 number) (omega arith)

pub returns : goal.returns
returns c = record { ends = search (rules, both_end); put = search (rules, both-put) }
