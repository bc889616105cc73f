-- Two bytes, then two more.
use Prim.Native.Nat.{ℕ, ◌+◌, ◌*◌}
use mathlib.Core.Path.{◌≡◌}
use native.Mathlib.Omega.{arith}
use Rattle.wire.specs.Bytes.{Bytes, byte_at, from_big_endian}
use Rattle.calls.specs.ImageRead.{four_at}
use borrow.Author.Rules.{rules}
use Rattle.image.proofs.four_at.Goals as goal

four : (s : Bytes) (at high low : ℕ) → high ≡ byte_at s at * 256 + byte_at s (at + 1) → low ≡ byte_at s (at + 2) * 256 + byte_at s (at + 2 + 1) → high * 65536 + low ≡ four_at s at
unfolding from_big_endian
four s at high low e f = let last : at + 2 + 1 ≡ at + 3 = omega arith in rw (e, f, last) (omega arith)

pub returns : goal.returns
returns c = (search (rules, four), search rules)
