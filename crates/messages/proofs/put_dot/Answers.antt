-- A dot has nine bytes.
use Prim.Native.Nat.{ℕ, ◌+◌}
use mathlib.Core.Path.{◌≡◌}
use native.Mathlib.Omega.{arith}
use lib.ListN.{length}
use Rattle.wire.specs.Bytes.{Bytes, put_at}
use Rattle.dots.specs.declared.Dot.{Dot}
use Rattle.dots.specs.Wire.{dot_bytes, dot_size}
use Rattle.dots.proofs.RoundTrip.{length-dot}
use borrow.Author.Rules.{rules}
use Rattle.messages.proofs.put_dot.Goals as goal

module _ (d : Dot) (bytes : Bytes) (dot-is : bytes ≡ dot_bytes d) where
  nine : (at r : ℕ) → r ≡ at + length bytes → r ≡ at + dot_size
  nine at r e = let n : length bytes ≡ dot_size = rw dot-is (length-dot d) in omega arith

  dot-put : (s t : Bytes) (at : ℕ) → t ≡ put_at s at bytes → t ≡ put_at s at (dot_bytes d)
  dot-put s t at e = rw dot-is at e

pub returns : goal.returns
returns c = (search (rules, nine), search (rules, dot-put))
