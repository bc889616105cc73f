-- The number of dots is the byte at the place.
use Prim.Native.Nat.{ℕ, ◌+◌, ◌*◌}
use mathlib.Core.Path.{◌≡◌}
use Rattle.wire.specs.Bytes.{Bytes, byte_at, span}
use Rattle.messages.specs.Read.{dots_counted_at}
use borrow.Author.Rules.{rules}
use Rattle.dots.specs.Wire.{dot_size}
use Rattle.messages.proofs.dots_counted_at.Goals as goal

made : (s : Bytes) (at count : ℕ) → count ≡ byte_at s at → span (at + 1) (dot_size * count) ≡ dots_counted_at s at
made s at count e = rw e

pub returns : goal.returns
returns c = (search (rules, made), search rules, search rules)
