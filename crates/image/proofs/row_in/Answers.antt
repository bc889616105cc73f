-- Base, then window.
use Prim.Native.Nat.{ℕ, ◌+◌}
use mathlib.Core.Path.{◌≡◌}
use Rattle.wire.specs.Bytes.{Bytes, number_at}
use Rattle.clock.specs.Row.{Row}
use Rattle.calls.specs.ImageRead.{row_in}
use Rattle.image.specs.Sizes.{window_size}
use borrow.Author.Rules.{rules}
use Rattle.image.proofs.row_in.Goals as goal

both_read : (s : Bytes) (at base window : ℕ) → base ≡ number_at 8 s at → window ≡ number_at window_size s (at + 8)
    → ◌≡◌ {A = Row} (record { base = base; window = window }) (row_in window_size s at)
both_read s at base window e f = rw (e, f)

pub returns : goal.returns
returns c = search (rules, both_read)
