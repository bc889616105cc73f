use Prim.Native.Nat.{ℕ, ◌+◌, ◌*◌, ◌≤◌}
use mathlib.Core.Path.{◌≡◌}
use mathlib.Core.List.{List}
use native.Mathlib.Omega.{arith}
use lib.ListN.{length}
use Rattle.wire.specs.Bytes.{Bytes, put_at}
use Rattle.dots.specs.Dots.{actor_most}
use Rattle.clock.specs.declared.Row.{Row}
use Rattle.clock.specs.Code.{row_of}
use Rattle.clock.specs.Clock.{row_at}
use Rattle.calls.specs.Image.{row_size, row_bytes, rows_bytes}
use Rattle.image.specs.Sizes.{window_size, rows_size}
use Rattle.image.proofs.Rows.{no_rows_put, row_put}
use borrow.Author.Rules.{rules}
use Rattle.image.proofs.put_rows.Goals as goal

turn : (s t u : Bytes) (at next a : ℕ) (words : List ℕ) (r : Row) → t ≡ put_at s at (rows_bytes window_size a words) → next ≡ at + a * row_size window_size → row_of r ≡ row_at words (a + 1)
    → u ≡ put_at t next (row_bytes window_size (row_of r)) → at + rows_size ≤ length s → a ≤ actor_most → u ≡ put_at s at (rows_bytes window_size (a + 1) words)
turn s t u at next a words r e n row f fits most = row_put s t u at next window_size a words (row_of r) e n row f (omega arith)

all-put : (s t : Bytes) (at a : ℕ) (words : List ℕ) → a ≤ actor_most → actor_most ≤ a → t ≡ put_at s at (rows_bytes window_size a words) → t ≡ put_at s at (rows_bytes window_size actor_most words)
all-put s t at a words most least e = let end : a ≡ actor_most = omega arith in rw end at e

pub loop-a-init : goal.loop-a-init
loop-a-init c = (search rules, search rules, search (rules, no_rows_put))

pub loop-a-preserved : goal.loop-a-preserved
loop-a-preserved c = (search rules, search rules, search (rules, turn))

pub returns : goal.returns
returns c = (search rules, search (rules, all-put))
