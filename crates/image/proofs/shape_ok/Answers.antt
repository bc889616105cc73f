-- The definition follows the tests.
use Prim.Native.Nat.{ℕ, ◌+◌}
use mathlib.Core.Path.{◌≡◌}
use mathlib.Core.Bool.{◌&&◌}
use lib.Dec.{eqb}
use lib.ListN.{length}
use Rattle.wire.specs.Bytes.{Bytes, byte_at, end_of}
use Rattle.calls.specs.declared.ImageLayout.{ImageLayout}
use Rattle.calls.specs.Image.{image_kind}
use Rattle.calls.specs.ImageRead.{shape_ok}
use borrow.Author.Rules.{rules}
use Rattle.image.proofs.shape_ok.Goals as goal

shaped : (s : Bytes) (l : ImageLayout) (kind : ℕ) → kind ≡ byte_at s 5 → (eqb kind image_kind && eqb (end_of l.keys + 4) (length s)) ≡ shape_ok s l
unfolding shape_ok
shaped s l kind e = rw e

pub returns : goal.returns
returns c = search (rules, shaped)
