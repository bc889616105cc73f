-- The definition follows the tests.
use Prim.Native.Nat.{ℕ}
use mathlib.Core.Path.{◌≡◌}
use mathlib.Core.Bool.{Bool, ◌&&◌}
use lib.Dec.{leb}
use Rattle.wire.specs.Bytes.{Bytes, byte_at, part_of}
use Rattle.dots.specs.Names.{name_ok}
use Rattle.dots.specs.Dots.{actor_most}
use Rattle.calls.specs.declared.ImageLayout.{ImageLayout}
use Rattle.calls.specs.ImageRead.{writer_ok}
use borrow.Author.Rules.{rules}
use Rattle.image.proofs.writer_ok.Goals as goal

tested : (s text : Bytes) (l : ImageLayout) (named : Bool) (writer : ℕ) → text ≡ part_of s l.name → named ≡ name_ok text → writer ≡ byte_at s l.actor
    → (named && (leb 1 writer && leb writer actor_most)) ≡ writer_ok s l
tested s text l named writer e f g = rw (f, e, g)

pub returns : goal.returns
returns c = search (rules, tested)
