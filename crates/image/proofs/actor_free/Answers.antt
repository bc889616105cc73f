-- The definition follows the tests.
use Prim.Native.Nat.{ℕ}
use mathlib.Core.Path.{◌≡◌}
use mathlib.Core.Bool.{not, ◌&&◌}
use mathlib.Core.List.{List}
use lib.Dec.{leb, eqb}
use Rattle.dots.specs.Dots.{actor_most}
use Rattle.clock.specs.declared.Row.{Row}
use Rattle.clock.specs.Code.{row_of}
use Rattle.clock.specs.Clock.{row_at, unused}
use Rattle.calls.specs.ImageRead.{free_of}
use borrow.Author.Rules.{rules}
use Rattle.image.proofs.actor_free.Goals as goal

free : (actor writer : ℕ) (words : List ℕ) (r : Row) → row_of r ≡ row_at words actor
    → ((leb 1 actor && leb actor actor_most) && (not (eqb actor writer) && (eqb r.base 0 && eqb r.window 0))) ≡ free_of actor writer words
unfolding free_of unused
free actor writer words r e = rw (← e)

pub returns : goal.returns
returns c = search (rules, free)
