-- The tests are the definition's.
use mathlib.Core.Path.{◌≡◌, ap}
use mathlib.Core.Bool.{Bool, false, not}
use lib.ListN.{length}
use borrow.Author.Tests.{eq-eqb, ne_eqb}
use Rattle.dots.specs.Names.{Label, label_ok}
use Rattle.calls.specs.Refusals.{bad_start}
use borrow.Author.Rules.{rules}
use Rattle.reads.proofs.start_bad.Goals as goal

module _ (start : Label) where
  front : length start ≡ 0 → false ≡ bad_start start
  front e = rw (eq-eqb (length start) 0 e)

  named : (ok : Bool) → (length start ≡ 0 → ⊥) → ok ≡ label_ok start → not ok ≡ bad_start start
  named ok f e = rw (ne_eqb (length start) 0 f) (ap not e)

pub returns-then-start-eq0 : goal.returns-then-start-eq0
returns-then-start-eq0 c = search (rules, front)

pub returns : goal.returns
returns c = search (rules, named)
