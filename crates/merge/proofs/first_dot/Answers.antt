-- By whether a key is left.
use mathlib.Core.Path.{ap}
use Rattle.std.specs.Prelude.{Some}
use borrow.Author.Tests.{lt-ltb, le-ltb}
use Rattle.dots.specs.declared.Dot.{Dot}
use Rattle.merge.specs.Kept.{first_dot}
use Rattle.merge.proofs.first_dot.Goals as goal

pub returns-then-keys-size : goal.returns-then-keys-size
unfolding first_dot
returns-then-keys-size c = rw (lt-ltb _ _ c.if-keys-size.true)

pub returns : goal.returns
unfolding first_dot
returns c = rw (le-ltb _ _ c.if-keys-size.false) (ap (λ (d : Dot). Some d) c.key_dot.ensures)
