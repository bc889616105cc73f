-- The test is the definition's.
use mathlib.Core.Path.{◌≡◌}
use Prim.Native.Nat.{◌+◌, ◌*◌}
use borrow.Author.Tests.{eq-eqb, ne_eqb}
use Rattle.dots.specs.Wire.{dot_size}
use Rattle.listing.specs.declared.ListedLine.{ListedLine}
use Rattle.listing.specs.Listing.{line_fixed}
use Rattle.listing.specs.Lines.{listed_size}
use borrow.Author.Rules.{rules}
use Rattle.listing.proofs.ListedLine.listed_size.Goals as goal

module _ (l : ListedLine) where
  no_bytes : l.count ≡ 0 → 0 ≡ listed_size l
  unfolding listed_size
  no_bytes e = rw (eq-eqb l.count 0 e)

  some_bytes : (l.count ≡ 0 → ⊥) → line_fixed + l.len + dot_size * l.count ≡ listed_size l
  unfolding listed_size
  some_bytes f = rw (ne_eqb l.count 0 f)

pub returns-then-self-eq0 : goal.returns-then-self-eq0
returns-then-self-eq0 c = search (rules, no_bytes)

pub returns : goal.returns
returns c = search (rules, some_bytes)
