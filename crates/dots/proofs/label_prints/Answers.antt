-- Past its longest a label is refused unread; else its bytes decide.
use Prim.Native.Nat.{ℕ, ◌≤◌, ◌<◌}
use mathlib.Core.Bool.{Bool, false, ◌&&◌, and-true, and-false}
use mathlib.Core.Path.{◌≡◌, sym}
use mathlib.Core.List.{List}
use lib.Dec.{leb}
use lib.ListN.{length}
use borrow.Author.Rules.{rules}
use borrow.Author.Tests.{le-leb, lt-leb}
use Rattle.wire.specs.Lists.{all}
use Rattle.dots.specs.Names.{label_most, prints, label_prints}
use Rattle.dots.proofs.Rules.{prints-is}
use Rattle.dots.proofs.label_prints.Goals as goal

module _ (s : List ℕ) where
  long : label_most < length s → false ≡ label_prints s
  long h = sym (rw (prints-is s, lt-leb (length s) label_most h, and-false))

  short : length s ≤ label_most → (all-print : Bool) → all-print ≡ all prints s → (leb 1 (length s) && all-print) ≡ label_prints s
  short h p e = sym (rw (prints-is s, le-leb (length s) label_most h, and-true, ← e))

pub returns-then-label-gt-LABEL_MOST : goal.returns-then-label-gt-LABEL_MOST
returns-then-label-gt-LABEL_MOST c = search (rules, long)

pub returns : goal.returns
returns c = search (rules, short)
