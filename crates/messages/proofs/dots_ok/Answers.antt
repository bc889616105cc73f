-- By the kind: an add has a dot of its own too.
use mathlib.Core.Path.{◌≡◌}
use mathlib.Core.Bool.{Bool, not, ◌&&◌}
use Rattle.wire.specs.Lists.{member}
use Rattle.wire.specs.Bytes.{Bytes, part_of}
use Rattle.dots.specs.declared.Dot.{Dot}
use Rattle.dots.specs.Dots.{compare_dots, dot_ok, context_ok}
use Rattle.dots.specs.Wire.{dot_at, dots_of}
use Rattle.messages.specs.declared.MessageKind.TheVariants.{Add, Remove}
use Rattle.messages.specs.declared.places.Places.{Places}
use Rattle.messages.specs.Message.{dots_ok}
use Rattle.messages.specs.Read.{message_at}
use Rattle.messages.specs.Places.{laid_in}
use borrow.Author.Rules.{rules}
use Rattle.messages.proofs.dots_ok.Goals as goal

module _ (s : Bytes) (l : Places) (p : Bytes) (rule : Bool) (part : p ≡ part_of s l.context) (rule-is : rule ≡ context_ok (dots_of p)) where
  of_add : (own : Dot) (valid has : Bool) → l.kind ≡ Add → own ≡ dot_at s l.dot → valid ≡ dot_ok own → has ≡ member compare_dots own (dots_of p)
      → (valid && (rule && not has)) ≡ dots_ok (message_at s (laid_in l))
  unfolding message_at
  of_add own valid has k e f g = rw (k, rule-is, f, g, e, part)

  of_remove : l.kind ≡ Remove → rule ≡ dots_ok (message_at s (laid_in l))
  unfolding message_at
  of_remove k = rw (k, rule-is, part)

pub returns-in-Add : goal.returns-in-Add
returns-in-Add c = search (rules, of_add)

pub returns-in-Remove : goal.returns-in-Remove
returns-in-Remove c = search (rules, of_remove)
