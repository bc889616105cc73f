-- By the kind: an add has a label too.
use mathlib.Core.Path.{◌≡◌}
use mathlib.Core.Bool.{Bool, ◌&&◌}
use Rattle.wire.specs.Bytes.{Bytes, part_of}
use Rattle.dots.specs.Names.{name_ok, label_prints}
use Rattle.messages.specs.declared.MessageKind.TheVariants.{Add, Remove}
use Rattle.messages.specs.declared.places.Places.{Places}
use Rattle.messages.specs.Message.{names_ok}
use Rattle.messages.specs.Read.{name_at, message_at}
use Rattle.messages.specs.Places.{laid_in}
use borrow.Author.Rules.{rules}
use Rattle.messages.proofs.names_ok.Goals as goal

module _ (s : Bytes) (l : Places) (p : Bytes) (name : Bool) (name-part : p ≡ part_of s l.name) (name-is : name ≡ name_ok p) where
  of_add : (q : Bytes) (label : Bool) → l.kind ≡ Add → q ≡ part_of s l.label → label ≡ label_prints q → (name && label) ≡ names_ok (name_at s (laid_in l)) (message_at s (laid_in l))
  unfolding message_at
  of_add q label k f g = rw (k, name-is, name-part, g, f)

  of_remove : l.kind ≡ Remove → name ≡ names_ok (name_at s (laid_in l)) (message_at s (laid_in l))
  unfolding message_at
  of_remove k = rw (k, name-is, name-part)

pub returns-in-Add : goal.returns-in-Add
returns-in-Add c = search (rules, of_add)

pub returns-in-Remove : goal.returns-in-Remove
returns-in-Remove c = search (rules, of_remove)
