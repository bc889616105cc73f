-- By the kind, which is that of the kind byte.
use mathlib.Core.Path.{◌≡◌, sym}
use borrow.Author.Tests.{eq-eqb, ne_eqb}
use native.Mathlib.Omega.{arith}
use Rattle.wire.specs.Bytes.{Bytes, byte_at}
use Rattle.messages.specs.declared.MessageKind.{MessageKind}
use Rattle.messages.specs.declared.MessageKind.TheVariants.{Add, Remove}
use Rattle.messages.specs.Message.{add_kind, kind_byte}
use Rattle.messages.specs.Read.{Layout, add_layout, remove_layout, layout_of}
use borrow.Author.Rules.{rules}
use Rattle.messages.proofs.places_of.Goals as goal

module _ (s : Bytes) (kind : MessageKind) (l : Layout) (known : kind_byte kind ≡ byte_at s 5) where
  of_add : kind ≡ Add → l ≡ add_layout s → l ≡ layout_of s
  unfolding layout_of
  of_add k e = let byte = rw k at known in rw (eq-eqb (byte_at s 5) add_kind (sym byte)) e

  of_remove : kind ≡ Remove → l ≡ remove_layout s → l ≡ layout_of s
  unfolding layout_of
  of_remove k e = let byte = rw k at known in rw (ne_eqb (byte_at s 5) add_kind (λ q. omega arith)) e

pub returns-in-Add : goal.returns-in-Add
returns-in-Add c = search (rules, of_add)

pub returns-in-Remove : goal.returns-in-Remove
returns-in-Remove c = search (rules, of_remove)
