-- The refusals in the table's order; where the shape is right, the fields lie within the bytes.
use Prim.Native.Nat.{ℕ}
use mathlib.Core.Path.{◌≡◌, refl, sym, ap, ◌∙◌}
use mathlib.Core.Bool.{Bool, true, false, not, ◌||◌}
use lib.Dec.{eqb}
use Rattle.std.specs.Prelude.{Ok, Err}
use borrow.Author.Tests.{not-false}
use Rattle.wire.specs.Bytes.{Bytes, byte_at}
use Rattle.dots.specs.declared.Answer.{Answer}
use Rattle.dots.specs.declared.Answer.TheVariants.{Done, NoMark, BadVersion, BadShape, BadName, BadDot}
use Rattle.dots.specs.declared.Dot.{Dot}
use Rattle.dots.specs.Answer.{number_of}
use Rattle.messages.specs.declared.places.Places.{Places}
use Rattle.messages.specs.Message.{add_kind, remove_kind, names_ok, dots_ok}
use Rattle.messages.specs.Read.{layout_of, mark_ok, version_ok, shape_ok, name_at, message_at, name_of, message_of, read_answer, read_of, read_as}
use Rattle.messages.specs.Layouts.{Within, own_dot}
use Rattle.messages.specs.Places.{laid_in}
use Rattle.messages.proofs.Shapes.{shape-within, shape-known}
use borrow.Author.Rules.{rules}
use Rattle.messages.proofs.read_message.Goals as goal

module _ (s : Bytes) where
  refused : (a : Answer) → eqb (number_of a) 0 ≡ false → read_answer s ≡ a → read_as (Err a) ≡ read_of s
  unfolding read_of
  refused a n e = rw (e, n)

  module _ (mark : Bool) (mark-is : mark ≡ mark_ok s) where
    no-mark : not mark ≡ true → read_as (Err NoMark) ≡ read_of s
    unfolding read_answer
    no-mark h = refused NoMark refl (rw (← mark-is, h))

    module _ (marked : not mark ≡ false) (version : Bool) (version-is : version ≡ version_ok s) where
      bad-version : not version ≡ true → read_as (Err BadVersion) ≡ read_of s
      unfolding read_answer
      bad-version h = refused BadVersion refl (rw (← mark-is, ← version-is, marked, h))

      module _ (known : not version ≡ false) where
        shape-refused : (shape : Bool) → shape ≡ shape_ok s (layout_of s) → not shape ≡ true → read_as (Err BadShape) ≡ read_of s
        unfolding read_answer
        shape-refused shape e h = refused BadShape refl (rw (← mark-is, ← version-is, marked, known, ← e, h))

        no-kind : (b : ℕ) (a : Answer) → b ≡ byte_at s 5 → (a ≡ BadShape) × ((eqb b add_kind || eqb b remove_kind) ≡ false) → read_as (Err a) ≡ read_of s
        no-kind b a e h = rw h.0 (shape-refused false (sym (shape-known s (rw e at h.1))) refl)

        module _ (l : Places) (l-is : laid_in l ≡ layout_of s) (shape : Bool) (shape-is : shape ≡ shape_ok s (laid_in l)) where
          shape_is : shape ≡ shape_ok s (layout_of s)
          shape_is = shape-is ∙ ap (shape_ok s) l-is

          bad-shape : not shape ≡ true → read_as (Err BadShape) ≡ read_of s
          bad-shape = shape-refused shape shape_is

          module _ (shaped : not shape ≡ false) where
            within : Within s (laid_in l)
            within = rw l-is (shape-within s (sym shape_is ∙ not-false shape shaped))

            module _ (names : Bool) (names-is : names ≡ names_ok (name_at s (laid_in l)) (message_at s (laid_in l))) where
              names_are : names_ok (name_of s) (message_of s) ≡ names
              unfolding name_of message_of
              names_are = rw (← l-is) (sym names-is)

              bad-name : not names ≡ true → read_as (Err BadName) ≡ read_of s
              unfolding read_answer
              bad-name h = refused BadName refl (rw (← mark-is, ← version-is, marked, known, ← shape_is, shaped, names_are, h))

              module _ (named : not names ≡ false) (dots : Bool) (dots-is : dots ≡ dots_ok (message_at s (laid_in l))) where
                dots_are : dots_ok (message_of s) ≡ dots
                unfolding message_of
                dots_are = rw (← l-is) (sym dots-is)

                bad-dot : not dots ≡ true → read_as (Err BadDot) ≡ read_of s
                unfolding read_answer
                bad-dot h = refused BadDot refl (rw (← mark-is, ← version-is, marked, known, ← shape_is, shaped, names_are, named, dots_are, h))

                accepted : not dots ≡ false → read_answer s ≡ Done
                unfolding read_answer
                accepted h = rw (← mark-is, ← version-is, marked, known, ← shape_is, shaped, names_are, named, dots_are, h)

                found : (d : Dot) → not dots ≡ false → d ≡ own_dot s (laid_in l)
                    → read_as (Ok (record { kind = l.kind; name = l.name; label = l.label; dot = d; context = l.context })) ≡ read_of s
                unfolding read_of
                found d h e = rw (accepted h, ← l-is, e)

pub returns-then-not-mark_ok : goal.returns-then-not-mark_ok
returns-then-not-mark_ok c = search (rules, no-mark)

pub returns-then-not-version_ok : goal.returns-then-not-version_ok
returns-then-not-version_ok c = search (rules, bad-version)

pub returns-in_err-try_from : goal.returns-in_err-try_from
returns-in_err-try_from c = search (rules, no-kind)

pub returns-then-not-shape_ok : goal.returns-then-not-shape_ok
returns-then-not-shape_ok c = search (rules, bad-shape)

pub returns-then-not-names_ok : goal.returns-then-not-names_ok
returns-then-not-names_ok c = search (rules, bad-name)

pub dots_ok-requires : goal.dots_ok-requires
dots_ok-requires c = search (rules, within)

pub returns-then-not-dots_ok : goal.returns-then-not-dots_ok
returns-then-not-dots_ok c = search (rules, bad-dot)

pub own_dot-requires : goal.own_dot-requires
own_dot-requires c = search (rules, within)

pub returns : goal.returns
returns c = search (rules, found)
