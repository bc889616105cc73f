-- A field that the type lacks counts as kept.
use Prim.Native.Nat.{ℕ}
use mathlib.Core.Path.{◌≡◌, refl}
use mathlib.Core.Bool.{Bool, not, ◌&&◌, ◌||◌}
use lib.Dec.{leb}
use Rattle.dots.specs.Names.{Name, Label, name_ok, label_ok}
use Rattle.dots.specs.Dots.{actor_ok, actor_most}
use Rattle.keys.specs.declared.KeyKind.{KeyKind}
use Rattle.keys.specs.declared.KeyKind.TheVariants.{ClockKey, TombstoneKey, LabelKey, EndKey}
use Rattle.keys.specs.Key.{key_of, has_label, has_actor, names_ok}
use borrow.Author.Rules.{rules}
use Rattle.keys.proofs.NewKey.names_ok.Goals as goal

by_kind : (t : KeyKind) (name : Name) (label : Label) (actor counter : ℕ)
    → (name_ok name && ((not (has_label t) || label_ok label) && (not (has_actor t) || actor_ok actor))) ≡ names_ok (key_of t name label actor counter)
unfolding names_ok
by_kind ClockKey name label actor counter = refl
by_kind TombstoneKey name label actor counter = refl
by_kind LabelKey name label actor counter = refl
by_kind EndKey name label actor counter = refl

tested : (t : KeyKind) (name : Name) (label : Label) (actor counter : ℕ) (n l h a : Bool) → n ≡ name_ok name → l ≡ label_ok label → h ≡ has_label t → a ≡ has_actor t
    → (n && ((not h || l) && (not a || (leb 1 actor && leb actor actor_most)))) ≡ names_ok (key_of t name label actor counter)
tested t name label actor counter n l h a e f g k = rw (e, f, g, k) (by_kind t name label actor counter)

pub returns : goal.returns
returns c = search (rules, tested)
