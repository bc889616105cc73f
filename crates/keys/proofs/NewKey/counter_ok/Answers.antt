-- The largest counter is the largest word.
use Prim.Native.Nat.{ℕ, ◌≤◌}
use mathlib.Core.Path.{◌≡◌, refl}
use mathlib.Core.Bool.{Bool, not, ◌||◌, and-true}
use native.Mathlib.Omega.{arith}
use lib.Dec.{leb}
use borrow.Author.Tests.{le-leb}
use Rattle.dots.specs.Names.{Name, Label}
use Rattle.dots.specs.Dots.{max_counter}
use Rattle.keys.specs.declared.KeyKind.{KeyKind}
use Rattle.keys.specs.declared.KeyKind.TheVariants.{ClockKey, TombstoneKey, LabelKey, EndKey}
use Rattle.keys.specs.Key.{key_of, has_label, key_counter_ok}
use Rattle.keys.proofs.NewKey.counter_ok.Goals as goal

module _ (name : Name) (label : Label) (actor counter : ℕ) (small : counter ≤ max_counter) where
  by_kind : (t : KeyKind) → (not (has_label t) || leb 1 counter) ≡ key_counter_ok (key_of t name label actor counter)
  unfolding key_counter_ok
  by_kind ClockKey = refl
  by_kind TombstoneKey = refl
  by_kind LabelKey = rw (le-leb counter max_counter small, and-true)
  by_kind EndKey = refl

  tested : (t : KeyKind) (h : Bool) → h ≡ has_label t → (not h || leb 1 counter) ≡ key_counter_ok (key_of t name label actor counter)
  tested t h e = rw e (by_kind t)

pub returns : goal.returns
returns c = let k = c.args.self in tested k.name.now k.label.now k.actor k.counter (omega arith) k.kind _ c.has_label.ensures
