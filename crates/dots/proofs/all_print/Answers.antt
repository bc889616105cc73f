use Prim.Native.Nat.{ℕ, ◌+◌, ◌≤◌, ◌<◌}
use mathlib.Core.Bool.{Bool, ◌&&◌, and-true, and_assoc}
use mathlib.Core.Path.{◌≡◌, sym, ◌∙◌}
use mathlib.Core.List.{List}
use lib.ListN.{length, drop, get_or, drop_of_length-le}
use Rattle.wire.specs.Lists.{all}
use Rattle.wire.proofs.Parts.{drop-step}
use Rattle.dots.specs.Names.{prints}
use borrow.Author.Rules.{rules}
use Rattle.dots.proofs.all_print.Goals as goal

module _ (s : List ℕ) (i : ℕ) (whole ok : Bool) (inv : whole ≡ (ok && all prints (drop i s))) where
  turn : i < length s → whole ≡ ((ok && prints (get_or s i 0)) && all prints (drop (i + 1) s))
  unfolding all
  turn h = (rw (drop-step s i h) at inv) ∙ sym (and_assoc ok (prints (get_or s i 0)) (all prints (drop (i + 1) s)))

  end : length s ≤ i → ok ≡ whole
  unfolding all
  end h = sym (rw (drop_of_length-le s h, and-true) at inv)

pub loop-b-preserved : goal.loop-b-preserved
loop-b-preserved c = search (rules, turn)

pub returns : goal.returns
returns c = search (rules, end)
