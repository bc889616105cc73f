use Prim.Native.Nat.{ℕ, zero, suc, ◌+◌, ◌≤◌, ◌<◌}
use mathlib.Core.Bool.{Bool, ◌&&◌, and-true, and_assoc}
use mathlib.Core.Path.{◌≡◌, sym, ap, ◌∙◌}
use mathlib.Core.List.{List}
use native.Mathlib.Omega.{arith}
use lib.Bits.{bit_or, or_zero_l, or_add_and, and_le_r}
use lib.Dec.{eqb, eqb-suc-zero}
use lib.ListN.{length, drop, get_or, drop_of_length-le}
use Rattle.wire.specs.Lists.{all}
use Rattle.wire.proofs.Parts.{drop-step}
use borrow.Author.Rules.{rules}
use borrow.Author.Tests.{ne_eqb}
use Rattle.judging.proofs.all_zero.Goals as goal

abbrev is_zero : ℕ → Bool
is_zero b = eqb b 0

-- an or is 0 only of two zeros
or_zero : (a b : ℕ) → is_zero (bit_or a b) ≡ (is_zero a && is_zero b)
or_zero zero b = ap is_zero (or_zero_l b)
or_zero (suc a) b =
    let sum = or_add_and (suc a) b in
    let most = and_le_r (suc a) b in
    ne_eqb (bit_or (suc a) b) 0 (λ none. omega (arith, sum, most, none)) ∙ sym (rw (eqb-suc-zero a))

module _ (s : List ℕ) (i : ℕ) (whole : Bool) (bits : ℕ) (inv : whole ≡ (is_zero bits && all is_zero (drop i s))) where
  turn : i < length s → whole ≡ (is_zero (bit_or bits (get_or s i 0)) && all is_zero (drop (i + 1) s))
  unfolding all
  turn h =
      (rw (drop-step s i h) at inv) ∙ sym (and_assoc (is_zero bits) (is_zero (get_or s i 0)) (all is_zero (drop (i + 1) s)))
      ∙ sym (rw or_zero)

  end : length s ≤ i → is_zero bits ≡ whole
  unfolding all
  end h = sym (rw (drop_of_length-le s h, and-true) at inv)

pub loop-b-preserved : goal.loop-b-preserved
loop-b-preserved c = search (rules, turn)

pub returns : goal.returns
returns c = search (rules, end)
