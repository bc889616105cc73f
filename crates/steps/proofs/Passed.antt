-- What a table's answer lets a call do. Assumes nothing.
use Prim.Native.Nat.{ℕ}
use mathlib.Core.Path.{◌≡◌, refl, sym, ap, ◌∙◌}
use mathlib.Core.Bool.{Bool, true, false, cond}
use native.Mathlib.Omega.{arith}
use lib.Dec.{eqb}
use borrow.Author.Tests.{eqb-true, eqb-false, ne_eqb}
use Rattle.std.specs.Prelude.{Result, Ok, Err, IsErr, IsErrAnd}
use Rattle.dots.specs.declared.Answer.{Answer}
use Rattle.dots.specs.declared.Answer.TheVariants.{Done}
use Rattle.dots.specs.Answer.{number_of, Refusals, first_of}
use Rattle.dots.proofs.Table.{Refuses}
use Rattle.steps.proofs.Answers.{stops, passes}
use mathlib.Core.List.{◌++◌}
use Rattle.steps.specs.Tests.{passed}

-- an answer that is not 0 is given, and one that is 0 lets the call go on
pub passed-refused : (a x : Answer) → a ≡ x → (number_of a ≡ 0 → ⊥) → Err a ≡ passed x
passed-refused a x e f = ap Err e ∙ sym (ap (λ (b : Bool). cond b (Ok tt) (Err x)) (ne_eqb (number_of x) 0 (λ z. f (ap number_of e ∙ z))))

abbrev answer_in : Result Unit Answer → Answer
answer_in (Ok u) = Done
answer_in (Err a) = a

abbrev refusals : Result Unit Answer → ℕ
refusals (Ok u) = 0
refusals (Err a) = 1

no_refusal : (a : Answer) (u : Unit {0}) → Err a ≡ Ok u → ⊥
no_refusal a u h = let none : ◌≡◌ {A = ℕ} 1 0 = ap refusals h in omega (arith, none)

-- and back
pub refused-is : (a x : Answer) → Err a ≡ passed x → (a ≡ x) × (number_of a ≡ 0 → ⊥)
refused-is a x e = by (eqb (number_of x) 0) refl e
  where
    by : (b : Bool) → eqb (number_of x) 0 ≡ b → Err a ≡ cond b (Ok (tt {0})) (Err x) → (a ≡ x) × (number_of a ≡ 0 → ⊥)
    by true q h = absurd (no_refusal a tt h)
    by false q h = let same : a ≡ x = ap answer_in h in (same, λ z. eqb-false (number_of x) 0 q (sym (ap number_of same) ∙ z))

pub passed-is : (x : Answer) (u : Unit {0}) → Ok u ≡ passed x → number_of x ≡ 0
passed-is x u e = by (eqb (number_of x) 0) refl e
  where
    by : (b : Bool) → eqb (number_of x) 0 ≡ b → Ok u ≡ cond b (Ok (tt {0})) (Err x) → number_of x ≡ 0
    by true q h = eqb-true (number_of x) 0 q
    by false q h = absurd (no_refusal x u (sym h))

-- what `?` answers
pub passed_up : {A : Type 0} (r : Result A Answer) (a : Answer) → IsErr r × IsErrAnd r (λ y. y ≡ a) → r ≡ Err a
passed_up (Ok u) a h = absurd h.1
passed_up (Err y) a h = ap Err h.1

-- two tables in a row
pub rows-stop : (rs late : Refusals) (a : Answer) → Err a ≡ passed (first_of rs) → Err a ≡ passed (first_of (rs ++ late))
rows-stop rs late a h = let r = refused-is a (first_of rs) h in passed-refused a _ (stops rs a (number_of a) r.0 refl late r.1) r.1

pub rows-pass : (rs late : Refusals) (u : Unit {0}) (q : Result Unit Answer) → Refuses rs → Ok u ≡ passed (first_of rs) → q ≡ passed (first_of late) → q ≡ passed (first_of (rs ++ late))
rows-pass rs late u q n h k = k ∙ ap passed (passes rs (first_of rs) (number_of (first_of rs)) refl refl late (first_of late) n (passed-is (first_of rs) u h) refl)
