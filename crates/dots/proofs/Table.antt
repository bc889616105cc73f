-- Laws of a table of refusals. Assumes nothing.
use Prim.Native.Nat.{◌<◌}
use mathlib.Core.Bool.{Bool, true, false, cond}
use mathlib.Core.List.{List, [], ◌∷◌}
use mathlib.Core.Path.{◌≡◌, refl}
use native.Mathlib.Omega.{arith}
use Rattle.dots.specs.Answer.{number_of, first_of}
use Rattle.dots.specs.declared.Answer.{Answer}

-- no answer of the table is 0
abbrev pub Refuses : List (Bool × Answer) → Type 0
Refuses [] = Unit {0}
Refuses (r ∷ rs) = (0 < number_of r.1) × Refuses rs

-- no test of the table holds
abbrev pub NoneHolds : List (Bool × Answer) → Type 0
NoneHolds [] = Unit {0}
NoneHolds (r ∷ rs) = (r.0 ≡ false) × NoneHolds rs

none-by : (t : Bool) (a rest : Answer) → 0 < number_of a → number_of (cond t a rest) ≡ 0 → (t ≡ false) × (number_of rest ≡ 0)
none-by true a rest pos e = absurd (omega arith)
none-by false a rest pos e = (refl, e)

-- what is accepted passed every test
pub none-holds : (rs : List (Bool × Answer)) → Refuses rs → number_of (first_of rs) ≡ 0 → NoneHolds rs
none-holds [] n e = tt
none-holds (r ∷ rs) n e =
    let w : _ = none-by r.0 r.1 (first_of rs) n.0 e in
    (w.0, none-holds rs n.1 w.1)
