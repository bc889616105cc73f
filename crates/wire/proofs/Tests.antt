-- Tests: what a Bool that holds or fails says, as an equation and as the type `T`. Assumes nothing.
use mathlib.Core.Path.{◌≡◌, refl, sym, subst}
use mathlib.Core.Logic.{◌⊎◌, inl, inr}
use mathlib.Core.Bool.{Bool, true, false, not, ◌&&◌, ◌||◌, false≢true}
use lib.Dec.{T}

-- ---- as equations

pub decided : (b : Bool) → (b ≡ true) ⊎ (b ≡ false)
decided true = inl refl
decided false = inr refl

pub untrue : (b : Bool) → (b ≡ true → ⊥) → b ≡ false
untrue true h = absurd (h refl)
untrue false h = refl

-- two tests are equal where each holds if the other does
pub both_ways : (a b : Bool) → (a ≡ true → b ≡ true) → (b ≡ true → a ≡ true) → a ≡ b
both_ways true b f g = sym (f refl)
both_ways false true f g = g refl
both_ways false false f g = refl

-- the sides of a test `a && b` that holds: `search both` proves each from the whole
pub both_left : (a b : Bool) → (a && b) ≡ true → a ≡ true
both_left true b h = refl
both_left false b h = h

pub both_right : (a b : Bool) → (a && b) ≡ true → b ≡ true
both_right true b h = h
both_right false b h = absurd (false≢true h)

pub ruleset both = (both_left, both_right)

-- the sides of a test `a || b` that fails: `search neither` proves each from the whole
pub neither_left : (a b : Bool) → (a || b) ≡ false → a ≡ false
neither_left true b h = h
neither_left false b h = refl

pub neither_right : (a b : Bool) → (a || b) ≡ false → b ≡ false
neither_right true b h = absurd (false≢true (sym h))
neither_right false b h = h

pub ruleset neither = (neither_left, neither_right)

-- ---- as the type `T`

pub pass : {b : Bool} → b ≡ true → T b
pass e = subst T (sym e) tt

pub fail : {b : Bool} → b ≡ false → T b → ⊥
fail e t = subst T e t

pub holds : (b : Bool) → T b → b ≡ true
holds true t = refl
holds false t = absurd t

-- a test passes or fails
pub decide : (b : Bool) → T b ⊎ T (not b)
decide true = inl tt
decide false = inr tt

pub T_both : (a b : Bool) → T (a && b) → T a × T b
T_both true b t = (tt, t)
T_both false b t = absurd t

pub T_and : (a b : Bool) → T a → T b → T (a && b)
T_and true b t u = u
T_and false b t u = t

pub T_either : (a b : Bool) → T (a || b) → T a ⊎ T b
T_either true b t = inl tt
T_either false b t = inr t

pub T_left : (a b : Bool) → T a → T (a || b)
T_left true b t = tt
T_left false b t = absurd t

pub T_right : (a b : Bool) → T b → T (a || b)
T_right true b t = tt
T_right false b t = t
