-- By cases of who lists the dot.
use mathlib.Core.Path.{◌≡◌, refl, ap, ◌∙◌}
use mathlib.Core.Bool.{Bool, true, false, not, ◌&&◌, ◌||◌, false≢true, true≢false}
use Rattle.merge.specs.Kept.{kept_dot}
use Rattle.merge.proofs.TwoSides.kept.Goals as goal

by_both : (p q r s : Bool) → (p && q) ≡ true → true ≡ kept_dot p q r s
unfolding kept_dot
by_both true true r s t = refl
by_both true false r s t = absurd (false≢true t)
by_both false q r s t = absurd (false≢true t)

or_none : (v : Bool) → v ≡ (v || false)
or_none true = refl
or_none false = refl

by_first : (p q r s v : Bool) → (p && q) ≡ false → p ≡ true → v ≡ s → not v ≡ kept_dot p q r s
unfolding kept_dot
by_first true true r s v f t e = absurd (true≢false f)
by_first true false r s v f t e = ap not e ∙ or_none (not s)
by_first false q r s v f t e = absurd (false≢true t)

by-second : (p q r s v : Bool) → p ≡ false → q ≡ true → v ≡ r → not v ≡ kept_dot p q r s
unfolding kept_dot
by-second true q r s v f t e = absurd (true≢false f)
by-second false true r s v f t e = ap not e
by-second false false r s v f t e = absurd (false≢true t)

by-none : (p q r s : Bool) → p ≡ false → q ≡ false → false ≡ kept_dot p q r s
unfolding kept_dot
by-none true q r s f g = absurd (true≢false f)
by-none false true r s f g = absurd (true≢false g)
by-none false false r s f g = refl

pub returns-then-first-second : goal.returns-then-first-second
returns-then-first-second c = by_both _ _ _ _ c.if-first-second.true

pub returns-then-first : goal.returns-then-first
returns-then-first c = rw (← c.self.view_is) (by_first _ _ _ _ _ c.if-first-second.false c.if-first.true c.sees.ensures)

pub returns-then-second : goal.returns-then-second
returns-then-second c = rw (← c.self.view_is) (by-second _ _ _ _ _ c.if-first.false c.if-second.true c.sees-then-second.ensures)

pub returns : goal.returns
returns c = by-none _ _ _ _ c.if-first.false c.if-second.false
