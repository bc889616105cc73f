-- Each tombstone lists the dot or not; the clocks tell the rest.
use mathlib.Core.Path.{◌≡◌, ◌∙◌}
use mathlib.Core.Bool.{Bool, ◌&&◌}
use Rattle.dots.specs.Wire.{dots_of}
use Rattle.clock.specs.Clock.{sees}
use Rattle.listing.specs.Listing.{is_live}
use Rattle.merge.specs.declared.NextDot.{NextDot}
use Rattle.merge.specs.Sides.{Sides}
use Rattle.merge.specs.Kept.{kept_dot, keeps_next}
use Rattle.merge.proofs.TwoSides.keeps.Goals as goal

by_both : (t s : Sides) → t ≡ s → (next : NextDot) (p q : Bool) → p ≡ (next.first && is_live (dots_of t.tombstone) next.dot) → q ≡ (next.second && is_live (dots_of t.tombstone') next.dot)
    → kept_dot p q (sees s.words next.dot) (sees s.words' next.dot) ≡ keeps_next s next
unfolding keeps_next
by_both t s v next p q e f = rw (e, f, v)

pub returns : goal.returns
returns c = c.kept.ensures ∙ by_both _ _ c.self.view_is c.args.next _ _ c.is_listed-first.ensures c.is_listed-second.ensures
