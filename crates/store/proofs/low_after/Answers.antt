-- As it was, or the end of a last key that comes before the label.
use Rattle.std.proofs.Common.{sym, refl, ◌∙◌, inl, inr}
use Rattle.store.proofs.low_after.Goals as goal

pub returns-then-low-at : goal.returns-then-low-at
returns-then-low-at c = inl refl

pub returns-then-lower : goal.returns-then-lower
returns-then-lower c = inr (refl, sym c.lower.ensures ∙ c.if-lower.true)

pub returns : goal.returns
returns c = inl refl
