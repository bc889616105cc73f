-- Equal words are equal bytes: `same_piece` at 4 bytes.
use Rattle.search.proofs.Pieces.{same_piece}
use Rattle.search.proofs.same_half.Goals as goal

pub returns : goal.returns
returns c = same_piece _ _ (λ k. (c.type_inv.a k).fits) (λ k. (c.type_inv.s k).fits) 4 _ _ _ c.requires.0 c.requires.1 c.low_half_at.ensures.0 c.low_half_at-2.ensures.0
