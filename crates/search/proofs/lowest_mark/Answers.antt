-- A number and what it is short of a power of 2 share its lowest set digit alone.
use Rattle.search.proofs.ZeroBytes.{place_lowest}
use Rattle.search.proofs.lowest_mark.Goals as goal

pub returns : goal.returns
returns c = place_lowest _ _ c.wrapping_neg.ensures
