-- The trailing zeros of the marks, counted in bytes.
use Rattle.std.proofs.Common.{refl}
use Rattle.search.specs.Marks.{mark_place}
use Rattle.search.proofs.ZeroBytes.{place_le}
use Rattle.search.proofs.mark_place.Goals as goal

pub returns : goal.returns
unfolding mark_place
returns c = (refl, place_le _)
