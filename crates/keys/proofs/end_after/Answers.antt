-- The test follows the bytes.
use Rattle.keys.specs.Tests.{end_after}
use Rattle.keys.proofs.end_after.Goals as goal

pub returns : goal.returns
unfolding end_after
returns c = rw (c.byte_at-first.ensures, c.byte_at-last.ensures)
