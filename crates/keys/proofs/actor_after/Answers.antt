-- The test follows the bytes.
use Rattle.keys.specs.Tests.{actor_after}
use Rattle.keys.proofs.actor_after.Goals as goal

pub returns : goal.returns
unfolding actor_after
returns c = rw (c.byte_at-first.ensures, c.actor_ok.ensures, c.byte_at-actor.ensures, c.byte_at-last.ensures)
