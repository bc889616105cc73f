-- The definition follows the tests.
use Rattle.calls.specs.Damage.{state_name_ok, tombstone_ok}
use Rattle.judging.specs.Judging.{state_ok}
use Rattle.judging.proofs.state_ok.Goals as goal

pub returns : goal.returns
unfolding state_ok state_name_ok tombstone_ok
returns c = rw (c.set_name_ok-named.ensures, c.clock_ok-rows.ensures, c.tombstone_ok-removed.ensures)
