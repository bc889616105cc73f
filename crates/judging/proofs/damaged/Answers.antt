-- The pass tells damage.
use Rattle.judging.proofs.DamageTest.{tells_damage}
use Rattle.judging.proofs.damaged.Goals as goal

pub returns : goal.returns
returns c = tells_damage _ _ _ _ c.judge.ensures _ c.is_none.ensures
