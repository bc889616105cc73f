--
use Rattle.std.proofs.Common.{sym}
use Rattle.clock.specs.Row.{window_width}
use Rattle.clock.specs.Code.{row_of}
use Rattle.clock.proofs.Rows.{reach_up_to, reach-past}
use Rattle.clock.proofs.Row.reaches.Goals as goal

pub returns-then-counter-base : goal.returns-then-counter-base
returns-then-counter-base c = let a = c.args in sym (reach_up_to window_width (row_of a.self) a.counter c.if-counter-base.true)

pub returns : goal.returns
returns c = let a = c.args in sym (reach-past window_width (row_of a.self) a.counter c.if-counter-base.false)
