--
use Rattle.std.proofs.Common.{◌^◌, ◌<◌, sym, ◌∙◌, rules}
use Rattle.clock.specs.Row.{test_bit, window_width}
use Rattle.clock.specs.Code.{row_of}
use Rattle.clock.proofs.Bits.{test_bit_high}
use Rattle.clock.proofs.Rows.{seen_up_to, seen-past}
use Rattle.clock.proofs.Row.sees.Goals as goal

pub returns-then-counter-base : goal.returns-then-counter-base
returns-then-counter-base c = let a = c.args in sym (seen_up_to (row_of a.self) a.counter c.if-counter-base.true)

pub returns-then-above-ge-WINDOW_WIDTH : goal.returns-then-above-ge-WINDOW_WIDTH
returns-then-above-ge-WINDOW_WIDTH c = let a = c.args in
    let fits : a.self.window < 2 ^ window_width = search rules in
    sym (seen-past (row_of a.self) a.counter c.if-counter-base.false ∙ test_bit_high window_width _ fits c.if-above-ge-WINDOW_WIDTH.true)

pub returns : goal.returns
unfolding test_bit
returns c = let a = c.args in sym (seen-past (row_of a.self) a.counter c.if-counter-base.false)
