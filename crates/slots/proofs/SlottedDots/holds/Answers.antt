-- Less than nine bytes hold no dot.
use Rattle.wire.specs.Lists.{member}
use Rattle.dots.proofs.Iterating.{dots_of-empty}
use Rattle.slots.proofs.SlottedDots.holds.Goals as goal

pub returns-then-self-lt-DOT_SIZE : goal.returns-then-self-lt-DOT_SIZE
unfolding member
returns-then-self-lt-DOT_SIZE c = rw (dots_of-empty c.args.self.dots.now c.if-self-lt-DOT_SIZE.true)
