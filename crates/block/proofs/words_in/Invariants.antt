-- The words before i are those of the block.
use Rattle.std.proofs.Common.{◌≡◌, length, take}
use Rattle.block.specs.Block.{words_at, clock_at}
use Rattle.clock.specs.Clock.{clock_words}
use Rattle.block.proofs.words_in.Given as goal

abbrev pub invariant-loop-i : goal.invariant-loop-i
invariant-loop-i l = (length l.word-items ≡ clock_words) × (take l.i l.word-items ≡ words_at l.i l.block clock_at)
