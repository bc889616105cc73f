-- The rows of the actors up to a are those of the bytes.
use mathlib.Core.Path.{◌≡◌}
use Rattle.calls.specs.ImageRead.{clock_in}
use Rattle.image.specs.Sizes.{window_size}
use Rattle.image.proofs.words_in.Given as goal

abbrev pub invariant-loop-a : goal.invariant-loop-a
invariant-loop-a l = (l.words ≡ clock_in window_size l.a l.s l.at)
