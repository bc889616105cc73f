-- There are as many dots as nine goes into the bytes.
use Rattle.dots.proofs.Loops.{length-dots_of}
use Rattle.contexts.proofs.context_ok.Goals as goal

pub returns : goal.returns
returns c = rw (c.ascending_dots-ascend.ensures, length-dots_of)
