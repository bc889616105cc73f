-- The fields are the definition's.
use mathlib.Core.Path.{ap}
use Rattle.dots.specs.declared.Answer.{Answer}
use Rattle.reads.proofs.listed.Goals as goal

pub returns : goal.returns
returns c = let put = c.args.put in
    ap (λ (x : Answer). record { answer = x; written = put.bytes; labels = put.labels }) c.put_answer.ensures
