-- The fields are the definition's.
use mathlib.Core.Path.{◌≡◌, ap}
use mathlib.Core.Bool.{◌&&◌}
use lib.Dec.{ltb}
use Rattle.dots.specs.declared.Answer.{Answer}
use Rattle.listing.specs.declared.LinesPut.{LinesPut}
use Rattle.reads.specs.Reads.{put_answer, paged_of}
use Rattle.reads.proofs.paged.Goals as goal

given : (put : LinesPut) (answer : Answer) → answer ≡ put_answer put
    → record { answer = answer; written = put.bytes; labels = put.labels; more = put.more && ltb 0 put.labels } ≡ paged_of put
unfolding paged_of
given put answer a = ap (λ (x : Answer). record { answer = x; written = put.bytes; labels = put.labels; more = put.more && ltb 0 put.labels }) a

pub returns : goal.returns
returns c = given _ _ c.put_answer.ensures
