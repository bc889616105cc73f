-- The test is the definition's.
use mathlib.Core.Path.{◌≡◌}
use mathlib.Core.Bool.{true, false, ◌&&◌}
use lib.Dec.{eqb}
use Rattle.dots.specs.declared.Answer.TheVariants.{Done, OutputShort}
use Rattle.listing.specs.declared.LinesPut.{LinesPut}
use Rattle.reads.specs.Reads.{put_answer}
use borrow.Author.Rules.{rules}
use Rattle.reads.proofs.put_answer.Goals as goal

module _ (put : LinesPut) where
  is-short : (put.more && eqb put.labels 0) ≡ true → OutputShort ≡ put_answer put
  unfolding put_answer
  is-short t = rw t

  is-done : (put.more && eqb put.labels 0) ≡ false → Done ≡ put_answer put
  unfolding put_answer
  is-done f = rw f

pub returns-then-put : goal.returns-then-put
returns-then-put c = search (rules, is-short)

pub returns : goal.returns
returns c = search (rules, is-done)
