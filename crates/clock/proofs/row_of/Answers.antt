-- Actor a has the words at 2 (a - 1) and the next.
use Rattle.std.proofs.Common.{sym, inl, inr, rules}
use Rattle.clock.proofs.Clocks.{row-none, row_words_lem}
use Rattle.clock.proofs.row_of.Goals as goal

pub returns-then-a-lt1 : goal.returns-then-a-lt1
returns-then-a-lt1 c = let a = c.args in sym (row-none a.words.now a.actor.number (inl c.if-a-lt1.true))

pub returns-then-a-gt-ACTOR_MOST : goal.returns-then-a-gt-ACTOR_MOST
returns-then-a-gt-ACTOR_MOST c = let a = c.args in sym (row-none a.words.now a.actor.number (inr c.if-a-gt-ACTOR_MOST.true))

pub returns : goal.returns
returns c = search (rules, row_words_lem)
