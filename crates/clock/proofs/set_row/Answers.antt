-- Actor a has the words at 2 (a - 1) and the next.
use Rattle.std.proofs.Common.{sym, inl, inr, arith}
use Rattle.clock.specs.Code.{row_of}
use Rattle.clock.proofs.Clocks.{with_none, with-words}
use Rattle.clock.proofs.set_row.Goals as goal

pub returns-then-a-lt1 : goal.returns-then-a-lt1
returns-then-a-lt1 c = let a = c.args in sym (with_none a.words.now a.actor.number (row_of a.row) (inl c.if-a-lt1.true))

pub returns-then-a-gt-ACTOR_MOST : goal.returns-then-a-gt-ACTOR_MOST
returns-then-a-gt-ACTOR_MOST c = let a = c.args in sym (with_none a.words.now a.actor.number (row_of a.row) (inr c.if-a-gt-ACTOR_MOST.true))

pub returns : goal.returns
returns c = let a = c.args in with-words a.words.now a.actor.number (row_of a.row) (omega arith) (omega arith)
