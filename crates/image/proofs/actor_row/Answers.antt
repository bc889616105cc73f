-- No actor has the empty row; an actor's is read at its place.
use mathlib.Core.Path.{sym}
use mathlib.Core.Logic.{inl, inr}
use Rattle.dots.specs.Dots.{actor_most}
use Rattle.clock.proofs.Clocks.{row-none}
use Rattle.calls.specs.ImageRead.{clock_in}
use Rattle.image.specs.Sizes.{window_size}
use Rattle.image.proofs.Rows.{actor-row}
use borrow.Author.Rules.{rules}
use Rattle.image.proofs.actor_row.Goals as goal

pub returns-then-actor-lt1 : goal.returns-then-actor-lt1
returns-then-actor-lt1 c = sym (row-none (clock_in window_size actor_most c.args.s.now c.args.rows) c.args.actor (inl c.if-actor-lt1.true))

pub returns-then-actor-gt-ACTOR_MOST : goal.returns-then-actor-gt-ACTOR_MOST
returns-then-actor-gt-ACTOR_MOST c = sym (row-none (clock_in window_size actor_most c.args.s.now c.args.rows) c.args.actor (inr c.if-actor-gt-ACTOR_MOST.true))

pub returns : goal.returns
returns c = search (rules, actor-row)
