use Rattle.dots.specs.Wire.{dots_of}
use Rattle.listing.proofs.LineWalks.{begun, key_fits, not_ended, few-dots, fewer-left, label-some, label_closed, keys-within, line-ends, line_goes_on}
use borrow.Author.Rules.{rules}
use Rattle.listing.proofs.Listing.first_line.Goals as goal

pub overflow_sub-line : goal.overflow_sub-line
overflow_sub-line c = (begun _ _ (dots_of c.args.self.dead.dots.now) c.requires.0.2 c.requires.1 c.requires.0.0 _ c.key_end-size.ensures).long

pub loop-line-init : goal.loop-line-init
loop-line-init c = (begun _ _ _ c.requires.0.2 c.requires.1 c.requires.0.0 _ c.key_end-size.ensures).at_key

pub with_key-line-requires : goal.with_key-line-requires
with_key-line-requires c = search (rules, key_fits, few-dots)

pub goes_on-requires : goal.goes_on-requires
goes_on-requires c = search (rules, label-some, label_closed, keys-within)

pub returns-then-not-goes_on : goal.returns-then-not-goes_on
returns-then-not-goes_on c = search (rules, line-ends)

pub loop-line-smaller : goal.loop-line-smaller
loop-line-smaller c = search (rules, fewer-left)

pub loop-line-preserved : goal.loop-line-preserved
loop-line-preserved c = search (rules, line_goes_on)

pub returns : goal.returns
returns c = absurd (not_ended _ _ _ _ c.loop-line.invariant c.loop-line-test.false)
