-- By the tests, which are those of the bytes themselves.
use Rattle.store.proofs.Front.{after-short, after_failed, after-passed, after-unseen}
use Rattle.std.proofs.Common.{sym, arith, rules}
use Rattle.store.proofs.after_length.Goals as goal

pub returns-then-t-n : goal.returns-then-t-n
returns-then-t-n c = sym (search (rules, after-short))

pub returns-then-not-shaped : goal.returns-then-not-shaped
returns-then-not-shaped c = sym (search (rules, after_failed))

pub returns-then-sees : goal.returns-then-sees
returns-then-sees c = (after-passed _ _ _ c.zero_at-n.ensures.0 c.if-t-n.false _ c.number_at-event.ensures c.if-not-shaped.false _ c.sees.ensures c.if-sees.true, λ z. omega arith)

pub returns : goal.returns
returns c = sym (search (rules, after-unseen))
