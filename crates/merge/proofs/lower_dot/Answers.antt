-- By how the two compare.
use mathlib.Core.Path.{sym, ◌∙◌, subst}
use Rattle.merge.proofs.DotOrders.{Ranked, ranked}
use Rattle.merge.proofs.Turns.{next-first, next-second, next_both}
use Rattle.merge.proofs.lower_dot.Goals as goal

pub returns-in-Less : goal.returns-in-Less
returns-in-Less c = sym (next-first c.args.d c.args.e (subst (Ranked c.args.d c.args.e) (sym c.cmp.ensures ∙ c.in-Less.is) (ranked c.args.d c.args.e)))

pub returns-in-Equal : goal.returns-in-Equal
returns-in-Equal c = rw (subst (Ranked c.args.d c.args.e) (sym c.cmp.ensures ∙ c.in-Equal.is) (ranked c.args.d c.args.e)) (sym (next_both c.args.e))

pub returns-in-Greater : goal.returns-in-Greater
returns-in-Greater c = sym (next-second c.args.d c.args.e (subst (Ranked c.args.d c.args.e) (sym c.cmp.ensures ∙ c.in-Greater.is) (ranked c.args.d c.args.e)))
