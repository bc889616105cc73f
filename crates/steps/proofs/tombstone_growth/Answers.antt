use Rattle.std.proofs.Common.{rules, tests}
use mathlib.Core.Path.{◌≡◌, ap, ◌∙◌}
use mathlib.Core.Logic.{inl}
use native.Mathlib.Omega.{arith}
use lib.ListN.{length}
use Rattle.std.proofs.lemmas.Iterator.Consumers.{count_from_yields_List, YieldsList-from_filter, YieldsList-at}
use Rattle.wire.specs.Lists.{keep}
use Rattle.dots.specs.Wire.{dots_of}
use Rattle.dots.proofs.Loops.{length-dots_of}
use Rattle.dots.proofs.Iterating.{YieldsList-from_dots, filter-is}
use Rattle.steps.specs.Tests.{joins_tombstone}
use Rattle.steps.proofs.Joining.{keep-few}
use Rattle.steps.proofs.tombstone_growth.Goals as goal
use Rattle.steps.proofs.tombstone_growth.Goals.{After-count}

pub count-requires-clause-fits : goal.count-requires-clause-fits
count-requires-clause-fits c = inl (rw (c.filter.ensures.source, c.dots_in.ensures, length-dots_of) (omega arith))

counted : (c : After-count) → c.count.result ≡ length (keep (joins_tombstone c.args.words.now (dots_of c.args.tombstone.dots.now)) (dots_of c.args.context.now))
counted c =
    count_from_yields_List _ _ c.count.ensures.ran
    (YieldsList-from_filter _ (joins_tombstone c.args.words.now (dots_of c.args.tombstone.dots.now)) (YieldsList-at c.filter.ensures.source (YieldsList-from_dots {s = c.dots_in.result} (dots_of c.args.context.now) cc)) c.filter.ensures.closure (λ x b q k. search (rules, tests)))
    ∙ ap length (filter-is (joins_tombstone c.args.words.now (dots_of c.args.tombstone.dots.now)) (dots_of c.args.context.now))

pub returns : goal.returns
returns c =
    let is = counted (goal.at.returns c).After-count in
    let few = keep-few (joins_tombstone c.args.words.now (dots_of c.args.tombstone.dots.now)) (dots_of c.args.context.now) in
    let all = length-dots_of c.args.context.now in
    (is, omega arith)
