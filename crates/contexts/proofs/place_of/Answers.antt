use Rattle.std.proofs.Common.{rules, tests}
use mathlib.Core.Path.{◌∙◌}
use mathlib.Core.Logic.{inl}
use native.Mathlib.Omega.{arith}
use Rattle.std.proofs.lemmas.Iterator.Search.{YieldsList-from_take_while}
use Rattle.std.proofs.lemmas.Iterator.Consumers.{count_from_yields_List, YieldsList-at}
use Rattle.wire.specs.Lists.{is_lt}
use Rattle.dots.specs.declared.Dot.{Dot}
use Rattle.dots.specs.Dots.{compare_dots}
use Rattle.dots.specs.Wire.{dots_of}
use Rattle.dots.proofs.Loops.{length-dots_of}
use Rattle.dots.proofs.Iterating.{YieldsList-from_dots}
use Rattle.contexts.proofs.Places.{place-prefix, placed_within}
use Rattle.contexts.proofs.place_of.Goals as goal

pub count-requires-clause-fits : goal.count-requires-clause-fits
count-requires-clause-fits c = inl (rw (c.take_while.ensures.source, c.dots_in.ensures, length-dots_of) (omega arith))

pub returns : goal.returns
returns c =
    placed_within c.args.dots.now c.args.dot c.count.result
    (count_from_yields_List _ _ c.count.ensures.ran (YieldsList-from_take_while _ (λ (d : Dot). is_lt (compare_dots d c.args.dot)) (YieldsList-at c.take_while.ensures.source (YieldsList-from_dots {s = c.dots_in.result} (dots_of c.args.dots.now) cc)) c.take_while.ensures.closure c.take_while.ensures.done (λ x b q k. search (rules, tests)))
    ∙ place-prefix c.args.dot (dots_of c.args.dots.now))
