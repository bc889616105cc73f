use Rattle.std.proofs.Common.{rules, tests}
use mathlib.Core.Path.{◌∙◌}
use Rattle.std.proofs.lemmas.Iterator.Search.{any_from_yields_List}
use Rattle.dots.specs.Wire.{dots_of}
use Rattle.dots.proofs.Iterating.{YieldsList-from_dots, list_any-is}
use Rattle.steps.specs.Tests.{ahead_of}
use Rattle.steps.proofs.own_ahead.Goals as goal

pub returns : goal.returns
returns c =
    any_from_yields_List (ahead_of c.args.own c.args.base) c.any.new.self _ _ c.any.ensures.ran (YieldsList-from_dots {s = c.dots_in.result} (dots_of c.args.offered.now) cc) (λ x b q k. search (rules, tests))
    ∙ list_any-is (ahead_of c.args.own c.args.base) (dots_of c.args.offered.now)
