use Rattle.std.proofs.Common.{rules, tests}
use mathlib.Core.Path.{◌∙◌}
use lib.Dec.{compare_is_eq}
use Rattle.std.proofs.lemmas.Iterator.Search.{any_from_yields_List}
use Rattle.dots.specs.Dots.{compare_dots}
use Rattle.dots.specs.Wire.{dots_of}
use Rattle.dots.proofs.Iterating.{YieldsList-from_dots, list_any-member}
use Rattle.contexts.proofs.has_dot.Goals as goal

pub returns : goal.returns
returns c =
    any_from_yields_List (λ x. compare_is_eq (compare_dots c.args.dot x)) c.any.new.self _ _ c.any.ensures.ran (YieldsList-from_dots {s = c.dots_in.result} (dots_of c.args.dots.now) cc) (λ x b q k. search (rules, tests))
    ∙ list_any-member c.args.dot (dots_of c.args.dots.now)
