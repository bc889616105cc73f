use Rattle.std.proofs.Common.{rules, tests}
use mathlib.Core.Path.{◌∙◌}
use Rattle.std.proofs.lemmas.Iterator.Search.{all_from_yields_List}
use Rattle.dots.specs.Wire.{dots_of}
use Rattle.dots.proofs.Iterating.{YieldsList-from_dots, list_all-is}
use Rattle.clock.specs.Clock.{sees}
use Rattle.judging.proofs.all_seen.Goals as goal

pub returns : goal.returns
returns c =
    all_from_yields_List (sees c.args.words.now) c.all.new.self _ _ c.all.ensures.ran (YieldsList-from_dots {s = c.dots_in.result} (dots_of c.args.seen.now) cc) (λ x b q k. search (rules, tests))
    ∙ list_all-is (sees c.args.words.now) (dots_of c.args.seen.now)
