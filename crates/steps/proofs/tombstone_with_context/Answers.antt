use mathlib.Core.Path.{ap, ◌∙◌}
use Rattle.dots.proofs.Rules.{ascending-valid}
use Rattle.dots.specs.Wire.{dots_of}
use Rattle.steps.specs.Tests.{with_seen}
use Rattle.steps.proofs.TombstoneBytes.{tombstone-next, tombstone-room, first-valid, rest-valid, tombstone-end}
use Rattle.steps.proofs.tombstone_with_context.Goals as goal

pub loop-dot-init : goal.loop-dot-init
loop-dot-init c = let valid = ascending-valid (dots_of c.args.context.now) c.requires.1.ascends in record { held = c.requires.0; rest = cc; valid = cc }

pub tombstone_with_dot-requires : goal.tombstone_with_dot-requires
tombstone_with_dot-requires c = let i = c.loop-dot.invariant in
    (i.held, first-valid _ _ _ c.in-Some.ensures.steps i.valid, tombstone-room _ _ _ _ _ _ c.in-Some.ensures.steps i.rest c.requires.2)

pub loop-dot-preserved : goal.loop-dot-preserved
loop-dot-preserved c = let i = c.loop-dot.invariant in
    record {
      held = c.tombstone_with_dot.ensures.0;
      rest = ap (with_seen c.args.words.now _) c.tombstone_with_dot.ensures.1 ∙ tombstone-next _ _ _ _ _ _ c.in-Some.ensures.steps i.rest;
      valid = rest-valid _ _ _ c.in-Some.ensures.steps i.valid;
    }

pub returns : goal.returns
returns c = let i = c.loop-dot.invariant in (i.held, tombstone-end _ _ _ _ c.in-None.ensures.steps.0 i.rest)
