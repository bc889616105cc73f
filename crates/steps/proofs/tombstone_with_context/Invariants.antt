-- The invariant: inserting the dots that are left gives what inserting all gives at the start, and they keep their rule.
use mathlib.Core.Path.{◌≡◌}
use mathlib.Core.Bool.{true}
use Rattle.wire.specs.Lists.{all}
use Rattle.dots.specs.Dots.{dot_ok}
use Rattle.dots.specs.Wire.{dots_of}
use Rattle.steps.specs.Tests.{Padded, held_dots, with_seen}
use Rattle.steps.proofs.tombstone_with_context.Given as goal

abbrev pub invariant-loop-dot : goal.invariant-loop-dot
invariant-loop-dot l = record {
  held : Padded l.tombstone.bytes l.tombstone.count;
  rest : with_seen l.words (dots_of l.dot-iterator.bytes.now) (held_dots l.tombstone.bytes l.tombstone.count) ≡ with_seen l.words (dots_of l.context) (held_dots l.initial.tombstone.bytes l.initial.tombstone.count);
  valid : all dot_ok (dots_of l.dot-iterator.bytes.now) ≡ true;
}
