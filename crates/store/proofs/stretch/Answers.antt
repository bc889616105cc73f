-- The part from where the label's keys begin to where they end.
use Rattle.std.proofs.Common.{Bor, rules}
use Rattle.wire.specs.declared.Span.{Span}
use Rattle.wire.specs.Bytes.{Bytes, end_of, IsPart}
use Rattle.dots.specs.Names.{Name, Label}
use Rattle.store.specs.Place.{IsSpan, IsStretch}
use Rattle.store.proofs.stretch.Goals as goal

stretched : (keys r : Bor Bytes) (name : Name) (label : Label) (p : Span) → IsSpan name label keys.now p → IsPart keys p.at (end_of p) r → IsStretch name label keys r
stretched keys r name label p is part = rw (← is.1, ← is.0) part

pub returns : goal.returns
returns c = stretched c.args.keys _ _ _ c.label_span-span.result c.label_span-span.ensures (search rules)
