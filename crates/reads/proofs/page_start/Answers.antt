-- At the front, or past the keys of the label.
use Prim.Native.Nat.{◌^◌, ◌<◌}
use mathlib.Core.Path.{◌≡◌}
use mathlib.Core.Bool.{true, false}
use native.Mathlib.Omega.{arith}
use mir.Val.{Fits}
use mir.Syntax.{w64}
use lib.ListN.{length}
use borrow.Author.Tests.{eq-eqb, ne_eqb, not-false}
use Rattle.wire.specs.Bytes.{Bytes, end_of}
use Rattle.wire.specs.declared.Span.{Span}
use Rattle.dots.specs.Names.{Name, Label, label_ok}
use Rattle.store.specs.Place.{IsSpan}
use Rattle.calls.specs.Refusals.{bad_start}
use Rattle.reads.specs.Reads.{page_start, IsStart}
use borrow.Author.Rules.{rules}
use Rattle.reads.proofs.page_start.Goals as goal

labelled : (start : Label) → bad_start start ≡ false → (length start ≡ 0 → ⊥) → label_ok start ≡ true
labelled start b f = not-false (label_ok start) (rw (ne_eqb (length start) 0 f) at b)

module _ (keys : Bytes) (name : Name) (start : Label) where
  at_front : length start ≡ 0 → IsStart keys name start 0
  unfolding page_start
  at_front e = (rw (eq-eqb (length start) 0 e), omega arith)

  past-label : (p : Span) → (length start ≡ 0 → ⊥) → IsSpan name start keys p → IsStart keys name start (end_of p)
  unfolding page_start
  past-label p f span = (rw (ne_eqb (length start) 0 f) span.1, span.2)

  span_fits : (p : Span) → length keys < 2 ^ 64 → IsSpan name start keys p → Fits w64 (end_of p)
  span_fits p size span = omega (arith, span.2)

pub returns-then-start-eq0 : goal.returns-then-start-eq0
returns-then-start-eq0 c = search (rules, at_front)

pub label_span-span-requires : goal.label_span-span-requires
label_span-span-requires c = (c.requires.named, labelled _ c.requires.started c.if-start-eq0.false, c.requires.passed)

pub overflow_add-result : goal.overflow_add-result
overflow_add-result c = span_fits c.args.keys.now c.args.name.now _ c.label_span-span.result (search rules) c.label_span-span.ensures

pub returns : goal.returns
returns c = past-label c.args.keys.now c.args.name.now _ c.label_span-span.result c.if-start-eq0.false c.label_span-span.ensures
