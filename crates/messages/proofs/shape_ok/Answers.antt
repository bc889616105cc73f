-- The kind is one of the two; then the definition follows the expression.
use Prim.Native.Nat.{ℕ, ◌+◌}
use mathlib.Core.Path.{◌≡◌, refl}
use lib.Dec.{eqb}
use lib.ListN.{length}
use Rattle.wire.specs.Bytes.{Bytes}
use Rattle.wire.specs.declared.Span.{Span}
use Rattle.messages.specs.declared.MessageKind.{MessageKind}
use Rattle.messages.specs.declared.MessageKind.TheVariants.{Add, Remove}
use Rattle.messages.specs.Read.{shape_ok}
use Rattle.messages.specs.Layouts.{laid}
use Rattle.messages.proofs.shape_ok.Goals as goal

tested : (s : Bytes) (kind : MessageKind) (name label context : Span) (dot : ℕ) → eqb (context.at + context.len) (length s) ≡ shape_ok s (laid kind name label dot context)
unfolding shape_ok
tested s Add name label context dot = refl
tested s Remove name label context dot = refl

pub returns : goal.returns
returns c = tested c.args.s.now c.args.l.kind c.args.l.name c.args.l.label c.args.l.context c.args.l.dot
