-- Layouts: their bounds, and what is read at a layout's places. For the contracts of the functions behind read_message.
use Rattle.std.specs.Prelude.{ℕ, ◌+◌, ◌≤◌, cond, ◌≡◌, eqb, length}
use Rattle.wire.specs.Bytes.{Bytes, end_of}
use Rattle.dots.specs.declared.Dot.{Dot}
use Rattle.dots.specs.Dots.{zero_dot}
use Rattle.dots.specs.Wire.{dot_at, dot_size}
use Rattle.wire.specs.declared.Span.{Span}
use Rattle.messages.specs.declared.MessageKind.{MessageKind}
use Rattle.messages.specs.Message.{kind_byte, add_kind, front_fixed}
use Rattle.messages.specs.Read.{Layout}

-- the layout of a message of a kind
abbrev pub laid : MessageKind → Span → Span → ℕ → Span → Layout
laid kind name label dot context = record { kind = kind_byte kind; name = name; label = label; dot = dot; context = context }

-- each length byte is at most 255, so no sum of places overflows
pub record Small (l : Layout) : Type 0 where
  pub name-at : l.name.at ≤ front_fixed
  pub name-len : l.name.len ≤ 255
  pub label_at : l.label.at ≤ 263
  pub label-len : l.label.len ≤ 255
  pub dot : l.dot ≤ 518
  pub context-at : l.context.at ≤ 528
  pub context-len : l.context.len ≤ 2295

-- every field lies within the bytes, and the context ends them
pub record Within (s : Bytes) (l : Layout) : Type 0 where
  pub name : end_of l.name ≤ length s
  pub label : end_of l.label ≤ length s
  pub dot : l.kind ≡ add_kind → l.dot + dot_size ≤ length s
  pub context : end_of l.context ≡ length s

-- an add's own dot, and the zero dot of a remove
abbrev pub own_dot : Bytes → Layout → Dot
own_dot s l = cond (eqb l.kind add_kind) (dot_at s l.dot) zero_dot
