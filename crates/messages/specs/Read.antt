-- What bytes say as a message: where its fields are by the length bytes, the message, and the answer.
use Rattle.std.specs.Prelude.{ℕ, ◌+◌, ◌*◌, Bool, not, cond, ◌&&◌, ◌||◌, [], ◌∷◌, leb, eqb, length, Result, Ok, Err}
use Rattle.wire.specs.Bytes.{Bytes, byte_at, span, end_of, part_of}
use Rattle.wire.specs.declared.Span.{Span}
use Rattle.dots.specs.declared.Answer.{Answer}
use Rattle.dots.specs.declared.Answer.TheVariants.{Done, NoMark, BadVersion, BadShape, BadName, BadDot}
use Rattle.dots.specs.declared.Dot.{Dot}
use Rattle.dots.specs.Answer.{Refusals, first_of, number_of}
use Rattle.dots.specs.Names.{Name}
use Rattle.dots.specs.Dots.{zero_dot}
use Rattle.dots.specs.Wire.{dot_at, dots_of, dot_size}
use Rattle.dots.specs.Message.{Message, add, remove}
use Rattle.messages.specs.declared.MessageFields.{MessageFields}
use Rattle.messages.specs.Message.{kind_byte, add_kind, remove_kind, names_ok, dots_ok}

-- where the fields of a message are: its kind byte, name, label, the own dot's place, the context
pub record Layout : Type 0 where
  pub kind : ℕ
  pub name : Span
  pub label : Span
  pub dot : ℕ
  pub context : Span

-- a message as it was read: its kind byte, where name, label and context stand, and an add's dot
pub record MessageRead : Type 0 where
  pub answer : Answer
  pub kind : ℕ
  pub name : Span
  pub label : Span
  pub dot : Dot
  pub context : Span

-- the field whose length byte stands at i
abbrev pub counted_at : Bytes → ℕ → Span
counted_at s i = span (i + 1) (byte_at s i)

-- the dots whose number stands at i
abbrev pub dots_counted_at : Bytes → ℕ → Span
dots_counted_at s i = span (i + 1) (dot_size * byte_at s i)

-- kind at 5, name from 6; then label, dot of 9 bytes, context. Bytes past the end count as 0.
abbrev pub add_layout : Bytes → Layout
add_layout s =
    let name = counted_at s 6 in
    let label = counted_at s (end_of name) in
    record { kind = byte_at s 5; name = name; label = label; dot = end_of label; context = dots_counted_at s (end_of label + dot_size) }

-- kind at 5, name from 6; then context
abbrev pub remove_layout : Bytes → Layout
remove_layout s =
    let name = counted_at s 6 in
    record { kind = byte_at s 5; name = name; label = span 0 0; dot = 0; context = dots_counted_at s (end_of name) }

unfoldable pub layout_of : Bytes → Layout
layout_of s = cond (eqb (byte_at s 5) add_kind) (add_layout s) (remove_layout s)

-- refusal 2 does not hold: at least 5 bytes, and the mark
unfoldable pub mark_ok : Bytes → Bool
mark_ok s = leb 5 (length s) && (eqb (byte_at s 0) 0x50 && (eqb (byte_at s 1) 0x54 && eqb (byte_at s 2) 0x4C))

-- refusal 3 does not hold: "version 00 01 (16 bits, high byte first)"
unfoldable pub version_ok : Bytes → Bool
version_ok s = eqb (byte_at s 3 * 256 + byte_at s 4) 1

-- refusal 4 does not hold: the kind is known, and the fields end where the bytes do. (A field that runs past the end has the context end past it too.)
unfoldable pub shape_ok : Bytes → Layout → Bool
shape_ok s l = (eqb l.kind add_kind || eqb l.kind remove_kind) && eqb (end_of l.context) (length s)

-- the set name and the message with their fields at these places
abbrev pub name_at : Bytes → Layout → Name
name_at s l = part_of s l.name

unfoldable pub message_at : Bytes → Layout → Message
message_at s l =
    cond (eqb l.kind add_kind)
    (add (part_of s l.label) (dot_at s l.dot) (dots_of (part_of s l.context)))
    (remove (dots_of (part_of s l.context)))

-- "A message's label, dot and context are those in its bytes."
unfoldable pub name_of : Bytes → Name
name_of s = name_at s (layout_of s)

unfoldable pub message_of : Bytes → Message
message_of s = message_at s (layout_of s)

-- the refusals of a message, in the table's order
abbrev pub read_refusals : Bytes → Refusals
read_refusals s =
    (not (mark_ok s), NoMark)
    ∷ (not (version_ok s), BadVersion)
    ∷ (not (shape_ok s (layout_of s)), BadShape)
    ∷ (not (names_ok (name_of s) (message_of s)), BadName)
    ∷ (not (dots_ok (message_of s)), BadDot)
    ∷ []

unfoldable pub read_answer : Bytes → Answer
read_answer s = first_of (read_refusals s)

abbrev pub accepted : Bytes → Bool
accepted s = eqb (number_of (read_answer s)) 0

-- what reading gives: the fields at their places, and an add's dot
abbrev pub found_message : Bytes → Layout → Answer → MessageRead
found_message s l answer = record {
  answer = answer;
  kind = l.kind;
  name = l.name;
  label = l.label;
  dot = cond (eqb l.kind add_kind) (dot_at s l.dot) zero_dot;
  context = l.context;
}

-- "refused: all fields 0"
abbrev pub no_message : Answer → MessageRead
no_message answer = record { answer = answer; kind = 0; name = span 0 0; label = span 0 0; dot = zero_dot; context = span 0 0 }

-- what reading gave, as the answer and the fields
abbrev pub read_as : Result MessageFields Answer → MessageRead
read_as (Ok m) = record { answer = Done; kind = kind_byte m.kind; name = m.name; label = m.label; dot = m.dot; context = m.context }
read_as (Err a) = no_message a

unfoldable pub read_of : Bytes → MessageRead
read_of s = cond (accepted s) (found_message s (layout_of s) (read_answer s)) (no_message (read_answer s))
