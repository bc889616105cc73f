-- "mark 50 54 4C ("PTL"), version 00 01, kind 61 (add) or 72 (remove), name length and name. An add then has label length and label,
-- actor, 8-byte counter. Both end with the number of context dots in one byte and 9 bytes for each."
use Rattle.std.specs.Prelude.{ℕ, ◌+◌, ◌*◌, Bool, false, not, ◌&&◌, ◌||◌, ◌∷◌, ◌++◌, ◌≡◌, eqb, length, Result, MatchResult}
use Rattle.wire.specs.Lists.{member}
use Rattle.wire.specs.Bytes.{Bytes}
use Rattle.dots.specs.declared.Answer.{Answer}
use Rattle.dots.specs.declared.Answer.TheVariants.{BadShape}
use Rattle.dots.specs.Names.{Name, name_most, label_most, name_ok, label_prints}
use Rattle.dots.specs.Dots.{Context, compare_dots, dot_ok, context_most, context_ok}
use Rattle.dots.specs.Wire.{dot_bytes, dots_bytes, dot_size}
use Rattle.dots.specs.Message.{Message, add, remove}
use Rattle.messages.specs.declared.MessageKind.{MessageKind}
use Rattle.messages.specs.declared.MessageKind.TheVariants.{Add, Remove}

-- the rules of set name and label (refusal 5); document 02, request 5: "add messages refuse with 5 any label byte outside 20 to 7E hexadecimal"
abbrev pub names_ok : Name → Message → Bool
names_ok name (add label dot context) = name_ok name && label_prints label
names_ok name (remove context) = name_ok name

-- the rules of dot and context, and "an add's context has its own dot" (refusal 6)
abbrev pub dots_ok : Message → Bool
dots_ok (add label dot context) = dot_ok dot && (context_ok context && not (member compare_dots dot context))
dots_ok (remove context) = context_ok context

unfoldable pub message_ok : Name → Message → Bool
message_ok name m = names_ok name m && dots_ok m

-- the kind bytes, 'a' and 'r'
abbrev pub add_kind : ℕ
add_kind = 0x61

abbrev pub remove_kind : ℕ
remove_kind = 0x72

abbrev pub kind_byte : MessageKind → ℕ
kind_byte Add = add_kind
kind_byte Remove = remove_kind

-- the kind of a kind byte, and a refusal of a byte that is none
abbrev pub Known : ℕ → Result MessageKind Answer → Type 0
Known b r = MatchResult r (λ kind. kind_byte kind ≡ b) (λ answer. (answer ≡ BadShape) × ((eqb b add_kind || eqb b remove_kind) ≡ false))

-- a length byte, and what it counts
abbrev pub counted : Bytes → Bytes
counted text = length text ∷ text

-- the number of dots, and the dots
abbrev pub context_bytes : Context → Bytes
context_bytes ds = length ds ∷ dots_bytes ds

-- mark, version 1, kind, set name
abbrev pub front_bytes : ℕ → Name → Bytes
front_bytes kind name = 0x50 ∷ 0x54 ∷ 0x4C ∷ 0x00 ∷ 0x01 ∷ kind ∷ counted name

unfoldable pub message_bytes : Name → Message → Bytes
message_bytes name (add label dot context) = front_bytes add_kind name ++ (counted label ++ (dot_bytes dot ++ context_bytes context))
message_bytes name (remove context) = front_bytes remove_kind name ++ context_bytes context

-- bytes of a message's front beside the name: mark, version, kind, name length
abbrev pub front_fixed : ℕ
front_fixed = 7

-- bytes of a remove beside name and context (front, number of dots), and of an add beside name, label and context (label length and dot too)
abbrev pub remove_fixed : ℕ
remove_fixed = front_fixed + 1

abbrev pub add_fixed : ℕ
add_fixed = remove_fixed + 1 + dot_size

-- the longest valid message: an add with every field at its longest
abbrev pub message_most : ℕ
message_most = add_fixed + name_most + label_most + dot_size * context_most
