-- The worked cases, by computing. Assumes nothing.
use mathlib.Core.Path.{refl}
use Rattle.wire.specs.Lists.{all, member, ascends, ascends_from}
use Rattle.wire.specs.Bytes.{big_endian, from_big_endian}
use Rattle.dots.specs.Names.{text_ok, label_prints}
use Rattle.dots.specs.Dots.{dot_ok, ascending_dots}
use Rattle.dots.specs.Wire.{dot_bytes, dots_bytes, dots_at, dots_of}
use Rattle.messages.specs.Message.{message_bytes}
use Rattle.messages.specs.Read.{layout_of, mark_ok, version_ok, shape_ok, message_at, name_of, message_of, read_answer}
use Rattle.messages.specs.Cases.{MessageCases}

pub message-cases : MessageCases
unfolding message_bytes dot_bytes dots_bytes big_endian name_of message_of message_at layout_of dots_of dots_at from_big_endian read_answer mark_ok version_ok shape_ok text_ok label_prints all dot_ok ascending_dots ascends ascends_from member
message-cases = record {
  M1 = record { written = refl; accepted = refl; named = refl; read = refl };
  A1 = record { written = refl; accepted = refl; named = refl; read = refl };
  refused = (refl, (refl, (refl, (refl, (refl, (refl, (refl, (refl, tt))))))));
  prints = (refl, (refl, (refl, (refl, (refl, tt)))));
  longest = refl;
}
