-- The cases of keys, by computing.
use mathlib.Core.Path.{refl}
use Rattle.wire.specs.Lists.{all, ascends_from, ascends, compare_lists}
use Rattle.wire.specs.Bytes.{big_endian, from_big_endian, zero_at}
use Rattle.dots.specs.Names.{text_ok}
use Rattle.keys.specs.Key.{names_ok, key_counter_ok, after_type, key_bytes}
use Rattle.keys.specs.Read.{fields_as, is_key, read_key}
use Rattle.keys.specs.Write.{write_answer}
use Rattle.keys.specs.Entry.{entry_key, key_entry}
use Rattle.keys.specs.Cases.{KeyCases}

pub key-cases : KeyCases
unfolding all ascends_from ascends compare_lists big_endian from_big_endian zero_at text_ok names_ok key_counter_ok after_type key_bytes fields_as is_key read_key write_answer entry_key key_entry
key-cases = record {
  k1_written = refl;
  k1_decoded = refl;
  k1_read_lem = refl;
  o1 = λ c d e. refl;
  label_of_32 = refl;
  label_of_33 = refl;
}
