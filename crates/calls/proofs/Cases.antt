-- The tables of cases, by computing. Assumes nothing.
use mathlib.Core.Path.{refl}
use Rattle.wire.specs.Lists.{keep, any, all, compare_lists, member, ascends_from, ascends, insert, insert_all}
use Rattle.wire.specs.Bytes.{big_endian, from_big_endian, zero_at}
use Rattle.crc.specs.Crc.{bit_step, bit_steps, byte_step, register, crc_of}
use Rattle.dots.specs.Names.{text_ok, label_prints}
use Rattle.dots.specs.Dots.{dot_ok, ascending_dots}
use Rattle.dots.specs.Wire.{dot_bytes, dots_bytes, dots_at, dots_of}
use Rattle.dots.specs.Entries.{prepend, lines_of}
use Rattle.clock.specs.Row.{test_bit, seen, well_formed, trailing_ones, settled, marked, join}
use Rattle.clock.specs.Offered.{total, known, climb, unbroken, window_events, too_far}
use Rattle.clock.specs.Clock.{row_at, unused, with_row, sees, all_to, rows_ok, clock_ok, join_dot, join_each, join_all, counters_of, near}
use Rattle.keys.specs.Key.{names_ok, key_counter_ok, after_type, key_bytes}
use Rattle.keys.specs.Read.{fields_as, is_key}
use Rattle.keys.specs.Write.{write_answer}
use Rattle.keys.specs.Entry.{entry_key, key_entry}
use Rattle.keys.proofs.Cases.{key-cases}
use Rattle.messages.specs.Message.{message_bytes}
use Rattle.messages.specs.Read.{layout_of, mark_ok, version_ok, shape_ok, message_at, name_of, message_of, read_answer}
use Rattle.messages.proofs.Cases.{message-cases}
use Rattle.store.specs.Cut.{end_to_end, store_bytes, key_length, keys_after, key_label, key_dot, entries_in}
use Rattle.store.specs.Valid.{used_ok, store_ok}
use Rattle.listing.specs.Listing.{listing_bytes}
use Rattle.replica.specs.Machine.{messages_of, apply, compacted, listing, found, effect}
use Rattle.replica.specs.Page.{fitting, first_fits}
use Rattle.replica.specs.Read.{merged_entries}
use Rattle.replica.specs.Rule.{adds_of, note_actor, note_own_add, history_from, rule_listing}
use Rattle.replica.specs.Network.{is_own_add, pairs_from}
use Rattle.calls.specs.State.{view}
use Rattle.calls.specs.Damage.{state_name_ok, tombstone_ok, damaged}
use Rattle.calls.specs.Effect.{state_of, store_of}
use Rattle.calls.specs.Calls.{set_up, own_add_result, own_remove_result, take_in_result, list_result, page_result, more_follow, merge_result, lookup_result, compact_result}
use Rattle.calls.specs.Image.{rows_bytes, image_rest, image_under}
use Rattle.calls.specs.ImageRead.{version_ok as image_version_ok, layout_of as image_layout_of, shape_ok as image_shape_ok, crc_ok, clock_in, state_at, free_of}
use Rattle.calls.specs.HandOff.{image_result, load_result}
use Rattle.calls.specs.Sequence.{result_of, run, call_of, events, message_bytes_of, traffic}
use Rattle.calls.specs.Cases.{dot, answers_of, last_output, shown, StarredCases}
use Rattle.calls.specs.ImageCases.{ImageCases}
use Rattle.calls.specs.Line.{LineCases}
use Rattle.calls.specs.Order.{OrderCases}
use Rattle.calls.specs.DamageCases.{DamageCases}
use Rattle.calls.specs.Premises.{PremisesMet, TwoLabels}

-- all that the cases compute with: whoever unfolds this unfolds each of these
computing : Unit {0}
unfolding keep any all compare_lists member ascends_from ascends insert insert_all big_endian from_big_endian zero_at text_ok label_prints dot_ok ascending_dots dot_bytes dots_bytes dots_at dots_of prepend lines_of test_bit seen well_formed trailing_ones settled marked join total known climb unbroken window_events too_far row_at with_row sees all_to rows_ok clock_ok join_dot join_each join_all counters_of near names_ok key_counter_ok after_type key_bytes fields_as is_key entry_key key_entry message_bytes layout_of mark_ok version_ok shape_ok message_at name_of message_of end_to_end store_bytes key_length keys_after key_label key_dot entries_in used_ok store_ok listing_bytes fitting first_fits apply compacted listing found effect view state_name_ok tombstone_ok damaged state_of store_of set_up own_add_result own_remove_result take_in_result list_result page_result more_follow lookup_result compact_result result_of run answers_of last_output shown write_answer read_answer adds_of note_actor note_own_add history_from rule_listing messages_of call_of events message_bytes_of traffic mathlib.Core.List.flat_map merged_entries merge_result bit_step bit_steps byte_step register crc_of unused rows_bytes image_rest image_under image_version_ok image_layout_of image_shape_ok crc_ok clock_in state_at free_of image_result load_result is_own_add pairs_from
computing = tt

pub starred_cases : StarredCases
unfolding computing
starred_cases = record {
  K1 = (key-cases.k1_written, key-cases.k1_decoded);
  M1 = message-cases.M1;
  A1 = refl;
  A2 = refl;
  A2-compacted = refl;
  R1 = refl;
  R1-twice = refl;
  R1-compacted = refl;
  C1 = refl;
  W1 = refl;
  W2 = refl;
  W3 = refl;
  W4 = refl;
  N1 = refl;
  O1 = λ a b c. key-cases.o1 (dot 1 a) (dot 1 b) (dot 1 c);
}

pub image-cases : ImageCases
unfolding computing
image-cases = record {
  written = refl;
  loads = refl;
  answered = refl;
  changed = refl;
}

pub line-cases : LineCases
unfolding computing
line-cases = record {
  label_32_33 = refl;
  context_64_65 = refl;
  version-first = refl;
  own-dot = refl;
  no_room = refl;
  no_output = refl;
  store-past = refl;
  output-past = refl;
  freed_bytes = refl;
  stretch = refl;
  stretch-empty = refl;
  slip_1 = refl;
  slip_2 = refl;
  page-room = refl;
  page-start = refl;
  page-empty = refl;
  page-output = refl;
  print_own = refl;
  print_taken = refl;
  older-listed = refl;
  older-found = refl;
  older-dropped = refl;
  merge-dropped = refl;
  merge_other_way = refl;
  merge-itself = refl;
  merge-output = refl;
  merge-empty = refl;
  merge-past = refl;
}

pub order-cases : OrderCases
unfolding computing
order-cases = record {
  own-add = refl;
  own_add_at_end = refl;
  own-remove = refl;
  take_in = refl;
  full-tombstone = refl;
  list = refl;
  page = refl;
  merge = refl;
  lookup = refl;
  read-message = refl;
  write_key = refl;
}

pub damage_cases : DamageCases
unfolding computing
damage_cases = record {
  actor = refl;
  name-length = refl;
  name-bytes = refl;
  window = refl;
  last-event = refl;
  tombstone-count = refl;
  tombstone-order = refl;
  tombstone-seen = refl;
  tombstone-rest = refl;
  store_length = refl;
  used = refl;
  end_to_end = refl;
  label-keys = refl;
  ascending = refl;
  of_this_set = refl;
  key-seen = refl;
}

pub premises_met : PremisesMet
unfolding computing
premises_met = record {
  set_up_1 = refl;
  set_up_2 = refl;
  traffic_1 = refl;
  traffic_2 = refl;
  labels_1 = refl;
  labels = refl;
  unforged = refl;
  made = refl;
  next_1 = refl;
  next_2 = refl;
  merge = refl;
}

pub two-labels : TwoLabels
unfolding computing
two-labels = record {
  accepted = refl;
  first-comes = refl;
  other-order = refl;
  one_removed = refl;
  both-removed = refl;
  merged = refl;
}
