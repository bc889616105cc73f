-- Slips, compactions and hand-offs as runs of the machine, and merges of two, by computing. Assumes nothing.
use mathlib.Core.Path.{refl}
use Rattle.wire.specs.Lists.{keep, any, all, compare_lists, member, insert, insert_all}
use Rattle.dots.specs.Dots.{dot_ok}
use Rattle.dots.specs.Entries.{prepend, lines_of}
use Rattle.clock.specs.Row.{test_bit, seen, trailing_ones, settled, marked, join}
use Rattle.clock.specs.Offered.{total, known, climb, unbroken, window_events, too_far}
use Rattle.clock.specs.Clock.{row_at, unused, with_row, sees, all_to, join_dot, join_each, join_all, counters_of, near}
use Rattle.replica.specs.Machine.{messages_of, apply, compacted, handed_off, listing, effect, allowed}
use Rattle.replica.specs.Rule.{adds_of, note_actor, note_own_add, history_from}
use Rattle.replica.specs.Read.{merged_entries}
use Rattle.replica.specs.Cases.{run, events, SlipCases, CompactionCases, HandOffCases, MergeCases}

-- all that the cases compute with: whoever unfolds this unfolds each of these
unfoldable pub computing : Unit {0}
unfolding keep any all compare_lists member insert insert_all dot_ok prepend lines_of test_bit seen trailing_ones settled marked join total known climb unbroken window_events too_far row_at unused with_row sees all_to join_dot join_each join_all counters_of near messages_of apply compacted handed_off listing effect allowed adds_of note_actor note_own_add history_from run events merged_entries
computing = tt

pub slip_cases : SlipCases
unfolding computing
slip_cases = record {
  slip_1 = refl;
  slip_2 = refl;
  slip_3 = refl;
  slip_5 = refl;
}

pub compaction_cases : CompactionCases
unfolding computing
compaction_cases = record {
  twice = refl;
  twice-compacted = refl;
  add-after = refl;
  live-stays = refl;
}

pub hand_off_cases : HandOffCases
unfolding computing
hand_off_cases = record { answered = refl; goes_on = refl; counted = refl }

pub merge-cases : MergeCases
unfolding computing
merge-cases = record {
  removed = refl;
  compacted = refl;
  other_way = refl;
  itself = refl;
}
