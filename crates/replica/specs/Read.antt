-- Reads: what a terminal gets of a rack, its clock and what it lists; and the merge of two, "as the streaming join".
use Rattle.std.specs.Prelude.{Bool, not, ◌||◌, List, ◌++◌, ◌≡◌}
use Rattle.wire.specs.Lists.{keep, member, insert_all}
use Rattle.dots.specs.Entries.{Entry, compare_entries, Line, lines_of}
use Rattle.replica.specs.Clock.{ClockModel}
use Rattle.replica.specs.Machine.{State, Controller, live_keys}
use Rattle.replica.specs.Rule.{pairs, rule_listing, OneLabelPerDot}
use Rattle.replica.specs.Demand3.{Life, end_of, accepted}

module _ (C : ClockModel) where
  pub record Read : Type 0 where
    pub clock : C.Clock
    -- label and dot of each dot listed, ascending
    pub listed : List Entry

  -- a controller's clock and listing
  abbrev pub read_of : State C → Read
  read_of s = record { clock = s.clock; listed = live_keys C s }

  -- what one lists, beside the other: it is kept if the other lists it too, or has not seen its dot
  abbrev pub kept_beside : Read → Entry → Bool
  kept_beside other e = member compare_entries e other.listed || not (C.sees other.clock e.dot)

  -- "A label's dot is kept if both list it under that label, or if one lists it and the other's clock hasn't seen it."
  unfoldable pub merged_entries : Read → Read → List Entry
  merged_entries r t = insert_all compare_entries (keep (kept_beside t) r.listed) (keep (kept_beside r) t.listed)

  -- the merged listing
  abbrev pub merged_lines : Read → Read → List Line
  merged_lines r t = lines_of (merged_entries r t)

  -- "the merged listing is what demand 3's rule gives over all calls that either accepted"
  module _ (K : Controller C) where
    abbrev pub MergesByRule : Life C K → Life C K → Type 0
    MergesByRule c d = merged_lines (read_of (K.view (end_of C K c))) (read_of (K.view (end_of C K d))) ≡ rule_listing (accepted C K c ++ accepted C K d)

    abbrev pub TwoRacks : Type 0
    TwoRacks = (c d : Life C K) → OneLabelPerDot (pairs (accepted C K c ++ accepted C K d)) → MergesByRule c d
