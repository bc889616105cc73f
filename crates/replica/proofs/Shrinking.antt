-- Dropping keys leaves the listing as it is; a compaction is such a drop. Assumes nothing.
use mathlib.Core.Path.{◌≡◌, ap}
use mathlib.Core.Logic.{◌⊎◌, inl, inr, ⊎_elim}
use mathlib.Core.List.Memᴰ
use mathlib.Core.List.{List}
use lib.Dec.{T, not_T}
use Rattle.wire.specs.Lists.{◌∈◌, keep, Ascending}
use Rattle.wire.proofs.Tests.{decide}
use Rattle.wire.proofs.Lists.{keep-member, member-keep, member-sound, not_member, ascending-keep, ascending_unique}
use Rattle.dots.specs.declared.Dot.{Dot}
use Rattle.dots.specs.Dots.{compare_dots}
use Rattle.dots.specs.Entries.{Entry, compare_entries, lines_of}
use Rattle.dots.proofs.Orders.{dots, entries}
use Rattle.replica.specs.Clock.{ClockModel}
use Rattle.replica.specs.Machine.{State, tombstoned, live, live_keys, compacted, listing}
use Rattle.replica.specs.Shrinking.{shrunk, Shrinks, ShrinkingLists}

module _ (C : ClockModel) (s : State C) (up : Ascending compare_entries s.keys) (keys : List Entry) (tombstone : List Dot) (less : Shrinks C s keys tombstone) where
  abbrev after : State C
  after = shrunk C s keys tombstone

  was_live : (e : Entry) → e ∈ live_keys C after → e ∈ live_keys C s
  was_live e k =
      let w = keep-member (live C after) keys k in
      member-keep (live C s) s.keys (less.key-old e w.0)
      (not_T (tombstoned C s e.dot) (λ t. not_member compare_dots dots tombstone w.1 (less.kept-tombstoned e w.0 (member-sound compare_dots dots s.tombstone t))))

  stays-live : (e : Entry) → e ∈ live_keys C s → e ∈ live_keys C after
  stays-live e k =
      let w = keep-member (live C s) s.keys k in
      let not_there : e.dot ∈ s.tombstone → ⊥ = not_member compare_dots dots s.tombstone w.1 in
      member-keep (live C after) keys (⊎_elim (λ m. m) (λ b. absurd (not_there b)) (less.dropped-tombstoned e w.0))
      (not_T (tombstoned C after e.dot) (λ t. not_there (less.dot-old e.dot (member-sound compare_dots dots tombstone t))))

  shrinking_keys : live_keys C after ≡ live_keys C s
  shrinking_keys =
      ascending_unique compare_entries entries (live_keys C after) (live_keys C s)
      (ascending-keep compare_entries entries (live C after) keys (less.keys-ascend up)) (ascending-keep compare_entries entries (live C s) s.keys up) was_live stays-live

module _ (C : ClockModel) (s : State C) where
  -- a compaction drops every key that is dead, and every dot of the tombstone
  pub compaction_shrinks : Shrinks C s (compacted C s).keys (compacted C s).tombstone
  unfolding compacted
  compaction_shrinks = record {
    key-old = λ e k. (keep-member (live C s) s.keys k).0;
    dot-old = λ d k. absurd (Memᴰ.not-nil k);
    dropped-tombstoned = λ e k. by-tombstone e k (decide (tombstoned C s e.dot));
    -- no live key is in the tombstone
    kept-tombstoned = λ e k b. absurd (not_member compare_dots dots s.tombstone (keep-member (live C s) s.keys k).1 b);
    keys-ascend = ascending-keep compare_entries entries (live C s) s.keys;
    tombstone-ascends = λ up. tt;
  }
    where
      by-tombstone : (e : Entry) → e ∈ s.keys → T (tombstoned C s e.dot) ⊎ T (live C s e) → (e ∈ keep (live C s) s.keys) ⊎ (e.dot ∈ s.tombstone)
      by-tombstone e k (inl t) = inr (member-sound compare_dots dots s.tombstone t)
      by-tombstone e k (inr t) = inl (member-keep (live C s) s.keys k t)

pub shrinking_lists : (C : ClockModel) → ShrinkingLists C
unfolding listing
shrinking_lists C s up keys tombstone less = let same = shrinking_keys C s up keys tombstone less in (same, ap lines_of same)

pub compaction_lists : (C : ClockModel) (s : State C) → Ascending compare_entries s.keys → listing C (compacted C s) ≡ listing C s
unfolding compacted
compaction_lists C s up = (shrinking_lists C s up (compacted C s).keys (compacted C s).tombstone (compaction_shrinks C s)).1
