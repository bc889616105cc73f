-- Dropping keys: what a call that only drops leaves of keys and tombstone. Whatever it drops, the listing stays.
use Rattle.std.specs.Prelude.{◌⊎◌, List, ◌≡◌}
use Rattle.wire.specs.Lists.{◌∈◌, Ascending}
use Rattle.dots.specs.declared.Dot.{Dot}
use Rattle.dots.specs.Dots.{compare_dots}
use Rattle.dots.specs.Entries.{Entry, compare_entries}
use Rattle.replica.specs.Clock.{ClockModel}
use Rattle.replica.specs.Machine.{State, live_keys, listing}

module _ (C : ClockModel) (s : State C) where
  -- the keys kept, and the dots that stay in the tombstone
  abbrev pub shrunk : List Entry → List Dot → State C
  shrunk keys tombstone = record { actor = s.actor; clock = s.clock; tombstone = tombstone; keys = keys }

  -- only keys whose dots are in the tombstone go, no kept key's dot leaves it, and what ascends goes on to
  pub record Shrinks (keys : List Entry) (tombstone : List Dot) : Type 0 where
    pub key-old : (e : Entry) → e ∈ keys → e ∈ s.keys
    pub dot-old : (d : Dot) → d ∈ tombstone → d ∈ s.tombstone
    pub dropped-tombstoned : (e : Entry) → e ∈ s.keys → (e ∈ keys) ⊎ (e.dot ∈ s.tombstone)
    pub kept-tombstoned : (e : Entry) → e ∈ keys → e.dot ∈ s.tombstone → e.dot ∈ tombstone
    pub keys-ascend : Ascending compare_entries s.keys → Ascending compare_entries keys
    pub tombstone-ascends : Ascending compare_dots s.tombstone → Ascending compare_dots tombstone

-- of any state whose keys ascend, whatever labels share a dot: the same live keys, so the same listing
abbrev pub ShrinkingLists : ClockModel → Type 0
ShrinkingLists C = (s : State C) → Ascending compare_entries s.keys → (keys : List Entry) (tombstone : List Dot) → Shrinks C s keys tombstone
    → (live_keys C (shrunk C s keys tombstone) ≡ live_keys C s) × (listing C (shrunk C s keys tombstone) ≡ listing C s)
