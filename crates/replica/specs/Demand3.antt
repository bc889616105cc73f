-- Demand 3 over lists, for every controller that meets the seam: after any calls its listing, lookup, clock and compacted keys are those
-- of the rule, a compaction leaves its tombstone empty, and two controllers that accepted the same messages agree.
-- A refused call is a call of the life like any other.
use Rattle.std.specs.Prelude.{Bool, cond, List, [], ◌∷◌, ◌++◌, ◌↔◌, ◌⊎◌, ◌≡◌, T, eqb}
use Rattle.wire.specs.Lists.{◌∈◌, SameMembers}
use Rattle.dots.specs.declared.Actor.{Actor}
use Rattle.dots.specs.declared.Dot.{Dot}
use Rattle.dots.specs.Names.{Label}
use Rattle.dots.specs.Entries.{Entry, Line, line_labels}
use Rattle.dots.specs.Message.{Message}
use Rattle.replica.specs.Clock.{ClockModel}
use Rattle.replica.specs.Machine.{compact, set_up, seen, listing, found, Controller}
use Rattle.replica.specs.Rule.{Event, Account, history_of, pairs, removed, Paired, live_pairs, rule_listing, IsListing, OneLabelPerDot}

module _ (C : ClockModel) (K : Controller C) where
  -- "A call is accepted when it answers 0."
  abbrev pub accepts : K.Held → K.Input → Bool
  accepts x i = eqb (K.answer x i) 0

  unfoldable pub run : K.Held → List K.Input → K.Held
  run x [] = x
  run x (i ∷ is) = run (K.step x i) is

  -- all that the rule reads of a run: the calls, and which were accepted
  unfoldable pub events : K.Held → List K.Input → List Event
  events x [] = []
  events x (i ∷ is) = record { call = K.call_of i; accepted = accepts x i } ∷ events (K.step x i) is

  -- each message "taken in or written in an accepted call"
  unfoldable pub traffic : K.Held → List K.Input → List Message
  traffic x [] = []
  traffic x (i ∷ is) = cond (accepts x i) (K.message x i) [] ++ traffic (K.step x i) is

  -- an accepted compaction
  pub record Compacts (x : K.Held) (i : K.Input) : Type 0 where
    pub call-is : K.call_of i ≡ compact
    pub done : K.answer x i ≡ 0

  -- it lists just these lines, and a compaction leaves just these keys
  pub record ListsJust (ls : List Line) (es : List Entry) (x : K.Held) : Type 0 where
    pub listing-is : listing C (K.view x) ≡ ls
    -- lookup says yes exactly if the listing has the label
    pub lookup-is : (l : Label) → T (found C (K.view x) l) ↔ (l ∈ line_labels ls)
    -- "and a compaction accepted next leaves just the keys of the pairs not removed"
    pub compaction_is : (i : K.Input) → Compacts x i → (K.view (K.step x i)).keys ≡ es

  abbrev pub ListsTheRule : List Message → K.Held → Type 0
  ListsTheRule ms = ListsJust (rule_listing ms) (live_pairs ms)

  -- What is held is as the rule says, for the messages accepted on the way to it.
  pub record Follows (x : K.Held) (ms : List Message) : Type 0 where
    -- "The clock then sees just the dots in either set"
    pub clock-is : (d : Dot) → T (seen C (K.view x) d) ↔ (Paired ms d ⊎ (d ∈ removed ms))
    -- the rule's listing means what document 01 says
    pub rule_means : IsListing ms (rule_listing ms)
    -- "Compaction shall leave the tombstone empty", "Demand 3's last sentence then covers the tombstone too."
    pub compaction_empties : (i : K.Input) → Compacts x i → (K.view (K.step x i)).tombstone ≡ []
    -- the proviso that no two adds give one dot to different labels is needed for this alone; over a network it holds (`Network`)
    pub lists : OneLabelPerDot (pairs ms) → ListsTheRule ms x

  -- they list the same, and after a compaction on each have the same keys
  pub record ListAlike (x y : K.Held) : Type 0 where
    pub same-listing : listing C (K.view x) ≡ listing C (K.view y)
    pub same_keys : (i j : K.Input) → Compacts x i → Compacts y j → (K.view (K.step x i)).keys ≡ (K.view (K.step y j)).keys

  -- Two controllers, ms being the messages of both: they list the same and, after "one accepted compaction on each as its next call",
  -- have equal clocks, tombstones and keys: all that a state has but the actor.
  pub record Agree (ms : List Message) (x y : K.Held) : Type 0 where
    pub same-clock : (i j : K.Input) → Compacts x i → Compacts y j → (K.view (K.step x i)).clock ≡ (K.view (K.step y j)).clock
    pub same-tombstone : (i j : K.Input) → Compacts x i → Compacts y j → (K.view (K.step x i)).tombstone ≡ (K.view (K.step y j)).tombstone
    pub lists : OneLabelPerDot (pairs ms) → ListAlike x y

  -- A controller's life: its set-up, and any calls after it. A hand-off is a call of it: the box that loads the image goes on where the writer stood.
  pub record Life : Type 0 where
    -- at set-up
    pub actor : Actor
    pub start : K.Held
    pub fresh : K.view start ≡ set_up C actor
    pub calls : List K.Input

  abbrev pub end_of : Life → K.Held
  end_of c = run c.start c.calls

  abbrev pub account_of : Life → Account
  account_of c = record { actor = c.actor; events = events c.start c.calls }

  -- the messages that the rule reads off the calls
  abbrev pub accepted : Life → List Message
  accepted c = (history_of (account_of c)).messages

  abbrev pub traffic_of : Life → List Message
  traffic_of c = traffic c.start c.calls

  -- one controller
  abbrev pub FollowsTheRule : Type 0
  FollowsTheRule = (c : Life) → Follows (end_of c) (accepted c)

  -- two controllers that "accepted the same messages"
  abbrev pub ReplicasAgree : Type 0
  ReplicasAgree = (c d : Life) → SameMembers (traffic_of c) (traffic_of d) → Agree (accepted c ++ accepted d) (end_of c) (end_of d)
