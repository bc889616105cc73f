-- Networks: lives that exchange messages. Where nobody forges an add and no actor is given out twice, no two adds give one dot to different labels:
-- demand 3's proviso follows, and what is said of listings, stores and merged reads holds without it.
use Rattle.std.specs.Prelude.{Bool, true, false, not, cond, ◌&&◌, ◌⊎◌, ◌≡◌}
use mathlib.Core.List.{List, [], ◌∷◌, ◌++◌, flat_map}
use Rattle.std.proofs.Math.Option.{Option, none, some}
use Rattle.std.proofs.Math.Dec.{compare_is_eq}
use Rattle.wire.specs.Lists.{◌∈◌, SameMembers}
use Rattle.dots.specs.declared.Actor.{Actor}
use Rattle.dots.specs.Dots.{compare_actors}
use Rattle.dots.specs.Entries.{Entry, line_labels}
use Rattle.dots.specs.Message.{Message}
use Rattle.replica.specs.Clock.{ClockModel}
use Rattle.replica.specs.Machine.{Call, messages_of, own_add, own_remove, take_in, reads, compact, hand_off, listing, Controller}
use Rattle.replica.specs.Rule.{Event, History, no_history, next_own, after, Account, history_of, pairs, OneLabelPerDot}
use Rattle.replica.specs.Demand3.{ListsTheRule, ListAlike, Agree, Life, end_of, account_of, accepted, traffic_of}
use Rattle.replica.specs.Read.{MergesByRule}

-- ---- own adds, and adds from elsewhere

unfoldable pub is_own_add : Call → Bool
is_own_add (own_add l context) = true
is_own_add (own_remove context) = false
is_own_add (take_in m) = false
is_own_add reads = false
is_own_add compact = false
is_own_add (hand_off b) = false

-- label and dot of each add of accepted calls of one kind
unfoldable pub pairs_from : (Call → Bool) → History → List Event → List Entry
pairs_from kind h [] = []
pairs_from kind h (e ∷ es) = cond (e.accepted && kind e.call) (pairs (messages_of (next_own h) e.call)) [] ++ pairs_from kind (after h e) es

-- of own adds, those of its writers before a hand-off included
abbrev pub own_pairs : Account → List Entry
own_pairs c = pairs_from is_own_add (no_history c.actor) c.events

-- of adds from elsewhere
abbrev pub taken_pairs : Account → List Entry
taken_pairs c = pairs_from (λ x. not (is_own_add x)) (no_history c.actor) c.events

-- of the own adds of all
abbrev pub made_in : List Account → List Entry
made_in cs = flat_map own_pairs cs

-- ---- networks: the premise in its weakest form

-- nobody forges: label and dot of an add accepted from elsewhere are those of an own add of one of them. Of contexts and removes nothing is asked.
abbrev pub Unforged : List Account → Type 0
Unforged cs = (c : Account) → c ∈ cs → (e : Entry) → e ∈ taken_pairs c → e ∈ made_in cs

pub record Network (cs : List Account) : Type 0 where
  pub unforged : Unforged cs
  -- no two own adds give one dot to different labels
  pub made-once : OneLabelPerDot (made_in cs)

-- all messages that any of them accepted
abbrev pub accepted_by : List Account → List Message
accepted_by cs = flat_map (λ (c : Account). (history_of c).messages) cs

-- demand 3's proviso over a network
abbrev pub NetworkLabels : Type 0
NetworkLabels = (cs : List Account) → Network cs → OneLabelPerDot (pairs (accepted_by cs))

-- less than `made-once` would not do
abbrev pub LabelsNeed : Type 0
LabelsNeed = (cs : List Account) → OneLabelPerDot (pairs (accepted_by cs)) → OneLabelPerDot (made_in cs)

-- ---- the premise of lives as they are: no actor is given out twice

abbrev pub NoActorInBoth : List Entry → List Entry → Type 0
NoActorInBoth es fs = (e f : Entry) → e ∈ es → f ∈ fs → e.dot.actor ≡ f.dot.actor → ⊥

-- After a common beginning no actor makes own adds in both. So it is of a writer that goes on after its image and the box that loaded it, of two boxes
-- that loaded one image under two actors, of one box now and earlier, and, with nothing in common, of boxes set up under two actors.
pub record Forked (c d : Account) : Type 0 where
  pub shared : List Entry
  pub rest : List Entry
  pub rest' : List Entry
  pub one_is : own_pairs c ≡ shared ++ rest
  pub other-is : own_pairs d ≡ shared ++ rest'
  pub actors-differ : NoActorInBoth rest rest'

-- the own adds under one actor belong to one life, or to lives that share them as their common beginning
abbrev pub ActorsOnce : List Account → Type 0
ActorsOnce cs = (c d : Account) → c ∈ cs → d ∈ cs → Forked c d

-- that is enough
abbrev pub ForksSuffice : Type 0
ForksSuffice = (cs : List Account) → Unforged cs → ActorsOnce cs → Network cs

-- ---- the premise as steps that a workshop can see to

-- with one call more
abbrev pub next : Account → Event → Account
next c e = record { actor = c.actor; events = c.events ++ (e ∷ []) }

-- the actor under which own adds are made now
abbrev pub actor_now : Account → Actor
actor_now c = (history_of c).actor

-- the box to which an actor was given, as it is now: the first of the lives, of which the last comes first, that is under it
abbrev pub box_of : List Account → Actor → Option Account
box_of [] a = none
box_of (c ∷ cs) a = cond (compare_is_eq (compare_actors a (actor_now c))) (some c) (box_of cs a)

-- all lives that there were, each box at each moment, the last first
pub data Workshop : List Account → Type 0 where
  opened : Workshop []
  -- a box is set up under an actor that was not given out
  sets_up : {cs : List Account} → Workshop cs → (a : Actor) → box_of cs a ≡ none → Workshop (record { actor = a; events = [] } ∷ cs)
  -- A box makes any call, accepted or refused: the life so far is the box of its actor. Or a box loads the image of another, as that is or once was:
  -- its actor was not given out. Of adds from elsewhere it has accepted only those whose label and dot were written before.
  goes_on : {cs : List Account} → Workshop cs → (c : Account) → c ∈ cs → (e : Event)
      → (box_of cs (actor_now (next c e)) ≡ some c) ⊎ (box_of cs (actor_now (next c e)) ≡ none)
      → ((p : Entry) → p ∈ taken_pairs (next c e) → p ∈ made_in cs)
      → Workshop (next c e ∷ cs)

-- that is enough too
abbrev pub WorkshopsAre : Type 0
WorkshopsAre = (cs : List Account) → Workshop cs → Network cs

-- ---- what then holds of controllers

module _ (C : ClockModel) (K : Controller C) where
  -- lives whose messages have all reached each of them
  abbrev pub AllReached : List (Life C K) → Type 0
  AllReached cs = (c d : Life C K) → c ∈ cs → d ∈ cs → (m : Message) → m ∈ traffic_of C K c → m ∈ traffic_of C K d

  -- two of them, ms being all messages: each lists what the rule gives over these, and after a compaction on each both hold the same
  pub record Settled (ms : List Message) (c d : Life C K) : Type 0 where
    pub lists : ListsTheRule C K ms (end_of C K c)
    pub alike : ListAlike C K (end_of C K c) (end_of C K d)
    pub agree : Agree C K (accepted C K c ++ accepted C K d) (end_of C K c) (end_of C K d)

  abbrev pub LifeOf : List Account → Life C K → Type 0
  LifeOf ns c = account_of C K c ∈ ns

  -- lives of a network, now or at any moments
  pub record NetworkHolds (ns : List Account) : Type 0 where
    pub lists : (c : Life C K) → LifeOf ns c → ListsTheRule C K (accepted C K c) (end_of C K c)
    -- two that accepted the same messages
    pub agree : (c d : Life C K) → LifeOf ns c → LifeOf ns d → SameMembers (traffic_of C K c) (traffic_of C K d) → ListAlike C K (end_of C K c) (end_of C K d)
    -- a merged read of two is the rule's listing over both
    pub merge : (c d : Life C K) → LifeOf ns c → LifeOf ns d → MergesByRule C K c d
    -- once every message has reached every one of some
    pub settled : (cs : List (Life C K)) → ((c : Life C K) → c ∈ cs → LifeOf ns c) → AllReached cs
        → (c d : Life C K) → c ∈ cs → d ∈ cs → Settled (flat_map (accepted C K) cs) c d

  abbrev pub NetworksHold : Type 0
  NetworksHold = (ns : List Account) → Network ns → NetworkHolds ns

  abbrev pub WorkshopsHold : Type 0
  WorkshopsHold = (ns : List Account) → Workshop ns → NetworkHolds ns

  -- what no network has: two that accepted the same messages, and list different labels
  pub record Disagree (c d : Life C K) : Type 0 where
    pub same-messages : SameMembers (traffic_of C K c) (traffic_of C K d)
    pub other-labels : line_labels (listing C (K.view (end_of C K c))) ≡ line_labels (listing C (K.view (end_of C K d))) → ⊥

  abbrev pub NoDisagreement : Type 0
  NoDisagreement = (ns : List Account) → Network ns → (c d : Life C K) → LifeOf ns c → LifeOf ns d → Disagree c d → ⊥
