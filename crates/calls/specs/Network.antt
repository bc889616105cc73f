-- Controllers that exchange messages in bytes: where nobody forges an add and no actor is given out twice, what demand 3 says of listings, stores and
-- merged reads holds without its proviso. A workshop is one set: controllers of another set take no part in it.
use mathlib.Core.List.{List, ◌++◌, flat_map}
use Rattle.wire.specs.Lists.{◌∈◌, SameMembers}
use Rattle.wire.specs.Bytes.{Bytes}
use Rattle.dots.specs.Dots.{actor_of}
use Rattle.dots.specs.Message.{Message}
use Rattle.replica.specs.Rule.{Account}
use Rattle.replica.specs.Network.{Network, Workshop}
use Rattle.calls.specs.Sequence.{started, events}
use Rattle.calls.specs.Demand3.{ListsTheRule, ListAlike, Agree, Merges, Controlled, messages_of, traffic_of, end_of}

-- all that the rule reads of a controller
abbrev pub account_of : Controlled → Account
account_of c = record { actor = actor_of c.actor; events = events (started c.actor c.name) c.calls }

-- controllers whose messages have all reached each of them
abbrev pub AllReached : List Controlled → Type 0
AllReached cs = (c d : Controlled) → c ∈ cs → d ∈ cs → (s : Bytes) → s ∈ traffic_of c → s ∈ traffic_of d

-- two of them, ms being all messages
pub record Settled (ms : List Message) (c d : Controlled) : Type 0 where
  -- each lists what the rule gives over all messages
  pub lists : ListsTheRule c.name ms (end_of c)
  -- so both list the same; after a compaction on each both have the same used length and used bytes
  pub alike : ListAlike (end_of c) (end_of d)
  -- and the same clock and tombstone
  pub agree : Agree (messages_of c ++ messages_of d) (end_of c) (end_of d)

abbrev pub ControllerOf : List Account → Controlled → Type 0
ControllerOf ns c = account_of c ∈ ns

-- controllers of a network, now or at any moments
pub record NetworkHolds (ns : List Account) : Type 0 where
  pub lists : (c : Controlled) → ControllerOf ns c → ListsTheRule c.name (messages_of c) (end_of c)
  -- two that accepted the same messages
  pub agree : (c d : Controlled) → ControllerOf ns c → ControllerOf ns d → SameMembers (traffic_of c) (traffic_of d) → ListAlike (end_of c) (end_of d)
  -- a merged read of two is the rule's listing over both
  pub merge : (c d : Controlled) → ControllerOf ns c → ControllerOf ns d → Merges (messages_of c ++ messages_of d) (end_of c) (end_of d)
  -- once every message has reached every one of some
  pub settled : (cs : List Controlled) → ((c : Controlled) → c ∈ cs → ControllerOf ns c) → AllReached cs
      → (c d : Controlled) → c ∈ cs → d ∈ cs → Settled (flat_map messages_of cs) c d

abbrev pub NetworksHold : Type 0
NetworksHold = (ns : List Account) → Network ns → NetworkHolds ns

abbrev pub WorkshopsHold : Type 0
WorkshopsHold = (ns : List Account) → Workshop ns → NetworkHolds ns
