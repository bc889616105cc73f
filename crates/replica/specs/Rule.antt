-- "The rule reads the calls' arguments and which calls were accepted, nothing from clock, tombstone or store."
use Rattle.std.specs.Prelude.{Bool, not, cond, ◌≡◌, ℕ, ◌+◌}
use mathlib.Core.List.{List, [], ◌∷◌, ◌++◌, flat_map}
use Rattle.std.proofs.Math.Dec.{compare_is_eq}
use Rattle.wire.specs.Lists.{◌∈◌, keep, member, sort, Ascending}
use Rattle.wire.specs.Bytes.{compare_bytes}
use Rattle.dots.specs.declared.Actor.{Actor}
use Rattle.dots.specs.declared.Dot.{Dot}
use Rattle.dots.specs.Names.{Label}
use Rattle.dots.specs.Dots.{dot_of, compare_actors, compare_dots}
use Rattle.dots.specs.Entries.{Entry, entry, compare_entries, Line, lines_of, line_labels, entries_of}
use Rattle.dots.specs.Message.{Message, context_of, pairs_of}
use Rattle.replica.specs.Machine.{Call, messages_of, own_add, own_remove, take_in, reads, compact, hand_off}

-- all that the rule reads of a call
pub record Event : Type 0 where
  pub call : Call
  pub accepted : Bool

-- "the loaded box's history as the writer's up to the image, each call answered as it was then, and after that its own"
pub record History : Type 0 where
  -- the actor now
  pub actor : Actor
  -- the actor of each accepted own add, the last first
  pub own_adds : List Actor
  -- messages taken in or written in accepted calls, the last first
  pub messages : List Message

abbrev pub no_history : Actor → History
no_history a = record { actor = a; own_adds = []; messages = [] }

-- how many own adds are an actor's
unfoldable pub adds_of : Actor → List Actor → ℕ
adds_of a [] = 0
adds_of a (b ∷ bs) = adds_of a bs + cond (compare_is_eq (compare_actors a b)) 1 0

-- An own add's dot: "the controller's actor with the number of own adds that this controller has accepted under that actor so far, this one included".
abbrev pub next_own : History → Dot
next_own h = dot_of h.actor (adds_of h.actor h.own_adds + 1)

unfoldable pub note_actor : Actor → Call → Actor
note_actor a (own_add l context) = a
note_actor a (own_remove context) = a
note_actor a (take_in m) = a
note_actor a reads = a
note_actor a compact = a
note_actor a (hand_off b) = b

unfoldable pub note_own_add : History → Call → List Actor
note_own_add h (own_add l context) = h.actor ∷ h.own_adds
note_own_add h (own_remove context) = h.own_adds
note_own_add h (take_in m) = h.own_adds
note_own_add h reads = h.own_adds
note_own_add h compact = h.own_adds
note_own_add h (hand_off b) = h.own_adds

-- one accepted call more
abbrev pub noted : History → Call → History
noted h c = record { actor = note_actor h.actor c; own_adds = note_own_add h c; messages = messages_of (next_own h) c ++ h.messages }

-- "A refused call, a listing, a lookup or a compaction changes neither."
abbrev pub after : History → Event → History
after h e = cond e.accepted (noted h e.call) h

unfoldable pub history_from : History → List Event → History
history_from h [] = h
history_from h (e ∷ es) = history_from (after h e) es

-- all that the rule reads of a life
pub record Account : Type 0 where
  -- at set-up
  pub actor : Actor
  pub events : List Event

abbrev pub history_of : Account → History
history_of c = history_from (no_history c.actor) c.events

-- The two sets: "pairs of label and dot, and removed dots". "An accepted add puts its pair in the first and its context's dots in the second;
-- an accepted remove only puts its context's dots in the second."
abbrev pub pairs : List Message → List Entry
pairs = flat_map pairs_of

abbrev pub removed : List Message → List Dot
removed = flat_map context_of

-- a dot is in the first set, under some label
abbrev pub Paired : List Message → Dot → Type 0
Paired ms d = (l : Label) × (entry l d ∈ pairs ms)

abbrev pub kept : List Message → Entry → Bool
kept ms e = not (member compare_dots e.dot (removed ms))

-- the pairs not removed, ascending
abbrev pub live_pairs : List Message → List Entry
live_pairs ms = sort compare_entries (keep (kept ms) (pairs ms))

-- the listing that the rule gives
unfoldable pub rule_listing : List Message → List Line
rule_listing ms = lines_of (live_pairs ms)

-- "every label with a pair whose dot is not in the second set, with just those dots, in the order ... given under Listing"
pub record IsListing (ms : List Message) (ls : List Line) : Type 0 where
  pub just_live : entries_of ls ≡ live_pairs ms
  pub labels-ascend : Ascending compare_bytes (line_labels ls)
  pub some-dot : (l : Line) → l ∈ ls → (d : Dot) × (d ∈ l.dots)

-- the proviso: no two adds give one dot to different labels
abbrev pub OneLabelPerDot : List Entry → Type 0
OneLabelPerDot es = (d : Dot) (l l' : Label) → entry l d ∈ es → entry l' d ∈ es → l ≡ l'
