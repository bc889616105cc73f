-- The controller as a machine on lists: "What each call does", with algorithms 1 and 2 of the paper, over any clock. No bytes, no buffers.
use Rattle.std.specs.Prelude.{◌≡◌, Bool, true, not, cond, ◌&&◌, List, [], ◌∷◌, ◌++◌, map, ℕ, ◌+◌, T, leb}
use Rattle.std.proofs.Math.Dec.{compare_is_eq}
use Rattle.wire.specs.Lists.{keep, any, member, insert_all}
use Rattle.wire.specs.Bytes.{compare_bytes}
use Rattle.dots.specs.declared.Actor.{Actor}
use Rattle.dots.specs.declared.Dot.{Dot}
use Rattle.dots.specs.Names.{Label}
use Rattle.dots.specs.Dots.{Context, dot_of, compare_actors, compare_dots}
use Rattle.dots.specs.Entries.{Entry, entry, entry_dot, compare_entries, Line, lines_of}
use Rattle.dots.specs.Message.{Message, add, remove}
use Rattle.replica.specs.Clock.{ClockModel}

pub data Call : Type 0 where
  own_add : Label → Context → Call
  own_remove : Context → Call
  take_in : Message → Call
  -- a listing or a lookup
  reads : Call
  compact : Call
  -- a box of another actor takes over by an image
  hand_off : Actor → Call

-- the message that a call takes in or writes, given the dot that an own add takes
unfoldable pub messages_of : Dot → Call → List Message
messages_of d (own_add l context) = add l d context ∷ []
messages_of d (own_remove context) = remove context ∷ []
messages_of d (take_in m) = m ∷ []
messages_of d reads = []
messages_of d compact = []
messages_of d (hand_off b) = []

module _ (C : ClockModel) where
  pub record State : Type 0 where
    pub actor : Actor
    pub clock : C.Clock
    pub tombstone : List Dot
    pub keys : List Entry

  abbrev pub set_up : Actor → State
  set_up a = record { actor = a; clock = C.zero_clock; tombstone = []; keys = [] }

  module _ (s : State) where
    abbrev pub seen : Dot → Bool
    seen d = C.sees s.clock d

    abbrev pub unseen : Dot → Bool
    unseen d = not (seen d)

    abbrev pub tombstoned : Dot → Bool
    tombstoned d = member compare_dots d s.tombstone

    abbrev pub own_base : ℕ
    own_base = C.base s.clock s.actor

    -- "take own base + 1 as the dot"
    abbrev pub next_dot : Dot
    next_dot = dot_of s.actor (own_base + 1)

    -- "for an add whose dot was not seen when the call began ... store the key"
    abbrev pub if_unseen : Label → Dot → List Entry
    if_unseen l d = cond (seen d) [] (entry l d ∷ [])

    -- the dots that join the clock
    abbrev pub joining : List Entry → Context → List Dot
    joining fresh context = map entry_dot fresh ++ keep unseen context

    -- New entries stored, and a context applied: "each dot not seen when the call began joins the clock; each dot seen joins the tombstone (once)".
    unfoldable pub apply : List Entry → Context → State
    apply fresh context = record {
      actor = s.actor;
      clock = C.join_all s.clock (joining fresh context);
      tombstone = insert_all compare_dots (keep seen context) s.tombstone;
      keys = insert_all compare_entries fresh s.keys;
    }

    -- a key is dead if its dot is in the tombstone
    abbrev pub live : Entry → Bool
    live e = not (tombstoned e.dot)

    abbrev pub live_keys : List Entry
    live_keys = keep live s.keys

    -- "drops every key whose dot is in the tombstone" and "shall leave the tombstone empty: the clock already keeps such adds out"
    unfoldable pub compacted : State
    compacted = record { actor = s.actor; clock = s.clock; tombstone = []; keys = live_keys }

    -- the same state under another actor
    unfoldable pub handed_off : Actor → State
    handed_off b = record { actor = b; clock = s.clock; tombstone = s.tombstone; keys = s.keys }

    -- "each label with at least one stored key whose dot is not in the tombstone, ascending"
    unfoldable pub listing : List Line
    listing = lines_of live_keys

    -- lookup's yes: "exactly if the listing has the label"
    unfoldable pub found : Label → Bool
    found l = any (λ (e : Entry). compare_is_eq (compare_bytes l e.label)) live_keys

    unfoldable pub effect : Call → State
    effect (own_add l context) = apply (entry l next_dot ∷ []) context
    effect (own_remove context) = apply [] context
    effect (take_in (add l d context)) = apply (if_unseen l d) context
    effect (take_in (remove context)) = apply [] context
    effect reads = s
    effect compact = compacted
    effect (hand_off b) = handed_off b

    -- the message that an accepted call takes in or writes
    abbrev pub exchanged : Call → List Message
    exchanged = messages_of next_dot

    -- refusal 8: an offered dot "of this controller's own actor ... is above its own base"
    abbrev pub above_own_base : Dot → Bool
    above_own_base d = compare_is_eq (compare_actors d.actor s.actor) && not (leb d.counter.number own_base)

    -- the dots that join the clock fit it (6, 10), and no dot offered is an own one above the own base (8)
    abbrev pub may_apply : List Entry → List Dot → Context → Bool
    may_apply fresh offered context = C.fits s.clock (joining fresh context) && not (any above_own_base (offered ++ context))

    -- the same, and the context of the add of d does not hold d (6)
    abbrev pub may_add : List Entry → Dot → List Dot → Context → Bool
    may_add fresh d offered context = may_apply fresh offered context && not (member compare_dots d context)

    -- what the refusals that demand 3 rests on let through
    unfoldable pub allowed : Call → Bool
    allowed (own_add l context) = may_add (entry l next_dot ∷ []) next_dot [] context
    allowed (own_remove context) = may_apply [] [] context
    allowed (take_in (add l d context)) = may_add (if_unseen l d) d (d ∷ []) context
    allowed (take_in (remove context)) = may_apply [] [] context
    allowed reads = true
    allowed compact = true
    allowed (hand_off b) = C.unused s.clock b

-- The seam for the byte level: what a controller on bytes must show to be this machine.
-- In short: each accepted call has the effect and exchanges the message,
-- each other changes nothing, and none is accepted that the refusals above rule out.
pub record Controller (C : ClockModel) : Type 1 where
  -- what passes from call to call: the state and the used store bytes
  pub Held : Type 0
  -- a call with its arguments and its lent buffers
  pub Input : Type 0
  -- 0 is done, any other number refuses
  pub answer : Held → Input → ℕ
  pub step : Held → Input → Held
  -- the message taken in or written, if any
  pub message : Held → Input → List Message
  -- what they stand for; of an input that is never accepted, any call
  pub view : Held → State C
  pub call_of : Input → Call
  pub does : (x : Held) (i : Input) → answer x i ≡ 0 → view (step x i) ≡ effect C (view x) (call_of i)
  pub exchanges : (x : Held) (i : Input) → answer x i ≡ 0 → message x i ≡ exchanged C (view x) (call_of i)
  pub refuses : (x : Held) (i : Input) → (answer x i ≡ 0 → ⊥) → view (step x i) ≡ view x
  pub guarded : (x : Held) (i : Input) → answer x i ≡ 0 → T (allowed C (view x) (call_of i))
