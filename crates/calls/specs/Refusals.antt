-- The tests of document 01's table "When a controller says no", each in its words. Refusal 1 is in Damage, 2 to 6 of a message in `messages`.
use Rattle.std.specs.Prelude.{ℕ, ◌+◌, Bool, not, ◌&&◌, ◌||◌, List, ltb, eqb, length}
use Rattle.std.proofs.Math.Dec.{compare_is_eq}
use Rattle.wire.specs.Lists.{any, member}
use Rattle.wire.specs.Bytes.{Bytes, compare_bytes}
use Rattle.dots.specs.declared.Dot.{Dot}
use Rattle.dots.specs.Names.{Name, Label, name_ok, label_ok, label_prints}
use Rattle.dots.specs.Dots.{actor_ok, max_counter, compare_dots, context_ok, tombstone_most}
use Rattle.dots.specs.Wire.{whole_dots, dots_of}
use Rattle.dots.specs.Entries.{Entry}
use Rattle.clock.specs.Row.{window_width}
use Rattle.clock.specs.Clock.{near}
use Rattle.keys.specs.Entry.{entry_key}
use Rattle.replica.specs.Machine.{Call, effect, own_base, above_own_base}
use Rattle.calls.specs.declared.State.{State}
use Rattle.calls.specs.State.{clock_model, name_of, view}

-- 5: "set name, label, or an actor given to set-up ... breaks its rule"
abbrev pub bad_actor : ℕ → Bool
bad_actor actor = not (actor_ok actor)

abbrev pub bad_name : Name → Bool
bad_name name = not (name_ok name)

abbrev pub bad_label : Label → Bool
bad_label label = not (label_ok label)

-- of an own add's label (document 02, request 5): "refuse with 5 any label byte outside 20 to 7E hexadecimal"
abbrev pub bad_add_label : Label → Bool
bad_add_label label = not (label_prints label)

-- of a page's starting label: "an empty one means the front", "Any other starting label that breaks its rule is 5"
abbrev pub bad_start : Label → Bool
bad_start start = not (eqb (length start) 0 || label_ok start)

-- 6: "a context breaks its rule": whole dots, at most `context_most`, "strictly ascending", each dot within its rule
abbrev pub bad_context : Bytes → Bool
bad_context context = not (whole_dots context && context_ok (dots_of context))

-- 6: "or an add's context has its own dot"
abbrev pub has_dot : Dot → List Dot → Bool
has_dot d context = member compare_dots d context

-- 13: "the output buffer is shorter than what must be written"
abbrev pub output_short : Bytes → Bytes → Bool
output_short out bytes = ltb (length out) (length bytes)

module _ (st : State) (store : Bytes) where
  -- 7: "message is for another set"; of a merged read: "different sets"
  abbrev pub other_set : Name → Bool
  other_set name = not (compare_is_eq (compare_bytes name (name_of st)))

  -- 8: "an offered dot of this controller's own actor ... is above its own base"
  abbrev pub own_ahead : List Dot → Bool
  own_ahead offered = any (above_own_base clock_model (view st store)) offered

  -- 9: "the own base at the largest counter"
  abbrev pub counter_end : Bool
  counter_end = eqb (own_base clock_model (view st store)) max_counter

  -- 10: "among all seen and offered dots together, one lies more than 64 above its actor's unbroken run from 1"
  abbrev pub too_far : List Dot → Bool
  too_far offered = not (near window_width st.clock.words offered)

  -- 11: "the tombstone would pass 128 dots"
  abbrev pub tombstone_full : Call → Bool
  tombstone_full call = ltb tombstone_most (length (effect clock_model (view st store) call).tombstone)

  -- 12: "a key must be stored and used length + key length exceeds the store"
  abbrev pub store_full : List Entry → Bool
  store_full fresh = any (λ (e : Entry). ltb (length store) (st.used + length (entry_key (name_of st) e))) fresh
