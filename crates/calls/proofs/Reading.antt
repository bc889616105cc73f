-- What is written back into a state and store is read again. Assumes nothing.
use Prim.Native.Nat.{◌*◌, ◌-◌, ◌≤◌}
use mathlib.Core.Path.{◌≡◌, ap, ◌∙◌}
use mathlib.Core.Bool.{true}
use mathlib.Core.List.{List, ◌++◌, append_assoc}
use native.Mathlib.Omega.{arith}
use lib.ListN.{length, take, replicate, length-append, length-replicate}
use lib.Seq.{take-append_seam, take_at, take_all}
use Rattle.wire.specs.Lists.{all}
use Rattle.wire.specs.Bytes.{Bytes}
use Rattle.dots.specs.declared.Dot.{Dot}
use Rattle.dots.specs.Dots.{dot_ok, tombstone_most}
use Rattle.dots.specs.Wire.{dots_bytes, dots_of, dot_size, tombstone_size}
use Rattle.dots.proofs.RoundTrip.{length-dots, dots-written}
use Rattle.clock.specs.Clock.{clock_words}
use Rattle.keys.specs.Entry.{entry_ok}
use Rattle.store.proofs.RoundTrip.{entries-written}
use Rattle.replica.specs.Machine.{Call, effect}
use Rattle.calls.specs.declared.State.{State}
use Rattle.calls.specs.State.{clock_model, Machine, Sized as Arrays, name_of, tombstone_dots, entries, view}
use Rattle.calls.specs.Effect.{padded, keys_part, state_of, store_of}
use Rattle.calls.specs.Calls.{performed}
use Rattle.calls.specs.Sequence.{Held, held_after}
use Rattle.calls.proofs.Validity.{Rules}
use Rattle.calls.proofs.Decided.{Sized}

pub tombstone-read : (ds : List Dot) → all dot_ok ds ≡ true → dots_of (take (length ds * dot_size) (padded tombstone_size (dots_bytes ds))) ≡ ds
tombstone-read ds ok =
    rw (take_at (dots_bytes ds) (replicate (tombstone_size - length (dots_bytes ds)) 0) (length ds * dot_size) (omega (arith, length-dots ds))) (dots-written ds ok)

-- the used part does not hang on the buffer past it
pub view-past : (st : State) (used past : Bytes) → length used ≡ st.used → view st (used ++ past) ≡ view st used
unfolding view
view-past st used past e = rw (take_at used past st.used e, take_all st.used used (omega arith))

-- the used part of the store written
pub used-after : (st : State) (store : Bytes) (m : Machine) → take (state_of st m).used (store_of st store m) ≡ keys_part st m
unfolding state_of store_of
used-after st store m = rw append_assoc (take-append_seam (keys_part st m) _)

pub view-after : (st : State) (m : Machine) → m.actor ≡ st.actor → all dot_ok m.tombstone ≡ true → all entry_ok m.keys ≡ true
    → view (state_of st m) (keys_part st m) ≡ m
unfolding view state_of
view-after st m own dots keys =
    let tombstone : tombstone_dots (state_of st m) ≡ m.tombstone = tombstone-read m.tombstone dots in
    let stored : entries (state_of st m) (keys_part st m) ≡ m.keys = rw (take_all (length (keys_part st m)) (keys_part st m) (omega arith)) (entries-written (name_of st) m.keys keys) in
    rw (stored, tombstone, ← own)

abbrev pub view_of : Held → Machine
view_of h = view h.state h.used

-- what a call's work leaves
module _ (st : State) (store out : Bytes) (call : Call) (message : Bytes) where
  abbrev after : Machine
  after = effect clock_model (view st store) call

  pub performed-sized : Arrays st → length after.clock ≡ clock_words → length after.tombstone ≤ tombstone_most → Sized (held_after (performed st store out call message))
  unfolding state_of
  performed-sized arrays words few = record {
    used-size = ap length (used-after st store after);
    arrays = record { name-size = arrays.name-size; words_size = words; tombstone-size = rw (length-append, length-replicate) (omega (arith, length-dots after.tombstone)) };
  }

  pub performed-view : after.actor ≡ st.actor → Rules after → view_of (held_after (performed st store out call message)) ≡ after
  performed-view own rules = ap (view (state_of st after)) (used-after st store after) ∙ view-after st after own rules.tombstone rules.keys
