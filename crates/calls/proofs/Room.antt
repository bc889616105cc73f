-- After a compaction the tombstone has room for every context. Assumes nothing.
use Prim.Native.Nat.{suc, ◌+◌, ◌≤◌, Ordering}
use mathlib.Core.Path.{◌≡◌, refl, ap}
use mathlib.Core.Bool.{Bool, true, false}
use mathlib.Core.List.{List, [], ◌∷◌}
use native.Mathlib.Omega.{arith}
use lib.Dec.{leb, ltb}
use lib.ListN.{length}
use borrow.Author.Tests.{leb-true, le-ltb}
use Rattle.wire.specs.Lists.{cons_if, keep, place, insert, insert_all}
use Rattle.wire.specs.Bytes.{Bytes}
use Rattle.wire.proofs.Tests.{both_left}
use Rattle.dots.specs.declared.Dot.{Dot}
use Rattle.dots.specs.Dots.{Context, compare_dots, ascending_dots, context_most, context_ok, tombstone_most}
use Rattle.dots.specs.Wire.{dots_at, dots_of}
use Rattle.dots.specs.Entries.{Entry}
use Rattle.dots.specs.Message.{add, remove}
use Rattle.replica.specs.Machine.{Call, own_add, own_remove, take_in, reads, compact, hand_off, compacted, handed_off, seen, apply, effect}
use Rattle.calls.specs.declared.State.{State}
use Rattle.calls.specs.State.{clock_model, Machine, tombstone_dots, view}
use Rattle.calls.specs.Effect.{tombstone_of}
use Rattle.calls.specs.Refusals.{tombstone_full}
use Rattle.calls.specs.Sequence.{step, compact_input}
use Rattle.calls.specs.Room.{context_in, RoomAfterCompaction}
use Rattle.calls.proofs.Demand3.{compacted-tombstone}

keep-length : {A : Type 0} (p : A → Bool) (xs : List A) → length (keep p xs) ≤ length xs
unfolding keep
keep-length p [] = omega arith
keep-length p (x ∷ xs) = by (p x) (keep-length p xs)
  where
    by : (b : Bool) → length (keep p xs) ≤ length xs → length (cons_if b x (keep p xs)) ≤ suc (length xs)
    by true ih = omega arith
    by false ih = omega arith

insert-length : (d : Dot) (ds : List Dot) → length (insert compare_dots d ds) ≤ suc (length ds)
unfolding insert
insert-length d [] = omega arith
insert-length d (e ∷ ds) = by (compare_dots d e) (insert-length d ds)
  where
    by : (o : Ordering) → length (insert compare_dots d ds) ≤ suc (length ds) → length (place o d e ds (insert compare_dots d ds)) ≤ suc (suc (length ds))
    by Ordering.lt ih = omega arith
    by Ordering.eq ih = omega arith
    by Ordering.gt ih = omega arith

insert_all-length : (xs ds : List Dot) → length (insert_all compare_dots xs ds) ≤ length xs + length ds
unfolding insert_all
insert_all-length [] ds = omega arith
insert_all-length (x ∷ xs) ds = omega (arith, insert_all-length xs (insert compare_dots x ds), insert-length x ds)

module _ (st : State) (store : Bytes) (empty : st.tombstone ≡ tombstone_of []) where
  no_dots_lem : tombstone_dots st ≡ []
  unfolding dots_of dots_at
  no_dots_lem = rw empty

  m : Machine
  m = view st store

  applied-short : (fresh : List Entry) (context : Context) → length (apply clock_model m fresh context).tombstone ≤ length context
  unfolding apply m view
  applied-short fresh context =
      let joined = insert_all-length (keep (seen clock_model m) context) (tombstone_dots st) in
      omega (arith, keep-length (seen clock_model m) context, ap length no_dots_lem)

  applied-fits : (fresh : List Entry) (context : Context) → context_ok context ≡ true → ltb tombstone_most (length (apply clock_model m fresh context).tombstone) ≡ false
  applied-fits fresh context ok =
      let few = leb-true (length context) context_most (both_left (leb (length context) context_most) (ascending_dots context) ok) in
      le-ltb tombstone_most (length (apply clock_model m fresh context).tombstone) (omega (arith, applied-short fresh context))

  nothing-fits : ltb tombstone_most (length (tombstone_dots st)) ≡ false
  nothing-fits = le-ltb tombstone_most (length (tombstone_dots st)) (omega (arith, ap length no_dots_lem))

  room : (call : Call) → context_ok (context_in call) ≡ true → tombstone_full st store call ≡ false
  unfolding context_in effect compacted handed_off m view
  room (own_add l context) ok = applied-fits _ context ok
  room (own_remove context) ok = applied-fits [] context ok
  room (take_in (add l d context)) ok = applied-fits _ context ok
  room (take_in (remove context)) ok = applied-fits [] context ok
  room reads ok = nothing-fits
  room compact ok = refl
  room (hand_off b) ok = nothing-fits

pub room_after_compaction : RoomAfterCompaction
room_after_compaction h past acc store call = room (step h (compact_input past)).state store (compacted-tombstone h past acc) call
