-- The clauses of a state that is not damaged, and what they say of its machine. Assumes nothing.
use Prim.Native.Nat.{◌≤◌}
use mathlib.Core.Path.{◌≡◌}
use mathlib.Core.Bool.{true, false}
use mathlib.Core.List.{◌++◌}
use native.Mathlib.Omega.{arith}
use lib.ListN.{length, take, length-append}
use lib.Seq.{length-take-le, take_at}
use borrow.Author.Tests.{leb-true, le-leb, not-false}
use Rattle.wire.specs.Bytes.{Bytes}
use Rattle.wire.proofs.Tests.{both, neither}
use Rattle.dots.specs.Dots.{actor_ok, tombstone_most}
use Rattle.dots.specs.Names.{name_most, name_ok}
use Rattle.dots.proofs.Rules.{ascending-valid}
use Rattle.clock.specs.Row.{window_width}
use Rattle.clock.specs.Clock.{rows_ok, clock_ok}
use Rattle.store.specs.Valid.{store_most, store_ok}
use Rattle.store.proofs.RoundTrip.{UsedEntries, used-entries}
use Rattle.calls.specs.declared.State.{State}
use Rattle.calls.specs.State.{name_of, tombstone_dots, used_part, entries, view}
use Rattle.calls.specs.Damage.{state_name_ok, tombstone_ok, damaged}
use Rattle.calls.proofs.Validity.{Rules}

-- the clauses of a state that is not damaged
pub record Undamaged (st : State) (store : Bytes) : Type 0 where
  pub actor : actor_ok st.actor.number ≡ true
  pub name : state_name_ok st ≡ true
  pub clock : clock_ok window_width st.actor.number st.clock.words ≡ true
  pub tombstone : tombstone_ok st ≡ true
  pub stored : store_ok (name_of st) st.clock.words store st.used ≡ true

pub undamaged : (st : State) (store : Bytes) → damaged st store ≡ false → Undamaged st store
unfolding damaged
undamaged st store h = record {
  actor = not-false _ (search neither);
  name = not-false _ (search neither);
  clock = not-false _ (search neither);
  tombstone = not-false _ (search neither);
  stored = not-false _ (search neither);
}

pub not_damaged : (st : State) (store : Bytes) → Undamaged st store → damaged st store ≡ false
unfolding damaged
not_damaged st store u = rw (u.actor, u.name, u.clock, u.tombstone, u.stored)

module _ (st : State) (store : Bytes) (u : Undamaged st store) where
  pub name-ok : name_ok (name_of st) ≡ true
  unfolding state_name_ok
  name-ok = let n = u.name in search both

  pub name_most_lem : st.name.len ≤ name_most
  unfolding state_name_ok
  name_most_lem = let n = u.name in leb-true _ _ (search both)

  pub dots_most : st.tombstone.count ≤ tombstone_most
  unfolding tombstone_ok
  dots_most = let t = u.tombstone in leb-true _ _ (search both)

  pub rows_ok_lem : rows_ok window_width st.clock.words ≡ true
  unfolding clock_ok
  rows_ok_lem = let c = u.clock in search both

  pub used-fits : st.used ≤ length store
  unfolding store_ok
  used-fits = let s = u.stored in leb-true _ _ (search both)

  pub store-fits : length store ≤ store_most
  unfolding store_ok
  store-fits = let s = u.stored in leb-true _ _ (search both)

  -- the used bytes are those of entries that keep their rules
  pub entries_of_lem : UsedEntries (name_of st) st.clock.words (used_part st store) (entries st store)
  unfolding store_ok
  entries_of_lem = used-entries (name_of st) st.clock.words (used_part st store) (let s = u.stored in search both)

  pub view-rules : Rules (view st store)
  unfolding view tombstone_ok
  view-rules = record { tombstone = ascending-valid (tombstone_dots st) (let t = u.tombstone in search both); keys = entries_of_lem.valid }

-- the used part does not hang on the buffer past it
pub other_buffer : (st : State) (store past : Bytes) → Undamaged st store → length (take st.used store ++ past) ≤ store_most → Undamaged st (take st.used store ++ past)
unfolding store_ok
other_buffer st store past u short =
    let used : Bytes = take st.used store in
    let size : length used ≡ st.used = length-take-le st.used store (used-fits st store u) in
    let fits : st.used ≤ length (used ++ past) = omega (arith, length-append used past) in
    let s = u.stored in
    record {
      actor = u.actor;
      name = u.name;
      clock = u.clock;
      tombstone = u.tombstone;
      stored = rw (le-leb (length (used ++ past)) store_most short, le-leb st.used (length (used ++ past)) fits, take_at used past st.used size) (search both);
    }
