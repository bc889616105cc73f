-- Loading a hand-off image: what an undamaged controller wrote loads as its state; an accepted load leaves an undamaged state, of which the bytes are
-- the image. Assumes nothing.
use Prim.Native.Nat.{ℕ, ◌-◌, ◌*◌, ◌≤◌}
use mathlib.Core.Path.{◌≡◌, refl, sym, ◌∙◌}
use mathlib.Core.Bool.{true, false}
use mathlib.Core.List.{[], ◌++◌, append-nil}
use native.Mathlib.Omega.{arith}
use lib.ListN.{length, take, drop, replicate, length-append, length-drop}
use lib.Seq.{length-take-le, take_at, take_all}
use borrow.Author.Rules.{rules}
use borrow.Author.Tests.{ltb-false, le-ltb, eqb-true, not-false}
use Rattle.wire.specs.Bytes.{Bytes, part_of}
use Rattle.wire.proofs.Tests.{both}
use Rattle.dots.specs.Answer.{number_of, first_of}
use Rattle.dots.specs.Names.{name_most}
use Rattle.dots.specs.Wire.{dot_size, tombstone_size}
use Rattle.dots.proofs.Table.{NoneHolds, none-holds}
use Rattle.clock.specs.Clock.{unused, row_at, clock_ok}
use Rattle.messages.specs.Read.{mark_ok}
use Rattle.store.specs.Valid.{store_most}
use Rattle.calls.specs.declared.State.{State}
use Rattle.calls.specs.declared.ImageLayout.{ImageLayout}
use Rattle.calls.specs.State.{used_part}
use Rattle.calls.specs.Damage.{state_name_ok, tombstone_ok, damaged}
use Rattle.calls.specs.Effect.{padded, put_out}
use Rattle.calls.specs.Calls.{fresh_state}
use Rattle.calls.specs.Image.{with_crc, image_under}
use Rattle.calls.specs.ImageRead.{version_ok, layout_of, shape_ok, crc_ok, Within, state_at, writer_at, written_at, free_of, actor_free, writer_ok}
use Rattle.calls.specs.HandOff.{load_refusals, loaded_at, load_result}
use Rattle.calls.specs.HandedOff.{with_actor, Loads, LoadsWritten, LoadedUndamaged, WrittenAgain}
use Rattle.calls.proofs.Decided.{decided-done}
use Rattle.calls.proofs.Clauses.{Undamaged, undamaged, not_damaged, name-ok, rows_ok_lem, used-fits, store-fits, other_buffer}
use Rattle.calls.proofs.ImageShapes.{shape-within, dots-counted, name-length, dots-length, keys_length}
use Rattle.calls.proofs.ImageTrip.{body_in, image-back}
use Rattle.calls.proofs.ImageStates.{parts-read, used-read, state-read}

-- ---- what was written loads

-- an undamaged state is undamaged with a store that is just its used part
own-part : (st : State) (store : Bytes) → Undamaged st store → damaged st (used_part st store) ≡ false
own-part st store u =
    let none : used_part st store ++ [] ≡ used_part st store = append-nil (used_part st store) in
    let short : length (used_part st store) ≤ store_most = omega (arith, length-take-le st.used store (used-fits st store u), used-fits st store u, store-fits st store u) in
    not_damaged st (used_part st store) (rw none at (other_buffer st store [] u (rw none short)))

pub loads-written : LoadsWritten
unfolding load_result
loads-written st store actor room sized whole free fits most =
    let u = undamaged st store whole in
    let r = parts-read st store sized u in
    rw (
      le-ltb store_most (length room) most,
      r.marked,
      r.version,
      r.shaped,
      r.checked,
      r.actor-read,
      state-read st store sized u actor,
      free,
      r.name-read,
      name-ok st store u,
      u.actor,
      state-read st store sized u st.actor.number,
      r.keys-read,
      own-part st store u,
      used-read st store sized u,
      le-ltb (length room) st.used fits,
    )

-- ---- where no refusal holds

pub record Loadable (actor : ℕ) (s store : Bytes) : Type 0 where
  pub short : length store ≤ store_most
  pub marked : mark_ok s ≡ true
  pub version : version_ok s ≡ true
  pub shaped : shape_ok s (layout_of s) ≡ true
  pub checked : crc_ok s ≡ true
  pub free : actor_free actor s (layout_of s) ≡ true
  pub named : writer_ok s (layout_of s) ≡ true
  pub whole : damaged (written_at s (layout_of s)) (part_of s (layout_of s).keys) ≡ false
  pub room : (layout_of s).keys.len ≤ length store

module _ (actor : ℕ) (s store : Bytes) where
  pub loadable : number_of (first_of (load_refusals actor s store)) ≡ 0 → Loadable actor s store
  loadable zero =
      let none : NoneHolds (load_refusals actor s store) = none-holds (load_refusals actor s store) (search rules) zero in
      record {
        short = ltb-false store_most (length store) none.0;
        marked = not-false _ none.1.0;
        version = not-false _ none.1.1.0;
        shaped = not-false _ none.1.1.1.0;
        checked = not-false _ none.1.1.1.1.0;
        free = not-false _ none.1.1.1.1.1.0;
        named = not-false _ none.1.1.1.1.1.1.0;
        whole = none.1.1.1.1.1.1.1.0;
        room = ltb-false (length store) (layout_of s).keys.len none.1.1.1.1.1.1.1.1.0;
      }

  -- a load that is not refused passed every test and did its work
  pub load-done : Loads actor s store → (load_result actor s store ≡ loaded_at actor s store (layout_of s)) × Loadable actor s store
  unfolding load_result
  load-done acc =
      let done = decided-done (fresh_state 0 []) store [] (load_refusals actor s store) (loaded_at actor s store (layout_of s)) refl acc in
      (done.0, loadable done.1)

-- ---- what was loaded is undamaged

-- an undamaged state is undamaged under an actor that is free
free-actor : (actor : ℕ) (st : State) (store : Bytes) → free_of actor st.actor.number st.clock.words ≡ true → Undamaged st store → Undamaged (with_actor actor st) store
unfolding free_of unused clock_ok state_name_ok tombstone_ok
free-actor actor st store free u =
    let window : (row_at st.clock.words actor).window ≡ 0 = eqb-true _ _ (search both) in
    record { actor = search both; name = u.name; clock = rw (rows_ok_lem st store u, window); tombstone = u.tombstone; stored = u.stored }

module _ (actor : ℕ) (s store : Bytes) (l : Loadable actor s store) where
  abbrev keys : Bytes
  keys = part_of s (layout_of s).keys

  keys-long : length keys ≡ (layout_of s).keys.len
  keys-long = keys_length s (layout_of s) (shape-within s l.shaped)

  store_length : length (put_out keys store) ≡ length store
  store_length = length-append keys (drop (length keys) store) ∙ rw length-drop (omega (arith, keys-long, l.room))

  loaded-whole : Undamaged (state_at actor s (layout_of s)) (put_out keys store)
  unfolding state_at
  loaded-whole =
      let st : State = state_at actor s (layout_of s) in
      let own : take (layout_of s).keys.len keys ≡ keys = take_all (layout_of s).keys.len keys (omega (arith, keys-long)) in
      let u : Undamaged st keys = free-actor actor (written_at s (layout_of s)) keys l.free (undamaged (written_at s (layout_of s)) keys l.whole) in
      rw own at (other_buffer st keys (drop (length keys) store) u (rw (own, store_length) l.short))

pub loaded-undamaged : LoadedUndamaged
loaded-undamaged actor s store acc =
    let done = load-done actor s store acc in
    rw done.0 (not_damaged _ _ (loaded-whole actor s store done.1))

-- ---- what was loaded, written again

-- a field that was put before zeros
padded-read : (n k : ℕ) (bytes : Bytes) → length bytes ≡ k → take k (padded n bytes) ≡ bytes
padded-read n k bytes size = take_at bytes (replicate (n - length bytes) 0) k size

module _ (actor : ℕ) (s store : Bytes) (within : Within s (layout_of s)) where
  image_again : image_under (writer_at s (layout_of s)) (state_at actor s (layout_of s)) (put_out (part_of s (layout_of s).keys) store) ≡ with_crc (body_in s)
  unfolding image_under state_at
  image_again =
      let l : ImageLayout = layout_of s in
      let keys : Bytes = part_of s l.keys in
      let count : length (part_of s l.dots) ≡ l.count * dot_size = dots-length s l within ∙ dots-counted s ∙ omega arith in
      rw (
        padded-read name_most l.name.len (part_of s l.name) (name-length s l within),
        padded-read tombstone_size (l.count * dot_size) (part_of s l.dots) count,
        take_at keys (drop (length keys) store) l.keys.len (keys_length s l within),
      )

pub written_again : WrittenAgain
written_again actor s store small acc =
    let done = load-done actor s store acc in
    let l = done.1 in
    sym (rw done.0 (image_again actor s store (shape-within s l.shaped) ∙ image-back s small l.marked l.version l.shaped l.checked))
