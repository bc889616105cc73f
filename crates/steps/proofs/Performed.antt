-- What a call leaves that applies a context: the state and the store that the machine's effect is written back as. Assumes nothing.
use Prim.Native.Nat.{ℕ, ◌+◌, ◌-◌, ◌*◌, ◌≤◌, max}
use mathlib.Core.Path.{◌≡◌, refl, sym, ap, ◌∙◌}
use mathlib.Core.Bool.{true, false, not}
use mathlib.Core.List.{List, [], ◌∷◌, ◌++◌, append-nil}
use native.Mathlib.Omega.{arith}
use lib.ListN.{length, take, drop, get_or, take-append-drop, length-drop}
use lib.Seq.{length-take-le}
use mir.Val.{Fits}
use mir.Syntax.{w8}
use Rattle.wire.specs.Lists.{◌∈◌, all, keep, insert, insert_all}
use Rattle.wire.specs.Bytes.{Bytes}
use Rattle.wire.proofs.Tests.{pass, fail}
use Rattle.wire.proofs.Lists.{keep-member, member-keep, all-member}
use Rattle.wire.proofs.Fields.{bytes_take}
use Rattle.dots.specs.declared.Dot.{Dot}
use Rattle.dots.specs.Names.{Label, label_ok}
use Rattle.dots.specs.Entries.{Entry, entry, compare_entries}
use Rattle.dots.specs.Dots.{Context, dot_ok, ascending_dots, tombstone_most}
use Rattle.dots.specs.Wire.{dots_bytes, dots_of, dot_size, tombstone_size}
use Rattle.dots.proofs.RoundTrip.{dots-read}
use Rattle.clock.specs.Row.{window_width}
use Rattle.clock.specs.Clock.{sees, join_all, near, clock_words}
use Rattle.store.specs.Cut.{store_bytes}
use Rattle.store.specs.Place.{inserted_entry}
use Rattle.store.proofs.Inserted.{length_inserted, entry_inserted}
use Rattle.replica.specs.Machine.{own_remove, joining, apply, effect}
use Rattle.calls.specs.declared.State.{State}
use Rattle.calls.specs.State.{clock_model, name_of, entries, view}
use Rattle.calls.specs.Damage.{zero_from}
use Rattle.calls.specs.Effect.{tombstone_of, state_of, store_of}
use Rattle.steps.specs.Tests.{Padded, next_tombstone, applied, state_with}
use Rattle.calls.proofs.Validity.{all-kept}
use Rattle.calls.proofs.Clauses.{Undamaged, used-fits, entries_of_lem}
use Rattle.calls.proofs.Whole.{view-whole, zeros_are}
use Rattle.steps.proofs.Joining.{joined_same}
use Rattle.calls.proofs.Guard.{entry-ok}
use Rattle.keys.specs.Key.{label_key_fixed}

-- ---- the tombstone's bytes

pub tombstone-padded : (bytes : List ℕ) (count : ℕ) → ((j : ℕ) → Fits w8 (get_or bytes j 0)) → length bytes ≡ tombstone_size → count ≤ tombstone_most
    → ascending_dots (dots_of (take (count * dot_size) bytes)) ≡ true → zero_from (count * dot_size) bytes ≡ true → Padded bytes count
tombstone-padded bytes count small size few up past =
    let front : length (take (count * dot_size) bytes) ≡ count * dot_size = length-take-le (count * dot_size) bytes (omega arith) in
    let read : dots_bytes (dots_of (take (count * dot_size) bytes)) ≡ take (count * dot_size) bytes = dots-read (take (count * dot_size) bytes) (bytes_take bytes (count * dot_size) (λ j. (small j).fits)) (omega arith) in
    let left : length (drop (count * dot_size) bytes) ≡ tombstone_size - length (take (count * dot_size) bytes) = rw (length-drop, front, size) in
    record {
      tomb = record { size = size; few = few; ascends = up };
      zeros = sym (take-append-drop (count * dot_size) bytes) ∙ rw read (ap (λ (t : List ℕ). take (count * dot_size) bytes ++ t) (zeros_are (drop (count * dot_size) bytes) past ∙ rw left));
    }

-- ---- the clock and the store

module _ (st : State) (store : Bytes) (u : Undamaged st store) (size : length st.clock.words ≡ clock_words) where
  -- the entries' keys are the used part
  pub keys-used : store_bytes (name_of st) (entries st store) ≡ take st.used store
  keys-used = (entries_of_lem st store u).written

  used-size : length (take st.used store) ≡ st.used
  used-size = length-take-le st.used store (used-fits st store u)

  module _ (ds : Context) (ok : all dot_ok ds ≡ true) (close : near window_width st.clock.words ds ≡ true) where
    -- the dots seen before change nothing
    context-joined : join_all window_width st.clock.words ds ≡ join_all window_width st.clock.words (keep (λ d. not (sees st.clock.words d)) ds)
    unfolding view
    context-joined =
        joined_same st.clock.words ds (keep (λ d. not (sees st.clock.words d)) ds) (view-whole st store u size).formed ok
        (all-kept dot_ok (λ d. not (sees st.clock.words d)) ds ok) close
        (λ d f k. member-keep (λ d. not (sees st.clock.words d)) ds k (pass (ap not f)))
        (λ d f k. (keep-member (λ d. not (sees st.clock.words d)) ds k).0)

    -- what is left where these dots were offered, new entries stored, and a context of theirs applied
    pub applied-state : (fresh : List Entry) (context : Context) (used : ℕ) → keep (λ d. not (sees st.clock.words d)) ds ≡ joining clock_model (view st store) fresh context
        → used ≡ length (store_bytes (name_of st) (insert_all compare_entries fresh (entries st store)))
        → state_with st (join_all window_width st.clock.words ds) (tombstone_of (next_tombstone st context)) used ≡ state_of st (apply clock_model (view st store) fresh context)
    unfolding state_of apply view
    applied-state fresh context used joins grown = rw (← grown, context-joined, joins)

    pub removed-state : state_with st (join_all window_width st.clock.words ds) (tombstone_of (next_tombstone st ds)) st.used ≡ state_of st (effect clock_model (view st store) (own_remove ds))
    unfolding effect insert_all view
    removed-state = applied-state [] ds st.used refl (rw (keys-used, used-size))

    pub removed-store : store_of st store (effect clock_model (view st store) (own_remove ds)) ≡ store
    unfolding store_of effect apply view insert_all
    removed-store =
        let none : st.used - st.used ≡ 0 = omega arith in
        let same : max st.used st.used ≡ st.used = omega arith in
        rw (keys-used, used-size, none, same, append-nil) (take-append-drop st.used store)

  -- an add: its entry is stored where its dot is unseen
  module _ (label : Label) (d : Dot) (ds : Context) (text : label_ok label ≡ true) (d-ok : dot_ok d ≡ true) (ok : all dot_ok ds ≡ true) (close : near window_width st.clock.words (d ∷ ds) ≡ true) where
    offered-ok : all dot_ok (d ∷ ds) ≡ true
    unfolding all
    offered-ok = rw (d-ok, ok)

    module _ (known : sees st.clock.words d ≡ true) where
      pub seen-state : state_with st (join_all window_width st.clock.words (d ∷ ds)) (tombstone_of (next_tombstone st ds)) st.used ≡ state_of st (applied st store label ds d)
      unfolding insert_all keep view
      seen-state = rw known (applied-state (d ∷ ds) offered-ok close [] ds st.used (rw known) (rw (keys-used, used-size)))

      pub seen-store : store_of st store (applied st store label ds d) ≡ store
      unfolding store_of apply view insert_all
      seen-store =
          let none : st.used - st.used ≡ 0 = omega arith in
          let same : max st.used st.used ≡ st.used = omega arith in
          rw (known, keys-used, used-size, none, same, append-nil) (take-append-drop st.used store)

    module _ (named : length (name_of st) ≡ st.name.len) (new : sees st.clock.words d ≡ false) where
      entry_new : entry label d ∈ entries st store → ⊥
      entry_new k = fail new (pass (all-member (λ (e : Entry). sees st.clock.words e.dot) (entries st store) (entries_of_lem st store u).seen (entry label d) k))

      key-size : length (store_bytes (name_of st) (insert compare_entries (entry label d) (entries st store))) ≡ st.used + (st.name.len + length label + label_key_fixed)
      key-size = length_inserted (name_of st) (entry label d) (entry-ok label d text d-ok) (entries st store) (entries_of_lem st store u).valid entry_new ∙ rw (keys-used, used-size, named)

      pub stored-state : state_with st (join_all window_width st.clock.words (d ∷ ds)) (tombstone_of (next_tombstone st ds)) (st.used + (st.name.len + length label + label_key_fixed))
          ≡ state_of st (applied st store label ds d)
      unfolding insert_all keep view
      stored-state = rw new (applied-state (d ∷ ds) offered-ok close (entry label d ∷ []) ds (st.used + (st.name.len + length label + label_key_fixed)) (rw new) (sym key-size))

      pub stored-store : inserted_entry (name_of st) store st.used (entry label d) ≡ store_of st store (applied st store label ds d)
      unfolding store_of apply view insert_all
      stored-store =
          let none : st.used - (st.used + (st.name.len + length label + label_key_fixed)) ≡ 0 = omega arith in
          let most : max st.used (st.used + (st.name.len + length label + label_key_fixed)) ≡ st.used + (st.name.len + length label + label_key_fixed) = omega arith in
          entry_inserted (name_of st) (entry label d) (entry-ok label d text d-ok) (entries st store) (entries_of_lem st store u).valid entry_new store st.used (sym keys-used)
          ∙ rw (new, key-size, named, none, most, append-nil)
