-- Compacting the used part of an undamaged state's store, and emptying its tombstone, writes back its machine's compaction. Assumes nothing.
use Prim.Native.Nat.{ℕ, ◌*◌, ◌≤◌, max}
use mathlib.Core.Path.{◌≡◌, refl, sym, ap, ◌∙◌}
use mathlib.Core.Bool.{Bool, true, false, cond, ◌||◌}
use mathlib.Core.List.{[], ◌++◌, map}
use native.Mathlib.Omega.{arith}
use lib.Dec.{eqb}
use lib.ListN.{length, take, drop, replicate, take-append-drop}
use borrow.Author.Tests.{leb-true, eqb-true}
use Rattle.wire.specs.Lists.{all}
use Rattle.wire.specs.Bytes.{Bytes}
use Rattle.wire.proofs.Tests.{both}
use Rattle.dots.specs.declared.Answer.{Answer}
use Rattle.dots.specs.declared.Answer.TheVariants.{Done, Damaged}
use Rattle.dots.specs.Names.{name_most}
use Rattle.dots.specs.Wire.{dots_bytes, dot_size, tombstone_size}
use Rattle.keys.specs.Entry.{entry_key}
use Rattle.store.specs.Cut.{store_bytes, keys_of}
use Rattle.store.proofs.RoundTrip.{keys-written}
use Rattle.compaction.specs.Compaction.{is_among, CanCompact, kept_bytes, Drops}
use Rattle.compaction.proofs.Compaction.{none_dropped}
use Rattle.compaction.proofs.CompactedEntries.{kept-bytes}
use Rattle.replica.specs.Machine.{live, compacted, effect}
use Rattle.calls.specs.declared.State.{State}
use Rattle.calls.specs.declared.Tombstone.{Tombstone}
use Rattle.calls.specs.declared.Outcome.{Outcome}
use Rattle.calls.specs.State.{clock_model, Machine, name_of, used_part, entries, view, Sized}
use Rattle.calls.specs.Damage.{state_name_ok, tombstone_ok, damaged}
use Rattle.calls.specs.Effect.{keys_part, state_of, store_of}
use Rattle.calls.specs.Calls.{Result, refused, compact_result, compact_done}
use Rattle.calls.specs.Promise.{Leaves}
use Rattle.calls.proofs.Clauses.{Undamaged, undamaged, used-fits, entries_of_lem}
use Rattle.calls.proofs.Whole.{keep-size, zeros_are}
use Rattle.judging.proofs.Parts.{front-size}
use Rattle.steps.specs.Tests.{state_with}

-- the tombstone that a compaction leaves
abbrev emptied : Tombstone
emptied = record { bytes = replicate tombstone_size 0; count = 0 }

-- ---- an undamaged state compacted

module _ (st : State) (store : Bytes) (h : damaged st store ≡ false) (sized : Sized st) where
  u : Undamaged st store
  u = undamaged st store h

  name-length : length (name_of st) ≡ st.name.len
  unfolding state_name_ok
  name-length = let n = u.name in let size = sized.name-size in let short : st.name.len ≤ name_most = leb-true _ _ (search both) in sym (front-size st.name.bytes st.name.len (omega arith))

  pub used-within : st.used ≤ length store
  used-within = used-fits st store u

  -- what compacting the used part requires
  pub compact-may : CanCompact st.name.len (take st.used store) st.tombstone.bytes st.tombstone.count
  unfolding state_name_ok tombstone_ok
  compact-may =
      let n = u.name in
      let t = u.tombstone in
      (leb-true _ _ (search both), rw name-length at (entries_of_lem st store u).fit, leb-true _ _ (search both), sized.tombstone-size, search both)

  abbrev after : Machine
  after = compacted clock_model (view st store)

  keys : keys_of (length (name_of st)) (used_part st store) ≡ map (entry_key (name_of st)) (entries st store)
  keys = rw (entries_of_lem st store u).written at (keys-written (name_of st) (entries st store) (entries_of_lem st store u).valid)

  used-size : length (take st.used store) ≡ st.used
  used-size = sym (front-size store st.used used-within)

  fewer_bytes : length (keys_part st after) ≤ st.used
  unfolding compacted view
  fewer_bytes =
      let kept = keep-size (name_of st) (live clock_model (view st store)) (entries st store) in
      let all : length (store_bytes (name_of st) (entries st store)) ≡ st.used = ap length (entries_of_lem st store u).written ∙ used-size in
      omega arith

  -- what it leaves
  module _ (keys' : Bytes) (left : ℕ) (c : Drops (is_among st.tombstone.bytes st.tombstone.count) st.name.len left (take st.used store) keys') where
    kept : kept_bytes (is_among st.tombstone.bytes st.tombstone.count) st.name.len (take st.used store) ≡ keys_part st after
    unfolding compacted view
    kept =
        ap (λ (n : ℕ). kept_bytes (is_among st.tombstone.bytes st.tombstone.count) n (take st.used store)) (sym name-length)
        ∙ kept-bytes (is_among st.tombstone.bytes st.tombstone.count) (name_of st) (take st.used store) (entries st store) (entries_of_lem st store u).valid keys

    store-left : keys' ++ drop st.used store ≡ store_of st store after
    unfolding store_of
    store-left =
        let most : max st.used (length (keys_part st after)) ≡ st.used = omega (arith, fewer_bytes) in
        rw (c.keys-left, kept, used-size, most)

    state-left : ◌≡◌ {A = State} (state_with st st.clock.words emptied left) (state_of st after)
    unfolding state_of compacted view dots_bytes
    state-left = λ i. state_with st st.clock.words emptied ((c.used-left ∙ ap length kept) i)

    pub compact_leaves : Leaves (compact_done st store) (keys' ++ drop st.used store) []
        (record { answer = Done; state = record { actor = st.actor; name = st.name; clock = record { words = st.clock.words }; tombstone = emptied; used = left }; written = 0 })
    unfolding effect
    compact_leaves = record { answered = refl; state-is = state-left; written_is = refl; store_is = store-left; out-is = refl }

  -- with no dots in the tombstone all stays
  module _ (none : st.tombstone.count ≡ 0) where
    tombstone-empty : st.tombstone ≡ emptied
    unfolding tombstone_ok
    tombstone-empty =
        let t = u.tombstone in
        let zeros : all (λ b. eqb b 0) (drop (st.tombstone.count * dot_size) st.tombstone.bytes) ≡ true = search both in
        let bytes : st.tombstone.bytes ≡ replicate tombstone_size 0 = zeros_are st.tombstone.bytes (rw none at zeros) ∙ ap (λ (k : ℕ). replicate k 0) sized.tombstone-size in
        λ i. record { bytes = bytes i; count = none i }

    none_gone : Drops (is_among st.tombstone.bytes st.tombstone.count) st.name.len st.used (take st.used store) (take st.used store)
    none_gone = rw none (rw used-size at (none_dropped st.name.len (take st.used store)))

    pub compact-none : Leaves (compact_done st store) store [] (record { answer = Done; state = st; written = 0 })
    compact-none =
        let s : Bytes = take st.used store in
        let l = compact_leaves s st.used none_gone in
        record {
          answered = l.answered;
          state-is = (λ i. state_with st st.clock.words (tombstone-empty i) st.used) ∙ l.state-is;
          written_is = refl;
          store_is = sym (take-append-drop st.used store) ∙ l.store_is;
          out-is = refl;
        }

-- ---- the call

module _ (st : State) (store : Bytes) where
  result_refused : damaged st store ≡ true → compact_result st store ≡ refused st store [] Damaged
  unfolding compact_result
  result_refused h = rw h

  result_done : damaged st store ≡ false → compact_result st store ≡ compact_done st store
  unfolding compact_result
  result_done h = rw h

  -- refused, or with no dots in the tombstone
  module _ (sized : Sized st) where
    by_damage : (damage : Bool) → damage ≡ damaged st store → (damage || eqb st.tombstone.count 0) ≡ true → Leaves (compact_result st store) store [] (record { answer = cond damage Damaged Done; state = st; written = 0 })
    by_damage true d h = rw (result_refused (sym d)) (record { answered = refl; state-is = refl; written_is = refl; store_is = refl; out-is = refl })
    by_damage false d h = rw (result_done (sym d)) (compact-none st store (sym d) sized (eqb-true st.tombstone.count 0 h))

    pub compact-kept : (damage : Bool) (a : Answer) → damage ≡ damaged st store → (damage || eqb st.tombstone.count 0) ≡ true → a ≡ cond damage Damaged Done
        → Leaves (compact_result st store) store [] (record { answer = a; state = st; written = 0 })
    compact-kept damage a d h e = rw e (by_damage damage d h)

  pub compact-done : (store' : Bytes) (r : Outcome) → damaged st store ≡ false → Leaves (compact_done st store) store' [] r → Leaves (compact_result st store) store' [] r
  compact-done store' r h left = rw (result_done h) left

  -- with no dots in the tombstone the state stays, refused or not
  pub compact-same : Sized st → st.tombstone.count ≡ 0 → (compact_result st store).state ≡ st
  compact-same sized e = by-test (damaged st store) refl
    where
      by-test : (b : Bool) → damaged st store ≡ b → (compact_result st store).state ≡ st
      by-test true h = ap (λ (r : Result). r.state) (result_refused h)
      by-test false h = ap (λ (r : Result). r.state) (result_done h) ∙ sym (compact-none st store h sized e).state-is

  -- the answer alone
  pub compact-answers : (damage : Bool) (a : Answer) → damage ≡ damaged st store → a ≡ cond damage Damaged Done → a ≡ (compact_result st store).answer
  compact-answers true a d e = e ∙ sym (ap (λ (r : Result). r.answer) (result_refused (sym d)))
  compact-answers false a d e = e ∙ sym (ap (λ (r : Result). r.answer) (result_done (sym d)))

  pub compact-stays : Sized st → st.tombstone.count ≡ 0 → (a : Answer) → a ≡ (compact_result st store).answer → Leaves (compact_result st store) store [] (record { answer = a; state = st; written = 0 })
  compact-stays sized none a e =
      let kept = compact-kept sized (damaged st store) _ refl (either (damaged st store)) refl in
      record { answered = e; state-is = kept.state-is; written_is = kept.written_is; store_is = kept.store_is; out-is = kept.out-is }
    where
      either : (b : Bool) → (b || eqb st.tombstone.count 0) ≡ true
      either true = refl
      either false = rw none
