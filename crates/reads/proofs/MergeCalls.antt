-- A merged read: its refusals, what it may count on then, and what it gives. Assumes nothing.
use Prim.Native.Nat.{ℕ, ◌+◌, ◌*◌, ◌≤◌}
use mathlib.Core.Path.{◌≡◌, refl, sym, ap, ◌∙◌, subst}
use mathlib.Core.Bool.{Bool, true, false, not, ◌||◌}
use mathlib.Core.List.{List, [], ◌∷◌, ◌++◌}
use native.Mathlib.Omega.{arith}
use lib.Dec.{compare_is_eq}
use lib.ListN.{length, take}
use lib.Seq.{length-take-le}
use borrow.Author.Tests.{ne_eqb, not-false}
use Rattle.wire.specs.Bytes.{Bytes, compare_bytes, put_at}
use Rattle.wire.proofs.Tests.{neither, pass}
use Rattle.wire.proofs.Lists.{tie-is}
use Rattle.wire.proofs.Orders.{bytes_lawful}
use Rattle.dots.specs.Answer.{number_of, Refusals, first_of}
use Rattle.dots.specs.declared.Answer.{Answer}
use Rattle.dots.specs.declared.Answer.TheVariants.{Done, Damaged, OtherSet, OutputShort}
use Rattle.dots.specs.Wire.{dot_size, tombstone_size}
use Rattle.dots.specs.Entries.{Line}
use Rattle.dots.proofs.Table.{none-holds}
use Rattle.listing.specs.declared.LinesPut.{LinesPut}
use Rattle.listing.specs.Listing.{listing_bytes, PutsWanted}
use Rattle.listing.proofs.Folds.{length-put}
use Rattle.merge.specs.Sides.{Sides, merged_key_lines}
use Rattle.merge.specs.Kept.{sides_of, EndToEnd}
use Rattle.merge.specs.Lines.{Mergeable, PutsAll}
use Rattle.merge.proofs.BothSides.{sides_are, end_to_end_lem}
use Rattle.std.specs.Prelude.{Result, Ok, Err}
use Rattle.steps.specs.Tests.{passed}
use Rattle.steps.proofs.Passed.{passed-is}
use Rattle.calls.specs.declared.State.{State}
use Rattle.calls.specs.declared.SetName.{SetName}
use Rattle.calls.specs.declared.Listed.{Listed}
use Rattle.calls.specs.State.{name_of, used_part, view, Sized}
use Rattle.calls.specs.Damage.{damaged}
use Rattle.calls.specs.Refusals.{output_short}
use Rattle.calls.specs.Calls.{merge_lines, merge_result}
use Rattle.calls.specs.Promise.{Lists}
use Rattle.steps.proofs.Answers.{stops}
use Rattle.reads.specs.Reads.{listed_of, set_refusals}
use Rattle.reads.proofs.ReadCalls.{name_most_lem, name-fits, name-size, tombstone_most_lem, tombstone-ascends, used-short, keys-named, lists_or_short}

-- refusals 1 and 7, as the code tests them
module _ (damage : Bool) (name given : SetName) where
  pub refused-damaged : damage ≡ true → Err Damaged ≡ passed (first_of (set_refusals damage name given))
  refused-damaged d = rw d refl

  module _ (f : damage ≡ false) (o : Bool) (e : o ≡ not (compare_is_eq (compare_bytes (take given.len given.bytes) (take name.len name.bytes)))) where
    pub refused-other : o ≡ true → Err OtherSet ≡ passed (first_of (set_refusals damage name given))
    refused-other t = rw (f, ← e, t) refl

    pub not_refused : o ≡ false → Ok (tt {0}) ≡ passed (first_of (set_refusals damage name given))
    not_refused t = rw (f, ← e, t) refl

-- tombstones and clocks of two states
abbrev pub sides_in : State → State → Sides
sides_in st st' = record {
  tombstone = take (st.tombstone.count * dot_size) st.tombstone.bytes;
  words = st.clock.words;
  tombstone' = take (st'.tombstone.count * dot_size) st'.tombstone.bytes;
  words' = st'.clock.words;
}

-- the tombstone of an undamaged state
module _ (st : State) (store : Bytes) (sized : Sized st) (f : damaged st store ≡ false) where
  pub tombstone-fits : st.tombstone.count * dot_size ≤ length st.tombstone.bytes
  tombstone-fits = let size = sized.tombstone-size in omega (arith, tombstone_most_lem st store f)

  tombstone-long : length (take (st.tombstone.count * dot_size) st.tombstone.bytes) ≡ st.tombstone.count * dot_size
  tombstone-long = length-take-le (st.tombstone.count * dot_size) st.tombstone.bytes tombstone-fits

module _ (st : State) (store : Bytes) (st' : State) (store' : Bytes) where
  -- ---- the first of them

  abbrev sides_refusals : Refusals
  sides_refusals = set_refusals (damaged st store || damaged st' store') st.name st'.name

  -- each judged by itself
  module _ (p q : Bool) (e : p ≡ damaged st store) (f : q ≡ damaged st' store') where
    pub names-fit : Sized st → Sized st' → (p || q) ≡ false → (st.name.len ≤ length st.name.bytes) × (st'.name.len ≤ length st'.name.bytes)
    names-fit sized sized' n = (name-fits st store sized (sym e ∙ search neither), name-fits st' store' sized' (sym f ∙ search neither))

    pub sides-answered : (r : Result Unit Answer) → r ≡ passed (first_of (set_refusals (p || q) st.name st'.name)) → r ≡ passed (first_of sides_refusals)
    sides-answered r a = a ∙ rw (e, f)

  module _ (answer : Answer) (answered : answer ≡ first_of (sides_refusals)) where
    undone : (answer ≡ Done → ⊥) → number_of answer ≡ 0 → ⊥
    undone some z = some (answered ∙ sides-done (ap number_of (sym answered) ∙ z))
      where
        sides-done : number_of (first_of sides_refusals) ≡ 0 → first_of sides_refusals ≡ Done
        sides-done z = let none = none-holds (sides_refusals) (omega arith, (omega arith, tt)) z in rw (none.0, none.1.0)

    -- it refuses
    pub no_merge : (out : Bytes) → (answer ≡ Done → ⊥) → Lists (merge_result st store st' store' out) out (record { answer = answer; written = 0; labels = 0 })
    unfolding merge_result
    no_merge out some =
        let short : Refusals = (output_short out (listing_bytes (merge_lines st store st' store')), OutputShort) ∷ [] in
        let all : Answer = first_of (sides_refusals ++ short) in
        let whole : answer ≡ all = stops (sides_refusals) answer (number_of answer) answered refl short (undone some) in
        rw (ne_eqb (number_of all) 0 (λ z. undone some (ap number_of whole ∙ z))) (record { answered = whole; written_is = refl; labels_are = refl; out-is = refl })

  -- none holds: two undamaged controllers of one set
  pub may-merge : (r : Result Unit Answer) (u : Unit {0}) → r ≡ passed (first_of sides_refusals) → r ≡ Ok u → (damaged st store ≡ false) × (damaged st' store' ≡ false) × (name_of st' ≡ name_of st)
  may-merge r u a z =
      let none = none-holds (sides_refusals) (omega arith, (omega arith, tt)) (passed-is (first_of sides_refusals) u (sym z ∙ a)) in
      let damage : (damaged st store || damaged st' store') ≡ false = none.0 in
      (search neither, search neither, bytes_lawful.tie (name_of st') (name_of st) (tie-is _ (pass (not-false (compare_is_eq (compare_bytes (name_of st') (name_of st))) none.1.0))))

  -- ---- the merge of two undamaged controllers of one set

  module _ (sized : Sized st) (f : damaged st store ≡ false) (f' : damaged st' store' ≡ false) (same : name_of st' ≡ name_of st) where
    size : length (name_of st) ≡ st.name.len
    size = name-size st store sized f

    size' : length (name_of st') ≡ st.name.len
    size' = ap length same ∙ size

    pub mergeable : Mergeable st.name.len (used_part st store) (used_part st' store')
    mergeable = record {
      short-name = name_most_lem st store f;
      same_set = record { first = keys-named st store f st.name.len size; second = keys-named st' store' f' st.name.len size'; one_name = sym same };
      first_short = used-short st store f;
      second_short = used-short st' store' f';
    }

    lines_are : merged_key_lines st.name.len (sides_in st st') (used_part st store) (used_part st' store') ≡ merge_lines st store st' store'
    unfolding view
    lines_are = rw (size, size')

    -- both tombstones put into a buffer, the second after the first
    abbrev first : Bytes
    first = (sides_in st st').tombstone

    abbrev second : Bytes
    second = (sides_in st st').tombstone'

    module _ (sized' : Sized st') (zeros : Bytes) (room : length zeros ≡ 2 * tombstone_size) where
      long : (length first ≡ st.tombstone.count * dot_size) × (length second ≡ st'.tombstone.count * dot_size)
      long = (tombstone-long st store sized f, tombstone-long st' store' sized' f')

      both-fit : st.tombstone.count * dot_size + st'.tombstone.count * dot_size ≤ length zeros
      both-fit = omega (arith, tombstone_most_lem st store f, tombstone_most_lem st' store' f')

      pub first-room : (st.tombstone.count * dot_size ≤ length st.tombstone.bytes) × (0 + st.tombstone.count * dot_size ≤ length zeros)
      first-room = (tombstone-fits st store sized f, omega (arith, both-fit))

      module _ (dead : Bytes) (split : ℕ) (next : split ≡ 0 + st.tombstone.count * dot_size) (put : dead ≡ put_at zeros 0 first) where
        length-dead : length dead ≡ length zeros
        length-dead = ap length put ∙ length-put zeros first 0 (omega (arith, both-fit, long.0))

        pub second-room : (st'.tombstone.count * dot_size ≤ length st'.tombstone.bytes) × (split + st'.tombstone.count * dot_size ≤ length dead)
        second-room = (tombstone-fits st' store' sized' f', omega (arith, both-fit, length-dead))

        module _ (dead' : Bytes) (end : ℕ) (last : end ≡ split + st'.tombstone.count * dot_size) (put' : dead' ≡ put_at dead split second) where
          pub end_fits : end ≤ length dead'
          end_fits = omega (arith, second-room.1, ap length put', length-put dead second split (omega (arith, second-room.1, long.1)))

          pub stand : EndToEnd (take end dead') split
          stand =
              end_to_end_lem first second st.tombstone.count st'.tombstone.count long.0 long.1 zeros dead dead' split end both-fit put next put' last
              (tombstone-ascends st store f) (tombstone-ascends st' store' f')

          sides : sides_of (take end dead') split st.clock.words st'.clock.words ≡ sides_in st st'
          sides = sides_are first second st.tombstone.count st'.tombstone.count long.0 long.1 zeros dead dead' split end both-fit put next put' last st.clock.words st'.clock.words

          pub merged-listing : (out out' : Bytes) (done : LinesPut) (r : Listed) → r ≡ listed_of done
              → PutsAll st.name.len (sides_of (take end dead') split st.clock.words st'.clock.words) (used_part st store) (used_part st' store') out out' done
              → Lists (merge_result st store st' store' out) out' r
          unfolding merge_result
          merged-listing out out' done r a p =
              let ls : List Line = merge_lines st store st' store' in
              let whole = ap (λ (x : Sides). merged_key_lines st.name.len x (used_part st store) (used_part st' store')) sides ∙ lines_are in
              rw (a, f, f', same, bytes_lawful.self (name_of st))
              (lists_or_short st store out out' ls done (output_short out (listing_bytes ls)) refl (subst (λ (l : List Line). PutsWanted true l out out' done) whole p))
