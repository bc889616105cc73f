-- Merged reads: what the merge of two lists, and that it is what the rule lists over the messages of both. Assumes nothing.
use mathlib.Core.Path.{◌≡◌, sym, ap, subst}
use mathlib.Core.Logic.{◌↔◌, ◌⊎◌, inl, inr, ⊎_elim, ⊎_map}
use mathlib.Core.Bool.{Bool, not}
use mathlib.Core.List.Memᴰ
use mathlib.Core.List.{List, [], ◌++◌, flat_map}
use lib.Dec.{T, T_not}
use Rattle.wire.specs.Lists.{◌∈◌, keep, member, Ascending}
use Rattle.wire.proofs.Tests.{decide, T_either, T_left, T_right}
use Rattle.wire.proofs.Lists.{member-append, keep-member, member-keep, flat_map_mono, member-sound, member-complete, insert_all-member, member-insert_all, ascending-insert_all, ascending-keep, ascending_unique}
use Rattle.dots.specs.declared.Dot.{Dot}
use Rattle.dots.specs.Entries.{Entry, entry, compare_entries}
use Rattle.dots.specs.Message.{Message, context_of, pairs_of}
use Rattle.dots.proofs.Orders.{entries}
use Rattle.replica.specs.Clock.{ClockModel}
use Rattle.replica.specs.Rule.{pairs, removed, Paired, kept, live_pairs, OneLabelPerDot}
use Rattle.replica.specs.Read.{Read, kept_beside, merged_entries}
use Rattle.replica.proofs.Listings.{flat_map_append, fewer, live_pair, pair_live, live_pairs_are}

module _ (C : ClockModel) where
  abbrev pub Ascends : Read C → Type 0
  Ascends r = Ascending compare_entries r.listed

  -- ---- what a merge lists

  -- listed by one, and listed by the other or unseen there
  abbrev pub Beside : Read C → Read C → Entry → Type 0
  Beside r t e = (e ∈ r.listed) × ((e ∈ t.listed) ⊎ T (not (C.sees t.clock e.dot)))

  kept_beside_lem : (r t : Read C) (e : Entry) → (e ∈ keep (kept_beside C t) r.listed) ↔ Beside r t e
  kept_beside_lem r t e = (
    λ k. let w = keep-member (kept_beside C t) r.listed k in (w.0, ⊎_map (member-sound compare_entries entries t.listed) (λ u. u) (T_either here unseen w.1)),
    λ w. member-keep (kept_beside C t) r.listed w.0 (⊎_elim (λ m. T_left here unseen (member-complete compare_entries entries t.listed m)) (T_right here unseen) w.1),
  )
    where
      here : Bool
      here = member compare_entries e t.listed

      unseen : Bool
      unseen = not (C.sees t.clock e.dot)

  pub merged-member : (r t : Read C) (e : Entry) → (e ∈ merged_entries C r t) ↔ (Beside r t e ⊎ Beside t r e)
  unfolding merged_entries
  merged-member r t e = (
    λ k. ⊎_map (kept_beside_lem r t e).0 (kept_beside_lem t r e).0 (insert_all-member compare_entries entries (keep (kept_beside C t) r.listed) (keep (kept_beside C r) t.listed) k),
    λ w. member-insert_all compare_entries entries (keep (kept_beside C t) r.listed) (keep (kept_beside C r) t.listed) (⊎_map (kept_beside_lem r t e).1 (kept_beside_lem t r e).1 w),
  )

  pub merged-ascends : (r t : Read C) → Ascends t → Ascending compare_entries (merged_entries C r t)
  unfolding merged_entries
  merged-ascends r t up =
      ascending-insert_all compare_entries entries (keep (kept_beside C t) r.listed) (keep (kept_beside C r) t.listed)
      (ascending-keep compare_entries entries (kept_beside C r) t.listed up)

  -- it does not matter which is first
  pub merge_symmetric : (r t : Read C) → Ascends r → Ascends t → merged_entries C r t ≡ merged_entries C t r
  merge_symmetric r t up up' =
      ascending_unique compare_entries entries (merged_entries C r t) (merged_entries C t r) (merged-ascends r t up') (merged-ascends t r up) (turned r t) (turned t r)
    where
      turned : (x y : Read C) (e : Entry) → e ∈ merged_entries C x y → e ∈ merged_entries C y x
      turned x y e k = (merged-member y x e).1 (⊎_elim inr inl ((merged-member x y e).0 k))

  -- merged with itself a read lists what it lists
  pub merge-itself : (r : Read C) → Ascends r → merged_entries C r r ≡ r.listed
  merge-itself r up =
      ascending_unique compare_entries entries (merged_entries C r r) r.listed (merged-ascends r r up) up
      (λ e k. ⊎_elim (λ w. w.0) (λ w. w.0) ((merged-member r r e).0 k)) (λ e k. (merged-member r r e).1 (inl (k, inl k)))

  -- ---- what a read stands for

  -- just what the rule says of some messages
  pub record Represents (ms : List Message) (r : Read C) : Type 0 where
    pub clock-is : (d : Dot) → T (C.sees r.clock d) ↔ (Paired ms d ⊎ (d ∈ removed ms))
    pub listed-is : r.listed ≡ live_pairs ms

  abbrev live_in : {ms : List Message} {r : Read C} → Represents ms r → (e : Entry) → e ∈ r.listed → (e ∈ pairs ms) × (e.dot ∈ removed ms → ⊥)
  live_in {ms} p e k = pair_live ms e (subst (λ es. e ∈ es) p.listed-is k)

  module _ {ms ns : List Message} {r t : Read C} (p : Represents ms r) (q : Represents ns t) where
    left : {A : Type 0} (f : Message → List A) (x : A) → x ∈ flat_map f ms → x ∈ flat_map f (ms ++ ns)
    left f x k = (flat_map_append f ms ns).1 (inl k)

    right : {A : Type 0} (f : Message → List A) (x : A) → x ∈ flat_map f ns → x ∈ flat_map f (ms ++ ns)
    right f x k = (flat_map_append f ms ns).1 (inr k)

    -- listed by the first, and by the second or unseen there: a pair, and removed at neither
    kept-live : (e : Entry) → Beside r t e → (e ∈ pairs (ms ++ ns)) × (e.dot ∈ removed (ms ++ ns) → ⊥)
    kept-live e w = (left pairs_of e a.0, λ g. ⊎_elim a.1 (λ n. ⊎_elim (λ m. (live_in q e m).1 n) (unseen n) w.1) ((flat_map_append context_of ms ns).0 g))
      where
        a : (e ∈ pairs ms) × (e.dot ∈ removed ms → ⊥)
        a = live_in p e w.0

        unseen : e.dot ∈ removed ns → T (not (C.sees t.clock e.dot)) → ⊥
        unseen n u = T_not (C.sees t.clock e.dot) u ((q.clock-is e.dot).1 (inr n))

    -- a pair of the first, removed at neither, that the second has seen is there under the same label
    live-kept : OneLabelPerDot (pairs (ms ++ ns)) → (e : Entry) → e ∈ pairs (ms ++ ns) → (e.dot ∈ removed (ms ++ ns) → ⊥) → e ∈ pairs ms → Beside r t e
    live-kept single e k n m =
        (subst (λ es. e ∈ es) (sym p.listed-is) (live_pair ms e m (λ g. n (left context_of e.dot g))), ⊎_map (λ u. there ((q.clock-is e.dot).0 u)) (λ u. u) (decide (C.sees t.clock e.dot)))
      where
        there : Paired ns e.dot ⊎ (e.dot ∈ removed ns) → e ∈ t.listed
        there (inl w) =
            let same = single e.dot e.label w.0 k (right pairs_of (entry w.0 e.dot) w.1) in
            subst (λ es. e ∈ es) (sym q.listed-is) (live_pair ns e (Memᴰ.cast (ap (λ l. entry l e.dot) same) w.1) (λ g. n (right context_of e.dot g)))
        there (inr g) = absurd (n (right context_of e.dot g))

  swapped : (ms ns : List Message) (m : Message) → m ∈ ms ++ ns → m ∈ ns ++ ms
  swapped ms ns m k = ⊎_elim (Memᴰ.append_right ns) (Memᴰ.append_left ms) (member-append.0 k)

  -- the merge of two reads lists what the rule does over all that either stands for
  pub merged-represents : {ms ns : List Message} {r t : Read C} → Represents ms r → Represents ns t → OneLabelPerDot (pairs (ms ++ ns)) → merged_entries C r t ≡ live_pairs (ms ++ ns)
  merged-represents {ms} {ns} {r} {t} p q single = live_pairs_are (ms ++ ns) (merged_entries C r t) (merged-ascends r t second-ascends) sound complete
    where
      second-ascends : Ascends t
      second-ascends = subst (Ascending compare_entries) (sym q.listed-is) (ascending-insert_all compare_entries entries (keep (kept ns) (pairs ns)) [] tt)

      sound : (e : Entry) → e ∈ merged_entries C r t → (e ∈ pairs (ms ++ ns)) × (e.dot ∈ removed (ms ++ ns) → ⊥)
      sound e k = ⊎_elim (kept-live p q e)
          (λ w. let a = kept-live q p e w in (flat_map_mono pairs_of (swapped ns ms) e a.0, λ g. a.1 (flat_map_mono context_of (swapped ms ns) e.dot g)))
          ((merged-member r t e).0 k)

      complete : (e : Entry) → e ∈ pairs (ms ++ ns) → (e.dot ∈ removed (ms ++ ns) → ⊥) → e ∈ merged_entries C r t
      complete e k n = (merged-member r t e).1 (⊎_map (live-kept p q single e k n)
          (live-kept q p (fewer (swapped ns ms) single) e (flat_map_mono pairs_of (swapped ms ns) e k) (λ g. n (flat_map_mono context_of (swapped ns ms) e.dot g)))
          ((flat_map_append pairs_of ms ns).0 k))
