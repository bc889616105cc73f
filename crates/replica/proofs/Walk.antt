-- Two ascending lists walked side by side: each step of the walk is a step of their union, `insert_all`. And the merge of two racks, told key by key over
-- all that either stores, and step by step. Assumes nothing.
use mathlib.Core.Path.{◌≡◌, refl, sym, ap, ◌∙◌, subst}
use mathlib.Core.Logic.{◌↔◌, ◌⊎◌, inl, inr, ⊎_elim, ⊎_map}
use mathlib.Core.Bool.{Bool, true, false, not, ◌&&◌, ◌||◌}
use mathlib.Core.List.Memᴰ
use mathlib.Core.List.{List, [], ◌∷◌}
use Prim.Native.Nat.{Ordering}
use lib.Dec.{T, compare_is_eq}
use Rattle.wire.specs.Lists.{◌∈◌, cons_if, keep, member, insert_all, Less, Ascending}
use Rattle.wire.proofs.Tests.{untrue, pass, T_and, T_both}
use Rattle.wire.proofs.Lists.{Lawful, tie-is, irreflexive, member_cons, keep-member, member-keep, member-sound, member-complete, insert_all-member, member-insert_all, ascending-insert_all, ascending-keep, ascending_unique}
use Rattle.dots.specs.declared.Dot.{Dot}
use Rattle.dots.specs.Dots.{compare_dots}
use Rattle.dots.specs.Entries.{Entry, compare_entries}
use Rattle.dots.proofs.Orders.{entries}
use Rattle.replica.specs.Clock.{ClockModel}
use Rattle.replica.specs.Read.{Read, merged_entries}
use Rattle.replica.proofs.Merges.{Beside, merged-member, merged-ascends}

abbrev pub BelowAll : {A : Type 0} → (A → A → Ordering) → A → List A → Type 0
BelowAll {A} compare x ys = (z : A) → z ∈ ys → Less compare x z

module _ {A : Type 0} (compare : A → A → Ordering) (order : Lawful compare) where
  -- what is below the head of an ascending list is below all of it
  pub below_all : (x y : A) (ys : List A) → Ascending compare (y ∷ ys) → Less compare x y → BelowAll compare x (y ∷ ys)
  below_all x y ys up h z m = by (Memᴰ.cases_cons m)
    where
      by : (z ≡ y) ⊎ (z ∈ ys) → Less compare x z
      by (inl e) = subst (Less compare x) (sym e) h
      by (inr k) = order.chain x y z h (up.0 z k)

  -- ---- the union of two ascending lists

  below-union : (x : A) (xs ys : List A) → BelowAll compare x xs → BelowAll compare x ys → BelowAll compare x (insert_all compare xs ys)
  below-union x xs ys low low' z m = ⊎_elim (low z) (low' z) (insert_all-member compare order xs ys m)

  -- an ascending list with the members of both is their union
  same-union : (zs xs ys : List A) → Ascending compare zs → Ascending compare ys → ((z : A) → z ∈ zs → (z ∈ xs) ⊎ (z ∈ ys)) → ((z : A) → (z ∈ xs) ⊎ (z ∈ ys) → z ∈ zs) → insert_all compare xs ys ≡ zs
  same-union zs xs ys up up' to from =
      ascending_unique compare order (insert_all compare xs ys) zs (ascending-insert_all compare order xs ys up') up
      (λ z m. from z (insert_all-member compare order xs ys m)) (λ z m. member-insert_all compare order xs ys (to z m))

  -- the first one's head is below all of the second
  pub union-lower : (x : A) (xs ys : List A) → Ascending compare (x ∷ xs) → Ascending compare ys → BelowAll compare x ys → insert_all compare (x ∷ xs) ys ≡ x ∷ insert_all compare xs ys
  union-lower x xs ys up up' low = same-union (x ∷ insert_all compare xs ys) (x ∷ xs) ys (below-union x xs ys up.0 low, ascending-insert_all compare order xs ys up') up'
      (λ z m. ⊎_elim (λ e. inl (Memᴰ.head e)) (λ k. ⊎_map Memᴰ.tail (λ n. n) (insert_all-member compare order xs ys k)) (Memᴰ.cases_cons m))
      (λ z. ⊎_elim (λ m. member_cons (⊎_map (λ e. e) (λ k. member-insert_all compare order xs ys (inl k)) (Memᴰ.cases_cons m))) (λ m. Memᴰ.tail (member-insert_all compare order xs ys (inr m))))

  -- the second one's head is below all of the first
  pub union-higher : (y : A) (xs ys : List A) → Ascending compare xs → Ascending compare (y ∷ ys) → BelowAll compare y xs → insert_all compare xs (y ∷ ys) ≡ y ∷ insert_all compare xs ys
  union-higher y xs ys up up' low = same-union (y ∷ insert_all compare xs ys) xs (y ∷ ys) (below-union y xs ys low up'.0, ascending-insert_all compare order xs ys up'.1) up'
      (λ z m. ⊎_elim (λ e. inr (Memᴰ.head e)) (λ k. ⊎_map (λ n. n) Memᴰ.tail (insert_all-member compare order xs ys k)) (Memᴰ.cases_cons m))
      (λ z. ⊎_elim (λ m. Memᴰ.tail (member-insert_all compare order xs ys (inl m))) (λ m. member_cons (⊎_map (λ e. e) (λ k. member-insert_all compare order xs ys (inr k)) (Memᴰ.cases_cons m))))

  -- ---- the walk

  -- the second list is at its end
  pub walk_first : (xs : List A) → Ascending compare xs → insert_all compare xs [] ≡ xs
  walk_first xs up = same-union xs xs [] up tt (λ z m. inl m) (λ z. ⊎_elim (λ m. m) (λ m. absurd (Memᴰ.not-nil m)))

  module _ (x : A) (xs : List A) (up : Ascending compare (x ∷ xs)) (y : A) (ys : List A) (up' : Ascending compare (y ∷ ys)) where
    -- the first one's head sorts lower
    pub walk-lower : Less compare x y → insert_all compare (x ∷ xs) (y ∷ ys) ≡ x ∷ insert_all compare xs (y ∷ ys)
    walk-lower h = union-lower x xs (y ∷ ys) up up' (below_all x y ys up' h)

    -- a tie
    pub walk-tie : x ≡ y → insert_all compare (x ∷ xs) (y ∷ ys) ≡ x ∷ insert_all compare xs ys
    walk-tie e = same-union (x ∷ insert_all compare xs ys) (x ∷ xs) (y ∷ ys) (below-union x xs ys up.0 low, ascending-insert_all compare order xs ys up'.1) up'
        (λ z m. ⊎_elim (λ q. inl (Memᴰ.head q)) (λ k. ⊎_map Memᴰ.tail Memᴰ.tail (insert_all-member compare order xs ys k)) (Memᴰ.cases_cons m))
        (λ z. ⊎_elim (λ m. member_cons (⊎_map (λ q. q) (λ k. member-insert_all compare order xs ys (inl k)) (Memᴰ.cases_cons m)))
        (λ m. member_cons (⊎_map (λ q. q ∙ sym e) (λ k. member-insert_all compare order xs ys (inr k)) (Memᴰ.cases_cons m))))
      where
        low : BelowAll compare x ys
        low z m = subst (λ w. Less compare w z) (sym e) (up'.0 z m)

    -- the second one's head sorts lower
    pub walk-higher : Less compare y x → insert_all compare (x ∷ xs) (y ∷ ys) ≡ y ∷ insert_all compare (x ∷ xs) ys
    walk-higher h = union-higher y (x ∷ xs) ys up up' (below_all y x xs up h)

  -- ---- which of two lists an element stands in

  stands_first : (x : A) (xs : List A) → member compare x (x ∷ xs) ≡ true
  unfolding member
  stands_first x xs = rw (order.self x)

  stands_nowhere : (x : A) (ys : List A) → BelowAll compare x ys → member compare x ys ≡ false
  stands_nowhere x ys low = untrue (member compare x ys) (λ t. irreflexive compare order x (low x (member-sound compare order ys (pass t))))

  stands_later : (x z : A) (xs : List A) → Less compare x z → member compare z (x ∷ xs) ≡ member compare z xs
  unfolding member
  stands_later x z xs h = rw (untrue (compare_is_eq (compare z x)) (λ t. irreflexive compare order x (subst (Less compare x) (order.tie z x (tie-is (compare z x) (pass t))) h)))

keep_same : {A : Type 0} (p q : A → Bool) (xs : List A) → ((z : A) → z ∈ xs → p z ≡ q z) → keep p xs ≡ keep q xs
unfolding keep
keep_same p q [] h = refl
keep_same p q (x ∷ xs) h = rw (h x (Memᴰ.head refl), keep_same p q xs (λ z m. h z (Memᴰ.tail m)))

-- ---- the merge of two racks

-- "kept if both list it under that label, or if one lists it and the other's clock hasn't seen it": whether each lists a dot, whether each has seen it
abbrev pub kept_dot : Bool → Bool → Bool → Bool → Bool
kept_dot here there seen_here seen_there = (here && there) || ((here && not seen_there) || (there && not seen_here))

-- the same, of one beside the other
kept_beside_lem : (a b s t : Bool) → T (kept_dot a b s t) ↔ ((T a × (T b ⊎ T (not t))) ⊎ (T b × (T a ⊎ T (not s))))
kept_beside_lem a b s t = (to a b s t, from a b s t)
  where
    to : (a b s t : Bool) → T (kept_dot a b s t) → (T a × (T b ⊎ T (not t))) ⊎ (T b × (T a ⊎ T (not s)))
    to true true s t u = inl (tt, inl tt)
    to true false s true u = absurd u
    to true false s false u = inl (tt, inr tt)
    to false true true t u = absurd u
    to false true false t u = inr (tt, inr tt)
    to false false s t u = absurd u

    from : (a b s t : Bool) → (T a × (T b ⊎ T (not t))) ⊎ (T b × (T a ⊎ T (not s))) → T (kept_dot a b s t)
    from true true s t w = tt
    from true false s true w = ⊎_elim (λ p. ⊎_elim (λ z. z) (λ z. z) p.1) (λ p. p.0) w
    from true false s false w = tt
    from false true true t w = ⊎_elim (λ p. p.0) (λ p. ⊎_elim (λ z. z) (λ z. z) p.1) w
    from false true false t w = tt
    from false false s t w = ⊎_elim (λ p. p.0) (λ p. p.0) w

abbrev pub live_key : List Dot → Entry → Bool
live_key tombstone e = not (member compare_dots e.dot tombstone)

abbrev pub lists_key : List Dot → List Entry → Entry → Bool
lists_key tombstone keys e = member compare_entries e keys && live_key tombstone e

listed-is : (tombstone : List Dot) (keys : List Entry) (e : Entry) → (e ∈ keep (live_key tombstone) keys) ↔ T (lists_key tombstone keys e)
listed-is tombstone keys e = (
  λ k. let b = keep-member (live_key tombstone) keys k in T_and (member compare_entries e keys) (live_key tombstone e) (member-complete compare_entries entries keys b.0) b.1,
  λ t. let b = T_both (member compare_entries e keys) (live_key tombstone e) t in member-keep (live_key tombstone) keys (member-sound compare_entries entries keys b.0) b.1,
)

module _ (C : ClockModel) where
  -- the read of a clock, a tombstone and ascending keys; of a controller's state it is `read_of`
  abbrev pub side_of : C.Clock → List Dot → List Entry → Read C
  side_of clock tombstone keys = record { clock = clock; listed = keep (live_key tombstone) keys }

  told : (v w : C.Clock) (dead dead' : List Dot) (xs ys : List Entry) (e : Entry)
      → Beside C (side_of v dead xs) (side_of w dead' ys) e ↔ (T (lists_key dead xs e) × (T (lists_key dead' ys e) ⊎ T (not (C.sees w e.dot))))
  told v w dead dead' xs ys e = (
    λ b. ((listed-is dead xs e).0 b.0, ⊎_map (listed-is dead' ys e).0 (λ u. u) b.1),
    λ b. ((listed-is dead xs e).1 b.0, ⊎_map (listed-is dead' ys e).1 (λ u. u) b.1),
  )

  module _ (v w : C.Clock) (dead dead' : List Dot) where
    -- whether a key of either is kept
    abbrev pub keeps_key : List Entry → List Entry → Entry → Bool
    keeps_key xs ys e = kept_dot (lists_key dead xs e) (lists_key dead' ys e) (C.sees v e.dot) (C.sees w e.dot)

    abbrev pub merged_from : List Entry → List Entry → List Entry
    merged_from xs ys = merged_entries C (side_of v dead xs) (side_of w dead' ys)

    -- told key by key over both stores
    pub merged-keys : (xs ys : List Entry) → Ascending compare_entries ys → merged_from xs ys ≡ keep (keeps_key xs ys) (insert_all compare_entries xs ys)
    merged-keys xs ys up =
        ascending_unique compare_entries entries (merged_from xs ys) (keep (keeps_key xs ys) (insert_all compare_entries xs ys))
        (merged-ascends C (side_of v dead xs) (side_of w dead' ys) (ascending-keep compare_entries entries (live_key dead') ys up))
        (ascending-keep compare_entries entries (keeps_key xs ys) (insert_all compare_entries xs ys) (ascending-insert_all compare_entries entries xs ys up)) to from
      where
        either : (e : Entry) → (e ∈ merged_from xs ys) ↔ T (keeps_key xs ys e)
        either e =
            let member = merged-member C (side_of v dead xs) (side_of w dead' ys) e in
            let kept = kept_beside_lem (lists_key dead xs e) (lists_key dead' ys e) (C.sees v e.dot) (C.sees w e.dot) in (
              λ k. kept.1 (⊎_map (told v w dead dead' xs ys e).0 (told w v dead' dead ys xs e).0 (member.0 k)),
              λ t. member.1 (⊎_map (told v w dead dead' xs ys e).1 (told w v dead' dead ys xs e).1 (kept.0 t)),
            )

        -- each stores what it lists
        stored : (e : Entry) → e ∈ merged_from xs ys → e ∈ insert_all compare_entries xs ys
        stored e k =
            member-insert_all compare_entries entries xs ys
            (⊎_map (λ b. (keep-member (live_key dead) xs b.0).0) (λ b. (keep-member (live_key dead') ys b.0).0) ((merged-member C (side_of v dead xs) (side_of w dead' ys) e).0 k))

        to : (e : Entry) → e ∈ merged_from xs ys → e ∈ keep (keeps_key xs ys) (insert_all compare_entries xs ys)
        to e k = member-keep (keeps_key xs ys) (insert_all compare_entries xs ys) (stored e k) ((either e).0 k)

        from : (e : Entry) → e ∈ keep (keeps_key xs ys) (insert_all compare_entries xs ys) → e ∈ merged_from xs ys
        from e k = (either e).1 (keep-member (keeps_key xs ys) (insert_all compare_entries xs ys) k).1

    -- ---- told step by step, as two ascending stores are walked side by side

    pub merged-none : merged_from [] [] ≡ []
    unfolding merged_entries keep insert_all
    merged-none = refl

    -- the rest is kept as it was
    rest-kept : (e : Entry) (xs xs' ys ys' : List Entry) → BelowAll compare_entries e xs → Ascending compare_entries ys → BelowAll compare_entries e ys
        → ((z : Entry) → Less compare_entries e z → (member compare_entries z xs' ≡ member compare_entries z xs) × (member compare_entries z ys' ≡ member compare_entries z ys))
        → keep (keeps_key xs' ys') (insert_all compare_entries xs ys) ≡ merged_from xs ys
    rest-kept e xs xs' ys ys' low up low' same =
        keep_same (keeps_key xs' ys') (keeps_key xs ys) (insert_all compare_entries xs ys)
        (λ z m. let s = same z (⊎_elim (low z) (low' z) (insert_all-member compare_entries entries xs ys m)) in rw (s.0, s.1))
        ∙ sym (merged-keys xs ys up)

    -- a key of the first rack alone
    pub merged-lower : (x : Entry) (xs ys : List Entry) → Ascending compare_entries (x ∷ xs) → Ascending compare_entries ys → BelowAll compare_entries x ys
        → merged_from (x ∷ xs) ys ≡ cons_if (kept_dot (live_key dead x) false (C.sees v x.dot) (C.sees w x.dot)) x (merged_from xs ys)
    unfolding keep
    merged-lower x xs ys up up' low =
        merged-keys (x ∷ xs) ys up'
        ∙ ap (keep (keeps_key (x ∷ xs) ys)) (union-lower compare_entries entries x xs ys up up' low)
        ∙ rw (
          stands_first compare_entries entries x xs,
          stands_nowhere compare_entries entries x ys low,
          rest-kept x xs (x ∷ xs) ys ys up.0 up' low (λ z h. (stands_later compare_entries entries x z xs h, refl)),
        )

    -- one of the second alone
    pub merged-higher : (y : Entry) (xs ys : List Entry) → Ascending compare_entries xs → Ascending compare_entries (y ∷ ys) → BelowAll compare_entries y xs
        → merged_from xs (y ∷ ys) ≡ cons_if (kept_dot false (live_key dead' y) (C.sees v y.dot) (C.sees w y.dot)) y (merged_from xs ys)
    unfolding keep
    merged-higher y xs ys up up' low =
        merged-keys xs (y ∷ ys) up'
        ∙ ap (keep (keeps_key xs (y ∷ ys))) (union-higher compare_entries entries y xs ys up up' low)
        ∙ rw (
          stands_first compare_entries entries y ys,
          stands_nowhere compare_entries entries y xs low,
          rest-kept y xs xs ys (y ∷ ys) low up'.1 up'.0 (λ z h. (refl, stands_later compare_entries entries y z ys h)),
        )

    -- one of both
    pub merged-tie : (x : Entry) (xs ys : List Entry) → Ascending compare_entries (x ∷ xs) → Ascending compare_entries (x ∷ ys)
        → merged_from (x ∷ xs) (x ∷ ys) ≡ cons_if (kept_dot (live_key dead x) (live_key dead' x) (C.sees v x.dot) (C.sees w x.dot)) x (merged_from xs ys)
    unfolding keep
    merged-tie x xs ys up up' =
        merged-keys (x ∷ xs) (x ∷ ys) up'
        ∙ ap (keep (keeps_key (x ∷ xs) (x ∷ ys))) (walk-tie compare_entries entries x xs up x ys up' refl)
        ∙ rw (
          stands_first compare_entries entries x xs,
          stands_first compare_entries entries x ys,
          rest-kept x xs (x ∷ xs) ys (x ∷ ys) up.0 up'.1 up'.0 (λ z h. (stands_later compare_entries entries x z xs h, stands_later compare_entries entries x z ys h)),
        )
