-- Lists as sets: what membership says of each list function, and that an ascending list is known by its members. Assumes nothing.
use mathlib.Core.Path.{◌≡◌, refl, sym, ◌∙◌, ap, subst}
use mathlib.Core.Logic.{◌↔◌, ◌⊎◌, inl, inr, ⊎_elim, ⊎_map}
use mathlib.Core.Bool.{Bool, true, false, not, ◌||◌}
use mathlib.Core.List.Memᴰ
use mathlib.Core.List.{List, [], ◌∷◌, ◌++◌, flat_map}
use Prim.Native.Nat.{Ordering}
use lib.Dec.{T, T_not, compare_is_eq}
use Rattle.wire.specs.Lists.{◌∈◌, cons_if, keep, any, all, is_lt, place, member, Less, Ascending, ascends_from, ascends, insert, insert_all}
use Rattle.wire.proofs.Tests.{both_left, both_right, pass, fail, T_either, T_left, T_right}

pub tie-is : (o : Ordering) → T (compare_is_eq o) → o ≡ Ordering.eq
tie-is Ordering.lt t = absurd t
tie-is Ordering.eq t = refl
tie-is Ordering.gt t = absurd t

pub lt_is : (o : Ordering) → is_lt o ≡ true → o ≡ Ordering.lt
lt_is Ordering.lt e = refl
lt_is Ordering.eq e = absurd (pass e)
lt_is Ordering.gt e = absurd (pass e)

module _ {A : Type 0} where
  pub member_cons : {x y : A} {ys : List A} → (x ≡ y) ⊎ (x ∈ ys) → x ∈ y ∷ ys
  member_cons (inl e) = Memᴰ.head e
  member_cons (inr m) = Memᴰ.tail m

  pub member-append : {x : A} {xs ys : List A} → (x ∈ xs ++ ys) ↔ ((x ∈ xs) ⊎ (x ∈ ys))
  member-append {x} {xs} {ys} = (Memᴰ.append_cases xs, ⊎_elim (Memᴰ.append_left ys) (Memᴰ.append_right xs))

  module _ (p : A → Bool) where
    pub keep-member : {x : A} (ys : List A) → x ∈ keep p ys → (x ∈ ys) × T (p x)
    unfolding keep
    keep-member [] m = absurd (Memᴰ.not-nil m)
    keep-member {x} (y ∷ ys) m = step (p y) refl (keep-member ys) m
      where
        stored : p y ≡ true → (x ∈ keep p ys → (x ∈ ys) × T (p x)) → (x ≡ y) ⊎ (x ∈ keep p ys) → (x ∈ y ∷ ys) × T (p x)
        stored e below (inl q) = (Memᴰ.head q, pass (ap p q ∙ e))
        stored e below (inr m') = let r = below m' in (Memᴰ.tail r.0, r.1)

        step : (b : Bool) → p y ≡ b → (x ∈ keep p ys → (x ∈ ys) × T (p x)) → x ∈ cons_if b y (keep p ys) → (x ∈ y ∷ ys) × T (p x)
        step true e below m' = stored e below (Memᴰ.cases_cons m')
        step false e below m' = let r = below m' in (Memᴰ.tail r.0, r.1)

    pub member-keep : {x : A} (ys : List A) → x ∈ ys → T (p x) → x ∈ keep p ys
    unfolding keep
    member-keep [] m t = absurd (Memᴰ.not-nil m)
    member-keep {x} (y ∷ ys) m t = step (p y) refl (λ m'. member-keep ys m' t) (Memᴰ.cases_cons m)
      where
        step : (b : Bool) → p y ≡ b → (x ∈ ys → x ∈ keep p ys) → (x ≡ y) ⊎ (x ∈ ys) → x ∈ cons_if b y (keep p ys)
        step true e below c = member_cons (⊎_map (λ q. q) below c)
        step false e below (inl q) = absurd (fail (ap p q ∙ e) t)
        step false e below (inr m') = below m'

    pub keep_all : (ys : List A) → ((y : A) → y ∈ ys → p y ≡ true) → keep p ys ≡ ys
    unfolding keep
    keep_all [] h = refl
    keep_all (y ∷ ys) h = rw (h y (Memᴰ.head refl)) (ap (λ (t : List A). y ∷ t) (keep_all ys (λ z m. h z (Memᴰ.tail m))))

    pub any-member : {x : A} (ys : List A) → x ∈ ys → T (p x) → T (any p ys)
    unfolding any
    any-member [] m t = absurd (Memᴰ.not-nil m)
    any-member {x} (y ∷ ys) m t = step (λ m'. any-member ys m' t) (Memᴰ.cases_cons m)
      where
        step : (x ∈ ys → T (any p ys)) → (x ≡ y) ⊎ (x ∈ ys) → T (p y || any p ys)
        step below (inl q) = T_left (p y) (any p ys) (subst (λ z. T (p z)) q t)
        step below (inr m') = T_right (p y) (any p ys) (below m')

    pub any_found : (ys : List A) → T (any p ys) → (x : A) × (x ∈ ys) × T (p x)
    unfolding any
    any_found [] t = absurd t
    any_found (y ∷ ys) t = step (any_found ys) (T_either (p y) (any p ys) t)
      where
        step : (T (any p ys) → (x : A) × (x ∈ ys) × T (p x)) → T (p y) ⊎ T (any p ys) → (x : A) × (x ∈ y ∷ ys) × T (p x)
        step below (inl q) = (y, Memᴰ.head refl, q)
        step below (inr r) = let w = below r in (w.0, Memᴰ.tail w.1, w.2)

    pub all-member : (ys : List A) → all p ys ≡ true → (x : A) → x ∈ ys → p x ≡ true
    unfolding all
    all-member [] t x m = absurd (Memᴰ.not-nil m)
    all-member (y ∷ ys) t x m = step (all-member ys (both_right (p y) (all p ys) t) x) (Memᴰ.cases_cons m)
      where
        step : (x ∈ ys → p x ≡ true) → (x ≡ y) ⊎ (x ∈ ys) → p x ≡ true
        step below (inl q) = ap p q ∙ both_left (p y) (all p ys) t
        step below (inr m') = below m'

    pub member-all : (ys : List A) → ((x : A) → x ∈ ys → p x ≡ true) → all p ys ≡ true
    unfolding all
    member-all [] h = refl
    member-all (y ∷ ys) h = rw (h y (Memᴰ.head refl), member-all ys (λ x m. h x (Memᴰ.tail m)))

module _ {A B : Type 0} (f : A → List B) where
  pub flat_map_member : {y : B} (xs : List A) → y ∈ flat_map f xs → (x : A) × (x ∈ xs) × (y ∈ f x)
  unfolding flat_map
  flat_map_member [] m = absurd (Memᴰ.not-nil m)
  flat_map_member {y} (x ∷ xs) m = step (flat_map_member xs) (Memᴰ.append_cases (f x) m)
    where
      step : (y ∈ flat_map f xs → (x' : A) × (x' ∈ xs) × (y ∈ f x')) → (y ∈ f x) ⊎ (y ∈ flat_map f xs) → (x' : A) × (x' ∈ x ∷ xs) × (y ∈ f x')
      step below (inl m') = (x, Memᴰ.head refl, m')
      step below (inr m') = let w = below m' in (w.0, Memᴰ.tail w.1, w.2)

  pub member_flat_map : {x : A} {y : B} (xs : List A) → x ∈ xs → y ∈ f x → y ∈ flat_map f xs
  unfolding flat_map
  member_flat_map [] k m = absurd (Memᴰ.not-nil k)
  member_flat_map {x} {y} (z ∷ zs) k m = step (λ k'. member_flat_map zs k' m) (Memᴰ.cases_cons k)
    where
      step : (x ∈ zs → y ∈ flat_map f zs) → (x ≡ z) ⊎ (x ∈ zs) → y ∈ f z ++ flat_map f zs
      step below (inl q) = Memᴰ.append_left (flat_map f zs) (subst (λ w. y ∈ f w) q m)
      step below (inr k') = Memᴰ.append_right (f z) (below k')

  pub flat_map_mono : {xs xs' : List A} → ((x : A) → x ∈ xs → x ∈ xs') → (y : B) → y ∈ flat_map f xs → y ∈ flat_map f xs'
  flat_map_mono {xs} {xs'} sub y m = let w = flat_map_member xs m in member_flat_map xs' (sub w.0 w.1) w.2

-- what a comparison must meet to order its type
pub record Lawful {A : Type 0} (compare : A → A → Ordering) : Type 0 where
  pub self : (x : A) → compare x x ≡ Ordering.eq
  pub tie : (x y : A) → compare x y ≡ Ordering.eq → x ≡ y
  pub turn : (x y : A) → compare x y ≡ Ordering.gt → Less compare y x
  pub chain : (x y z : A) → Less compare x y → Less compare y z → Less compare x z

module _ {A : Type 0} (compare : A → A → Ordering) (order : Lawful compare) where
  pub irreflexive : (x : A) → Less compare x x → ⊥
  irreflexive x h = let z : ◌≡◌ {A = Bool} true false = cc (order.self x) in fail z tt

  -- the test of neighbours says that a list ascends
  pub ascends_from-ascending : (x : A) (ys : List A) → ascends_from compare x ys ≡ true → Ascending compare (x ∷ ys)
  unfolding ascends_from
  ascends_from-ascending x [] t = (λ z m. absurd (Memᴰ.not-nil m), tt)
  ascends_from-ascending x (y ∷ ys) t = step (ascends_from-ascending y ys (both_right (is_lt (compare x y)) (ascends_from compare y ys) t))
    where
      first : Less compare x y
      first = lt_is (compare x y) (both_left (is_lt (compare x y)) (ascends_from compare y ys) t)

      step : Ascending compare (y ∷ ys) → Ascending compare (x ∷ y ∷ ys)
      step rest = (λ z m. above z (Memᴰ.cases_cons m), rest)
        where
          above : (z : A) → (z ≡ y) ⊎ (z ∈ ys) → Less compare x z
          above z (inl q) = ap (compare x) q ∙ first
          above z (inr m) = order.chain x y z first (rest.0 z m)

  pub ascends-ascending : (xs : List A) → ascends compare xs ≡ true → Ascending compare xs
  unfolding ascends
  ascends-ascending [] t = tt
  ascends-ascending (x ∷ xs) t = ascends_from-ascending x xs t

  pub ascending-ascends : (xs : List A) → Ascending compare xs → ascends compare xs ≡ true
  unfolding ascends ascends_from
  ascending-ascends [] h = refl
  ascending-ascends (x ∷ []) h = refl
  ascending-ascends (x ∷ y ∷ ys) h = rw (h.0 y (Memᴰ.head refl)) (ascending-ascends (y ∷ ys) h.1)

  pub member-sound : {x : A} (ys : List A) → T (member compare x ys) → x ∈ ys
  unfolding member
  member-sound [] t = absurd t
  member-sound {x} (y ∷ ys) t = step (member-sound ys) (T_either (compare_is_eq (compare x y)) (member compare x ys) t)
    where
      step : (T (member compare x ys) → x ∈ ys) → T (compare_is_eq (compare x y)) ⊎ T (member compare x ys) → x ∈ y ∷ ys
      step below (inl q) = Memᴰ.head (order.tie x y (tie-is (compare x y) q))
      step below (inr r) = Memᴰ.tail (below r)

  pub member-complete : {x : A} (ys : List A) → x ∈ ys → T (member compare x ys)
  unfolding member
  member-complete [] m = absurd (Memᴰ.not-nil m)
  member-complete {x} (y ∷ ys) m = step (member-complete ys) (Memᴰ.cases_cons m)
    where
      step : (x ∈ ys → T (member compare x ys)) → (x ≡ y) ⊎ (x ∈ ys) → T (compare_is_eq (compare x y) || member compare x ys)
      step below (inl q) = T_left (compare_is_eq (compare x y)) (member compare x ys) (pass (ap compare_is_eq (ap (compare x) (sym q) ∙ order.self x)))
      step below (inr m') = T_right (compare_is_eq (compare x y)) (member compare x ys) (below m')

  pub not_member : {x : A} (ys : List A) → T (not (member compare x ys)) → x ∈ ys → ⊥
  not_member {x} ys t m = T_not (member compare x ys) t (member-complete ys m)

  pub insert-member : {z : A} (x : A) (ys : List A) → z ∈ insert compare x ys → (z ≡ x) ⊎ (z ∈ ys)
  unfolding insert
  insert-member x [] m = Memᴰ.cases_cons m
  insert-member {z} x (y ∷ ys) m = step (compare x y) (insert-member x ys) m
    where
      later : (z ∈ insert compare x ys → (z ≡ x) ⊎ (z ∈ ys)) → (z ≡ y) ⊎ (z ∈ insert compare x ys) → (z ≡ x) ⊎ (z ∈ y ∷ ys)
      later below (inl q) = inr (Memᴰ.head q)
      later below (inr m') = ⊎_map (λ q. q) Memᴰ.tail (below m')

      step : (o : Ordering) → (z ∈ insert compare x ys → (z ≡ x) ⊎ (z ∈ ys)) → z ∈ place o x y ys (insert compare x ys) → (z ≡ x) ⊎ (z ∈ y ∷ ys)
      step Ordering.lt below m' = Memᴰ.cases_cons m'
      step Ordering.eq below m' = inr m'
      step Ordering.gt below m' = later below (Memᴰ.cases_cons m')

  pub member-insert : {z : A} (x : A) (ys : List A) → (z ≡ x) ⊎ (z ∈ ys) → z ∈ insert compare x ys
  unfolding insert
  member-insert x [] c = member_cons c
  member-insert {z} x (y ∷ ys) c = step (compare x y) refl (member-insert x ys) c
    where
      later : ((z ≡ x) ⊎ (z ∈ ys) → z ∈ insert compare x ys) → (z ≡ y) ⊎ (z ∈ ys) → z ∈ y ∷ insert compare x ys
      later below (inl q) = Memᴰ.head q
      later below (inr m) = Memᴰ.tail (below (inr m))

      step : (o : Ordering) → compare x y ≡ o → ((z ≡ x) ⊎ (z ∈ ys) → z ∈ insert compare x ys) → (z ≡ x) ⊎ (z ∈ y ∷ ys) → z ∈ place o x y ys (insert compare x ys)
      step Ordering.lt e below c' = member_cons c'
      step Ordering.eq e below (inl q) = Memᴰ.head (q ∙ order.tie x y e)
      step Ordering.eq e below (inr m) = m
      step Ordering.gt e below (inl q) = Memᴰ.tail (below (inl q))
      step Ordering.gt e below (inr m) = later below (Memᴰ.cases_cons m)

  pub ascending-insert : (x : A) (ys : List A) → Ascending compare ys → Ascending compare (insert compare x ys)
  unfolding insert
  ascending-insert x [] h = (λ y m. absurd (Memᴰ.not-nil m), tt)
  ascending-insert x (y ∷ ys) h = step (compare x y) refl (ascending-insert x ys h.1)
    where
      before : Less compare x y → (z : A) → (z ≡ y) ⊎ (z ∈ ys) → Less compare x z
      before e z (inl q) = ap (compare x) q ∙ e
      before e z (inr m) = order.chain x y z e (h.0 z m)

      after : Less compare y x → (z : A) → (z ≡ x) ⊎ (z ∈ ys) → Less compare y z
      after e z (inl q) = ap (compare y) q ∙ e
      after e z (inr m) = h.0 z m

      step : (o : Ordering) → compare x y ≡ o → Ascending compare (insert compare x ys) → Ascending compare (place o x y ys (insert compare x ys))
      step Ordering.lt e below = (λ z m. before e z (Memᴰ.cases_cons m), h)
      step Ordering.eq e below = h
      step Ordering.gt e below = (λ z m. after (order.turn x y e) z (insert-member x ys m), below)

  pub insert_all-member : {z : A} (xs ys : List A) → z ∈ insert_all compare xs ys → (z ∈ xs) ⊎ (z ∈ ys)
  unfolding insert_all
  insert_all-member [] ys m = inr m
  insert_all-member {z} (x ∷ xs) ys m = ⊎_elim (λ k. inl (Memᴰ.tail k)) (λ k. ⊎_map Memᴰ.head (λ o. o) (insert-member x ys k)) (insert_all-member xs (insert compare x ys) m)

  pub member-insert_all : {z : A} (xs ys : List A) → (z ∈ xs) ⊎ (z ∈ ys) → z ∈ insert_all compare xs ys
  unfolding insert_all
  member-insert_all [] ys c = ⊎_elim (λ m. absurd (Memᴰ.not-nil m)) (λ m. m) c
  member-insert_all {z} (x ∷ xs) ys c = member-insert_all xs (insert compare x ys) (step c)
    where
      new : (z ≡ x) ⊎ (z ∈ xs) → (z ∈ xs) ⊎ (z ∈ insert compare x ys)
      new (inl q) = inr (member-insert x ys (inl q))
      new (inr m) = inl m

      step : (z ∈ x ∷ xs) ⊎ (z ∈ ys) → (z ∈ xs) ⊎ (z ∈ insert compare x ys)
      step (inl m) = new (Memᴰ.cases_cons m)
      step (inr m) = inr (member-insert x ys (inr m))

  pub ascending-insert_all : (xs ys : List A) → Ascending compare ys → Ascending compare (insert_all compare xs ys)
  unfolding insert_all
  ascending-insert_all [] ys h = h
  ascending-insert_all (x ∷ xs) ys h = ascending-insert_all xs (insert compare x ys) (ascending-insert x ys h)

  pub ascending-keep : (p : A → Bool) (ys : List A) → Ascending compare ys → Ascending compare (keep p ys)
  unfolding keep
  ascending-keep p [] h = tt
  ascending-keep p (y ∷ ys) h = step (p y) (ascending-keep p ys h.1)
    where
      step : (b : Bool) → Ascending compare (keep p ys) → Ascending compare (cons_if b y (keep p ys))
      step true below = (λ z m. h.0 z (keep-member p ys m).0, below)
      step false below = below

  -- two ascending lists with the same members are equal
  pub ascending_unique : (xs ys : List A) → Ascending compare xs → Ascending compare ys → ((z : A) → z ∈ xs → z ∈ ys) → ((z : A) → z ∈ ys → z ∈ xs) → xs ≡ ys
  ascending_unique [] [] h k to from = refl
  ascending_unique [] (y ∷ ys) h k to from = absurd (Memᴰ.not-nil (from y (Memᴰ.head refl)))
  ascending_unique (x ∷ xs) [] h k to from = absurd (Memᴰ.not-nil (to x (Memᴰ.head refl)))
  ascending_unique (x ∷ xs) (y ∷ ys) h k to from = cc (heads, ascending_unique xs ys h.1 k.1 to' from')
    where
      first : (x ≡ y) ⊎ (x ∈ ys) → (y ≡ x) ⊎ (y ∈ xs) → x ≡ y
      first (inl e) c = e
      first (inr m) (inl e) = sym e
      first (inr m) (inr m') = absurd (irreflexive x (order.chain x y x (h.0 y m') (k.0 x m)))

      heads : x ≡ y
      heads = first (Memᴰ.cases_cons (to x (Memᴰ.head refl))) (Memᴰ.cases_cons (from y (Memᴰ.head refl)))

      -- a member of a tail is not the other list's head
      later : {u v : A} {us vs : List A} → u ≡ v → ((w : A) → w ∈ us → Less compare u w) → (z : A) → z ∈ us → (z ≡ v) ⊎ (z ∈ vs) → z ∈ vs
      later {u} e above z m (inl q) = absurd (irreflexive u (ap (compare u) (e ∙ sym q) ∙ above z m))
      later e above z m (inr m') = m'

      to' : (z : A) → z ∈ xs → z ∈ ys
      to' z m = later heads h.0 z m (Memᴰ.cases_cons (to z (Memᴰ.tail m)))

      from' : (z : A) → z ∈ ys → z ∈ xs
      from' z m = later (sym heads) k.0 z m (Memᴰ.cases_cons (from z (Memᴰ.tail m)))
