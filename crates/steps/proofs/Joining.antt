-- Applying a context: what joins the clock, and how far the tombstone grows. Assumes nothing.
use Prim.Native.Nat.{ℕ, suc, ◌+◌, ◌≤◌, Ordering}
use mathlib.Core.Path.{◌≡◌, refl, sym, ap, ◌∙◌, subst}
use mathlib.Core.Logic.{◌⊎◌, inl, inr, ⊎_elim}
use mathlib.Core.Bool.{Bool, true, false, not, ◌&&◌, ◌||◌, true≢false}
use mathlib.Core.List.Memᴰ
use mathlib.Core.List.{List, [], ◌∷◌}
use native.Mathlib.Omega.{arith}
use lib.Dec.{T, compare_is_eq}
use lib.ListN.{length}
use Rattle.wire.specs.Lists.{◌∈◌, cons_if, keep, all, member, insert, insert_all, place, Less, Ascending}
use Rattle.wire.proofs.Tests.{decided, both_ways, holds, pass, T_and}
use Rattle.wire.proofs.Lists.{Lawful, irreflexive, member-sound, member-complete, insert-member, member-insert, ascending-insert, ascending-keep, ascending_unique}
use Rattle.dots.specs.declared.Dot.{Dot}
use Rattle.dots.specs.Dots.{compare_dots, dot_ok}
use Rattle.dots.proofs.Orders.{dots}
use Rattle.clock.specs.Row.{window_width}
use Rattle.clock.specs.Clock.{sees, join_all, near}
use Rattle.clock.proofs.Clocks.{Formed, rows-tested, near-unseen}
use Rattle.replica.proofs.RowClock.{row_clock_laws, join-same}
use Rattle.replica.specs.RowClock.{row_clock}
use Rattle.steps.specs.Tests.{joins_tombstone}

-- ---- the clock

-- lists with the same unseen dots leave the same clock
module _ (words : List ℕ) (ds es : List Dot) (f : Formed window_width words) (ok : all dot_ok ds ≡ true) (ok' : all dot_ok es ≡ true)
    (close : near window_width words ds ≡ true)
    (to : (d : Dot) → sees words d ≡ false → d ∈ ds → d ∈ es) (from : (d : Dot) → sees words d ≡ false → d ∈ es → d ∈ ds) where
  close' : near window_width words es ≡ true
  close' = sym (near-unseen window_width words ds es (rows-tested window_width words f.rows) to from) ∙ close

  either : (xs ys : List Dot) → ((d : Dot) → sees words d ≡ false → d ∈ xs → d ∈ ys) → (d : Dot) → T (sees words d) ⊎ (d ∈ xs) → T (sees words d) ⊎ (d ∈ ys)
  either xs ys over d (inl s) = inl s
  either xs ys over d (inr m) = by (decided (sees words d))
    where
      by : (sees words d ≡ true) ⊎ (sees words d ≡ false) → T (sees words d) ⊎ (d ∈ ys)
      by (inl t) = inl (pass t)
      by (inr u) = inr (over d u m)

  pub joined_same : join_all window_width words ds ≡ join_all window_width words es
  unfolding row_clock_laws
  joined_same =
      join-same (row_clock window_width) (row_clock_laws window_width (omega arith)) words ds es f
      (T_and (all dot_ok ds) (near window_width words ds) (pass ok) (pass close)) (T_and (all dot_ok es) (near window_width words es) (pass ok') (pass close'))
      (λ d. (either ds es to d, either es ds from d))

-- ---- how far an ascending list grows

module _ {A : Type 0} (compare : A → A → Ordering) (order : Lawful compare) where
  -- one that is there already changes nothing
  insert-known : (x : A) (ys : List A) → Ascending compare ys → member compare x ys ≡ true → insert compare x ys ≡ ys
  insert-known x ys up t =
      ascending_unique compare order (insert compare x ys) ys (ascending-insert compare order x ys up) up
      (λ z m. ⊎_elim (λ q. subst (λ y. y ∈ ys) (sym q) (member-sound compare order ys (pass t))) (λ k. k) (insert-member compare order x ys m))
      (λ z m. member-insert compare order x ys (inr m))

  -- one that is not makes it one longer
  insert-new : (x : A) (ys : List A) → member compare x ys ≡ false → length (insert compare x ys) ≡ suc (length ys)
  unfolding insert member
  insert-new x [] f = refl
  insert-new x (y ∷ ys) f = by (compare x y) refl f (insert-new x ys)
    where
      by : (o : Ordering) → compare x y ≡ o → (compare_is_eq o || member compare x ys) ≡ false → (member compare x ys ≡ false → length (insert compare x ys) ≡ suc (length ys))
          → length (place o x y ys (insert compare x ys)) ≡ suc (suc (length ys))
      by Ordering.lt e g ih = refl
      by Ordering.eq e g ih = absurd (true≢false g)
      by Ordering.gt e g ih = ap suc (ih g)

  -- another element is a member as before
  member-other : (x z : A) (ys : List A) → Less compare x z → member compare z (insert compare x ys) ≡ member compare z ys
  member-other x z ys l =
      both_ways (member compare z (insert compare x ys)) (member compare z ys)
      (λ t. ⊎_elim (λ q. absurd (irreflexive compare order x (ap (compare x) (sym q) ∙ l))) (λ k. holds (member compare z ys) (member-complete compare order ys k))
      (insert-member compare order x ys (member-sound compare order (insert compare x ys) (pass t))))
      (λ t. holds (member compare z (insert compare x ys)) (member-complete compare order (insert compare x ys) (member-insert compare order x ys (inr (member-sound compare order ys (pass t))))))

  keep_same : (p q : A → Bool) (xs : List A) → ((z : A) → z ∈ xs → p z ≡ q z) → keep p xs ≡ keep q xs
  unfolding keep
  keep_same p q [] h = refl
  keep_same p q (x ∷ xs) h = rw (h x (Memᴰ.head refl), keep_same p q xs (λ z m. h z (Memᴰ.tail m)))

  abbrev new : List A → A → Bool
  new ys z = not (member compare z ys)

  pub grown-length : (xs ys : List A) → Ascending compare xs → Ascending compare ys → length (insert_all compare xs ys) ≡ length ys + length (keep (new ys) xs)
  unfolding insert_all keep
  grown-length [] ys h k = omega arith
  grown-length (x ∷ xs) ys h k =
      by (decided (member compare x ys)) (grown-length xs (insert compare x ys) h.1 (ascending-insert compare order x ys k))
    where
      rest : keep (new (insert compare x ys)) xs ≡ keep (new ys) xs
      rest = keep_same (new (insert compare x ys)) (new ys) xs (λ z m. ap not (member-other x z ys (h.0 z m)))

      by : (member compare x ys ≡ true) ⊎ (member compare x ys ≡ false)
          → length (insert_all compare xs (insert compare x ys)) ≡ length (insert compare x ys) + length (keep (new (insert compare x ys)) xs)
          → length (insert_all compare xs (insert compare x ys)) ≡ length ys + length (cons_if (new ys x) x (keep (new ys) xs))
      by (inl t) ih = rw t (ih ∙ rw (rest, insert-known x ys k t))
      by (inr f) ih = rw f (ih ∙ rw (rest, insert-new x ys f) (omega arith))

pub keep-few : (p : Dot → Bool) (ds : List Dot) → length (keep p ds) ≤ length ds
unfolding keep
keep-few p [] = omega arith
keep-few p (d ∷ ds) = by (p d) (keep-few p ds)
  where
    by : (t : Bool) → length (keep p ds) ≤ length ds → length (cons_if t d (keep p ds)) ≤ suc (length ds)
    by true h = omega arith
    by false h = omega arith

keep-keep : {A : Type 0} (p q : A → Bool) (xs : List A) → keep q (keep p xs) ≡ keep (λ x. p x && q x) xs
unfolding keep
keep-keep p q [] = refl
keep-keep p q (x ∷ xs) = by (p x) refl (keep-keep p q xs)
  where
    by : (b : Bool) → p x ≡ b → keep q (keep p xs) ≡ keep (λ x. p x && q x) xs → keep q (cons_if b x (keep p xs)) ≡ cons_if (b && q x) x (keep (λ x. p x && q x) xs)
    by true e ih = ap (cons_if (q x) x) ih
    by false e ih = ih

-- the tombstone after a context: one more for each dot that was seen and is not in it
pub tombstone_grows : (words : List ℕ) (context tombstone : List Dot) → Ascending compare_dots context → Ascending compare_dots tombstone
    → length (insert_all compare_dots (keep (sees words) context) tombstone) ≡ length tombstone + length (keep (joins_tombstone words tombstone) context)
tombstone_grows words context tombstone up up' =
    grown-length compare_dots dots (keep (sees words) context) tombstone (ascending-keep compare_dots dots (sees words) context up) up'
    ∙ ap (λ (ds : List Dot). length tombstone + length ds) (keep-keep (sees words) (λ d. not (member compare_dots d tombstone)) context)
