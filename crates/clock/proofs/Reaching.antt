-- Laws of the test of reach: over ascending dots it says whether refusal 10 holds, over any window width W.
-- Assumes nothing.
use Rattle.std.proofs.Common.{◌≡◌, ℕ, zero, suc, ◌+◌, ◌<◌, ◌≤◌, Bool, true, false, cond, ◌&&◌, ◌⊎◌, ◌↔◌, List, [], ◌∷◌, ◌++◌, length, sym, refl, ap, ◌∙◌, subst, ap₂, inl, inr, ⊎_elim, true≢false, arith, eq-eqb, ne_eqb}
use mathlib.Core.Bool.{and-eq-true_iff}
use mathlib.Core.List.Memᴰ
use Prim.Native.Nat.{Ordering}
use native.Mathlib.Decide.{dec_le, ℕ_discrete}
use Rattle.std.specs.Prelude.{Option, None, Some, is_some}
use Rattle.wire.specs.Lists.{◌∈◌, all, Less, Ascending, sort}
use Rattle.wire.proofs.Tests.{decided, both_ways}
use Rattle.wire.proofs.Lists.{insert_all-member, member-insert_all, ascending-insert_all, ascending_unique}
use Rattle.wire.proofs.Orders.{less_number, then_lt}
use Rattle.dots.specs.declared.Dot.{Dot}
use Rattle.dots.specs.Dots.{max_counter, compare_actors, compare_counters, compare_dots, dot_ok}
use Rattle.dots.proofs.Orders.{actors, dots}
use Rattle.dots.proofs.Rules.{Valid, valid}
use Rattle.clock.specs.Row.{Row, well_formed, join, in_reach}
use Rattle.clock.specs.Offered.{all_in_reach}
use Rattle.clock.specs.Clock.{row_at, rows_ok, join_dot, join_each, counters_of, near, clock_words}
use Rattle.clock.specs.declared.Reach.{Reach as CodeReach}
use Rattle.clock.specs.Reach.{Reach, IsReach, Ready, reach_start, row_for, reach_step, reach_each}
use Rattle.clock.proofs.Rows.{WellFormed, forms, join-formed, reached}
use Rattle.clock.proofs.Clocks.{ok-head, ok-tail, rows-well, rows-tested, counters-own, counters-other, counters-none, row-joined, row_kept, length-join_dot, row-none, near-reach, reach_all_near}

module _ (words : List ℕ) (x : Reach) (a : ℕ) where
  pub for_same : x.actor ≡ a → row_for words x a ≡ x.row
  unfolding row_for
  for_same e = ap (λ (b : Bool). cond b x.row (row_at words a)) (eq-eqb x.actor a e)

  pub for_other : (x.actor ≡ a → ⊥) → row_for words x a ≡ row_at words a
  unfolding row_for
  for_other f = ap (λ (b : Bool). cond b x.row (row_at words a)) (ne_eqb x.actor a f)

module _ (W : ℕ) (words : List ℕ) where
  pub for_formed : (x : Reach) (a : ℕ) → rows_ok W words ≡ true → WellFormed W x.row → WellFormed W (row_for words x a)
  for_formed x a rows f = go (ℕ_discrete x.actor a)
    where
      go : Dec (x.actor ≡ a) → WellFormed W (row_for words x a)
      go (yes e) = rw (for_same words x a e) f
      go (no e) = rw (for_other words x a e) (rows-well W words rows a)

  -- the reach after d, where it is in reach
  abbrev pub further : Reach → Dot → Reach
  further x d = record { ok = true; actor = d.actor.number; row = join W (row_for words x d.actor.number) d.counter.number }

  pub step_in : (x : Reach) (d : Dot) → x.ok ≡ true → in_reach W (row_for words x d.actor.number) d.counter.number ≡ true → reach_step W words x d ≡ further x d
  unfolding reach_step
  step_in x d k t = ap₂ (λ (p q : Bool). cond (p && q) (further x d) (record { ok = false; actor = x.actor; row = x.row })) k t

  pub step-out : (x : Reach) (d : Dot) → (x.ok ≡ false) ⊎ (in_reach W (row_for words x d.actor.number) d.counter.number ≡ false)
      → reach_step W words x d ≡ record { ok = false; actor = x.actor; row = x.row }
  unfolding reach_step
  step-out x d (inl k) = rw k
  step-out x d (inr t) = go x.ok
    where
      go : (b : Bool) → cond (b && in_reach W (row_for words x d.actor.number) d.counter.number) (further x d) (record { ok = false; actor = x.actor; row = x.row }) ≡ record { ok = false; actor = x.actor; row = x.row }
      go true = rw t
      go false = refl

  -- after one that is out of reach nothing changes
  pub step_off : (x : Reach) (d : Dot) → x.ok ≡ false → x ≡ reach_step W words x d
  step_off x d k = ap {B = Reach} (λ b. record { ok = b; actor = x.actor; row = x.row }) k ∙ sym (step-out x d (inl k))

  pub step-formed : (x : Reach) (d : Dot) → rows_ok W words ≡ true → WellFormed W x.row → d.counter.number ≤ max_counter → WellFormed W (reach_step W words x d).row
  step-formed x d rows f m = go (decided x.ok) (decided (in_reach W (row_for words x d.actor.number) d.counter.number))
    where
      go : (x.ok ≡ true) ⊎ (x.ok ≡ false) → (in_reach W (row_for words x d.actor.number) d.counter.number ≡ true) ⊎ (in_reach W (row_for words x d.actor.number) d.counter.number ≡ false)
          → WellFormed W (reach_step W words x d).row
      go (inl k) (inl t) =
          let near = reached W (row_for words x d.actor.number) d.counter.number t in
          rw (step_in x d k t) (join-formed W (row_for words x d.actor.number) d.counter.number (for_formed x d.actor.number rows f) near.0 near.1 m)
      go (inl k) (inr t) = rw (step-out x d (inr t)) f
      go (inr k) t = rw (step-out x d (inl k)) f

  -- once one was out of reach, nothing helps
  pub stuck : (x : Reach) (ds : List Dot) → x.ok ≡ false → (reach_each W words x ds).ok ≡ false
  unfolding reach_each
  stuck x [] k = k
  stuck x (d ∷ ds) k = stuck (reach_step W words x d) ds (ap (λ (y : Reach). y.ok) (step-out x d (inl k)))

  -- every actor's counters are in reach of its row: of the row at hand for the last actor, of the clock's for those above it
  abbrev Reaches : Reach → List Dot → Type 0
  Reaches x ds = (all_in_reach W x.row (counters_of x.actor ds) ≡ true) × ((b : ℕ) → x.actor < b → all_in_reach W (row_at words b) (counters_of b ds) ≡ true)

  abbrev Floor : ℕ → List Dot → Type 0
  Floor a ds = (e : Dot) → e ∈ ds → a ≤ e.actor.number

  in_order : (d e : Dot) → Less compare_dots d e → d.actor.number ≤ e.actor.number
  in_order d e h = go (then_lt (compare_actors d.actor e.actor) (compare_counters d.counter e.counter) h)
    where
      go : (compare_actors d.actor e.actor ≡ Ordering.lt) ⊎ ((compare_actors d.actor e.actor ≡ Ordering.eq) × (compare_counters d.counter e.counter ≡ Ordering.lt)) → d.actor.number ≤ e.actor.number
      go (inl k) = let l = less_number d.actor.number e.actor.number k in omega arith
      go (inr k) = let q = ap (λ a. a.number) (actors.tie d.actor e.actor k.0) in omega arith

  module _ (d : Dot) (ds : List Dot) where
    pub own-reach : (r : Row) → (all_in_reach W r (counters_of d.actor.number (d ∷ ds)) ≡ true) ↔ ((in_reach W r d.counter.number ≡ true) × (all_in_reach W (join W r d.counter.number) (counters_of d.actor.number ds) ≡ true))
    unfolding all_in_reach
    own-reach r =
        let own = ap (all_in_reach W r) (counters-own d.actor.number d ds refl) in
        let k = and-eq-true_iff (in_reach W r d.counter.number) (all_in_reach W (join W r d.counter.number) (counters_of d.actor.number ds)) in
        (λ t. k.0 (sym own ∙ t), λ p. own ∙ k.1 p)

    pub other-reach : (r : Row) (b : ℕ) → (d.actor.number ≡ b → ⊥) → all_in_reach W r (counters_of b (d ∷ ds)) ≡ all_in_reach W r (counters_of b ds)
    other-reach r b f = ap (all_in_reach W r) (counters-other b d ds f)

  module _ (x : Reach) (d : Dot) (ds : List Dot) (floor : x.actor ≤ d.actor.number) (rest : Floor d.actor.number ds) where
    -- below the actor of d no counters are left
    none_below : (r : Row) (b : ℕ) → b < d.actor.number → all_in_reach W r (counters_of b (d ∷ ds)) ≡ true
    unfolding all_in_reach
    none_below r b h = ap (all_in_reach W r) (counters-none b (d ∷ ds) (λ e m q. on e q (Memᴰ.cases_cons m)))
      where
        on : (e : Dot) → e.actor.number ≡ b → (e ≡ d) ⊎ (e ∈ ds) → ⊥
        on e q (inl p) = let l = ap (λ (y : Dot). y.actor.number) p in omega arith
        on e q (inr m) = let l = rest e m in omega arith

    reaches-next : Reaches x (d ∷ ds) → (in_reach W (row_for words x d.actor.number) d.counter.number ≡ true) × Reaches (further x d) ds
    reaches-next h = go (ℕ_discrete x.actor d.actor.number)
      where
        above : (b : ℕ) → d.actor.number < b → all_in_reach W (row_at words b) (counters_of b ds) ≡ true
        above b l = sym (other-reach d ds (row_at words b) b (λ q. omega arith)) ∙ h.1 b (omega arith)

        go : Dec (x.actor ≡ d.actor.number) → (in_reach W (row_for words x d.actor.number) d.counter.number ≡ true) × Reaches (further x d) ds
        go (yes e) =
            let k = (own-reach d ds x.row).0 (subst (λ (b : ℕ). all_in_reach W x.row (counters_of b (d ∷ ds)) ≡ true) e h.0) in
            rw (for_same words x d.actor.number e) (k.0, (k.1, above))
        go (no f) =
            let k = (own-reach d ds (row_at words d.actor.number)).0 (h.1 d.actor.number (omega arith)) in
            rw (for_other words x d.actor.number f) (k.0, (k.1, above))

    next-reaches : (in_reach W (row_for words x d.actor.number) d.counter.number ≡ true) × Reaches (further x d) ds → Reaches x (d ∷ ds)
    next-reaches h = go (ℕ_discrete x.actor d.actor.number)
      where
        above : (b : ℕ) → d.actor.number < b → all_in_reach W (row_at words b) (counters_of b (d ∷ ds)) ≡ true
        above b l = other-reach d ds (row_at words b) b (λ q. omega arith) ∙ h.1.1 b l

        own : (r : Row) → row_for words x d.actor.number ≡ r → all_in_reach W r (counters_of d.actor.number (d ∷ ds)) ≡ true
        own r e = subst (λ (y : Row). all_in_reach W y (counters_of d.actor.number (d ∷ ds)) ≡ true) e ((own-reach d ds (row_for words x d.actor.number)).1 (h.0, h.1.0))

        on : (x.actor ≡ d.actor.number → ⊥) → (b : ℕ) → Dec (b < d.actor.number) → Dec (b ≡ d.actor.number) → all_in_reach W (row_at words b) (counters_of b (d ∷ ds)) ≡ true
        on f b (yes l) q = none_below (row_at words b) b l
        on f b (no l) (yes q) = rw q (own (row_at words d.actor.number) (for_other words x d.actor.number f))
        on f b (no l) (no q) = above b (omega arith)

        go : Dec (x.actor ≡ d.actor.number) → Reaches x (d ∷ ds)
        go (yes e) = (subst (λ (b : ℕ). all_in_reach W x.row (counters_of b (d ∷ ds)) ≡ true) (sym e) (own x.row (for_same words x d.actor.number e)), λ b l. above b (omega arith))
        go (no f) = (none_below x.row x.actor (omega arith), λ b l. on f b (dec_le (suc b) d.actor.number) (ℕ_discrete b d.actor.number))

  -- the test says whether every actor's counters are in reach
  reach-tells : (x : Reach) (ds : List Dot) → x.ok ≡ true → Ascending compare_dots ds → Floor x.actor ds → ((reach_each W words x ds).ok ≡ true) ↔ Reaches x ds
  unfolding reach_each all_in_reach counters_of
  reach-tells x [] k up floor = (λ t. (refl, λ b l. refl), λ h. k)
  reach-tells x (d ∷ ds) k up floor = go (reach-tells (further x d) ds refl up.1 rest) (decided (in_reach W (row_for words x d.actor.number) d.counter.number))
    where
      rest : Floor d.actor.number ds
      rest e m = in_order d e (up.0 e m)

      low : x.actor ≤ d.actor.number
      low = floor d (Memᴰ.head refl)

      go : ((reach_each W words (further x d) ds).ok ≡ true) ↔ Reaches (further x d) ds
          → (in_reach W (row_for words x d.actor.number) d.counter.number ≡ true) ⊎ (in_reach W (row_for words x d.actor.number) d.counter.number ≡ false)
          → ((reach_each W words (reach_step W words x d) ds).ok ≡ true) ↔ Reaches x (d ∷ ds)
      go ih (inl t) =
          let same = ap (λ (y : Reach). (reach_each W words y ds).ok) (step_in x d k t) in
          (λ s. next-reaches x d ds low rest (t, ih.0 (sym same ∙ s)), λ h. same ∙ ih.1 (reaches-next x d ds low rest h).1)
      go ih (inr f) = (
        λ s. absurd (true≢false (sym s ∙ ap (λ (y : Reach). (reach_each W words y ds).ok) (step-out x d (inr f)) ∙ stuck (record { ok = false; actor = x.actor; row = x.row }) ds refl)),
        λ h. absurd (true≢false (sym (reaches-next x d ds low rest h).0 ∙ f)),
      )

  -- over valid ascending dots, the test says whether refusal 10 holds
  module _ (w : 1 ≤ W) (ds : List Dot) (rows : rows_ok W words ≡ true) (ok : all dot_ok ds ≡ true) (up : Ascending compare_dots ds) where
    pub reach_is_near : (reach_each W words reach_start ds).ok ≡ near W words ds
    reach_is_near =
        let tells = reach-tells reach_start ds refl up (λ e m. omega arith) in
        both_ways (reach_each W words reach_start ds).ok (near W words ds)
        (λ t. reach_all_near W w words ds (rows-well W words rows) ok up (to (tells.0 t)))
        (λ n. let r = near-reach W w words ds (rows-well W words rows) ok up n in tells.1 (rw (row-none words 0 (inl (omega arith))) at (r 0), λ b l. r b))
      where
        to : Reaches reach_start ds → (a : ℕ) → all_in_reach W (row_at words a) (counters_of a ds) ≡ true
        to h zero = rw (row-none words 0 (inl (omega arith))) h.0
        to h (suc a) = h.1 (suc a) (omega arith)

-- ---- the dots that are ready to be joined

module _ (W : ℕ) (words : List ℕ) (d : Dot) (ds : List Dot) where
  -- what joining the first one asks
  pub ready-head : Ready W words (d ∷ ds) → (well_formed W (row_at words d.actor.number) ≡ true) × (in_reach W (row_at words d.actor.number) d.counter.number ≡ true)
  ready-head r = (forms (rows-well W words r.rows d.actor.number), ((own-reach W words d ds (row_at words d.actor.number)).0 (r.reach d.actor.number)).0)

  pub ready-tail : Ready W words (d ∷ ds) → Ready W (join_dot W words d) ds
  ready-tail r = record { size = length-join_dot W words d ∙ r.size; rows = rows-tested W (join_dot W words d) rows; ok = ok-tail d ds r.ok; reach = reach }
    where
      v : Valid d
      v = ok-head d ds r.ok

      near : (1 ≤ d.counter.number) × (d.counter.number ≤ (row_at words d.actor.number).base + W)
      near = reached W (row_at words d.actor.number) d.counter.number (ready-head r).1

      rows : (a : ℕ) → WellFormed W (row_at (join_dot W words d) a)
      rows a = go (ℕ_discrete d.actor.number a)
        where
          go : Dec (d.actor.number ≡ a) → WellFormed W (row_at (join_dot W words d) a)
          go (yes e) = rw (← e, row-joined W words d r.size v) (join-formed W (row_at words d.actor.number) d.counter.number (rows-well W words r.rows d.actor.number) near.0 near.1 v.counter_high)
          go (no f) = rw (row_kept W words d a f) (rows-well W words r.rows a)

      reach : (a : ℕ) → all_in_reach W (row_at (join_dot W words d) a) (counters_of a ds) ≡ true
      reach a = go (ℕ_discrete d.actor.number a)
        where
          go : Dec (d.actor.number ≡ a) → all_in_reach W (row_at (join_dot W words d) a) (counters_of a ds) ≡ true
          go (yes e) = rw (← e, row-joined W words d r.size v) ((own-reach W words d ds (row_at words d.actor.number)).0 (r.reach d.actor.number)).1
          go (no f) = rw (row_kept W words d a f) (sym (other-reach W words d ds (row_at words a) a f) ∙ r.reach a)

-- ---- dots before and after one

pub reach_each-append : (W : ℕ) (words : List ℕ) (x : Reach) (xs ys : List Dot) → reach_each W words x (xs ++ ys) ≡ reach_each W words (reach_each W words x xs) ys
unfolding reach_each
reach_each-append W words x [] ys = refl
reach_each-append W words x (d ∷ xs) ys = reach_each-append W words (reach_step W words x d) xs ys

pub reach-around : (W : ℕ) (words : List ℕ) (xs : List Dot) (d : Dot) (ys : List Dot) (below there end : Reach)
    → below ≡ reach_each W words reach_start xs → there ≡ reach_step W words below d → end ≡ reach_each W words there ys
    → end ≡ reach_each W words reach_start (xs ++ (d ∷ ys))
unfolding reach_each
reach-around W words xs d ys below there end e f g =
    g ∙ ap (λ (x : Reach). reach_each W words x ys) (f ∙ ap (λ (x : Reach). reach_step W words x d) e) ∙ sym (reach_each-append W words reach_start xs (d ∷ ys))

-- one step of the code, which stops at the first that is out of reach
module _ (W : ℕ) (words : List ℕ) (x : Reach) (left : List Dot) where
  pub reach-next : (y : Reach) (d : Dot) (more : List Dot) → left ≡ d ∷ more → y ≡ reach_step W words x d → reach_each W words y more ≡ reach_each W words x left
  unfolding reach_each
  reach-next y d more e f = rw (e, f)

  pub reach-stop : (d : Dot) (more : List Dot) → left ≡ d ∷ more → (reach_step W words x d).ok ≡ false → (reach_each W words x left).ok ≡ false
  unfolding reach_each
  reach-stop d more e f = rw e (stuck W words (reach_step W words x d) more f)

  pub reach-last : left ≡ [] → x ≡ reach_each W words x left
  unfolding reach_each
  reach-last e = rw e

module _ (W : ℕ) (words : List ℕ) (xs : List Dot) (d : Dot) (ys : List Dot) where
  pub around-below : (reach_each W words reach_start xs).ok ≡ false → (reach_each W words reach_start (xs ++ (d ∷ ys))).ok ≡ false
  around-below f = rw (reach_each-append W words reach_start xs (d ∷ ys)) (stuck W words (reach_each W words reach_start xs) (d ∷ ys) f)

  module _ (below : Reach) (e : below ≡ reach_each W words reach_start xs) where
    pub around-there : (reach_step W words below d).ok ≡ false → (reach_each W words reach_start (xs ++ (d ∷ ys))).ok ≡ false
    around-there f = rw (reach_each-append W words reach_start xs (d ∷ ys), ← e) (reach-stop W words below (d ∷ ys) d ys refl f)

    pub around-end : (there : Reach) → there ≡ reach_step W words below d → reach_each W words there ys ≡ reach_each W words reach_start (xs ++ (d ∷ ys))
    around-end there f = rw (reach_each-append W words reach_start xs (d ∷ ys), ← e) (reach-next W words below (d ∷ ys) there d ys refl f)

-- whether the code has a reach
pub reach-some : (W : ℕ) (y : Reach) (r : Option CodeReach) → IsReach W y r → is_some r ≡ y.ok
reach-some W y None h = sym h
reach-some W y (Some s) h = ap (λ (z : Reach). z.ok) h.0

pub join_each-append : (W : ℕ) (words : List ℕ) (xs ys : List Dot) → join_each W words (xs ++ ys) ≡ join_each W (join_each W words xs) ys
unfolding join_each
join_each-append W words [] ys = refl
join_each-append W words (d ∷ xs) ys = join_each-append W (join_dot W words d) xs ys

-- dots are ready where the first is in reach, and the others are ready after it
pub ready_cons : (W : ℕ) (words : List ℕ) (d : Dot) (ds : List Dot) → length words ≡ clock_words → rows_ok W words ≡ true → dot_ok d ≡ true
    → in_reach W (row_at words d.actor.number) d.counter.number ≡ true → Ready W (join_dot W words d) ds → Ready W words (d ∷ ds)
unfolding all
ready_cons W words d ds s rows ok t r = record { size = s; rows = rows; ok = (and-eq-true_iff (dot_ok d) (all dot_ok ds)).1 (ok, r.ok); reach = reach }
  where
    reach : (a : ℕ) → all_in_reach W (row_at words a) (counters_of a (d ∷ ds)) ≡ true
    reach a = go (ℕ_discrete d.actor.number a)
      where
        go : Dec (d.actor.number ≡ a) → all_in_reach W (row_at words a) (counters_of a (d ∷ ds)) ≡ true
        go (yes e) = rw (← e) ((own-reach W words d ds (row_at words d.actor.number)).1 (t, rw (row-joined W words d s (valid d ok)) at (r.reach d.actor.number)))
        go (no f) = other-reach W words d ds (row_at words a) a f ∙ (rw (row_kept W words d a f) at (r.reach a))

pub ready-front : (W : ℕ) (words : List ℕ) (xs ys : List Dot) → Ready W words (xs ++ ys) → Ready W words xs
unfolding all counters_of all_in_reach
ready-front W words [] ys r = record { size = r.size; rows = r.rows; ok = refl; reach = λ a. refl }
ready-front W words (d ∷ xs) ys r =
    ready_cons W words d xs r.size r.rows ((and-eq-true_iff (dot_ok d) (all dot_ok (xs ++ ys))).0 r.ok).0 (ready-head W words d (xs ++ ys) r).1
    (ready-front W (join_dot W words d) xs ys (ready-tail W words d (xs ++ ys) r))

pub ready-back : (W : ℕ) (words : List ℕ) (xs ys : List Dot) → Ready W words (xs ++ ys) → Ready W (join_each W words xs) ys
unfolding join_each
ready-back W words [] ys r = r
ready-back W words (d ∷ xs) ys r = ready-back W (join_dot W words d) xs ys (ready-tail W words d (xs ++ ys) r)

-- ascending dots are joined as they stand
pub sorted_same : (ds : List Dot) → Ascending compare_dots ds → sort compare_dots ds ≡ ds
sorted_same ds up =
    ascending_unique compare_dots dots (sort compare_dots ds) ds (ascending-insert_all compare_dots dots ds [] tt) up
    (λ d m. ⊎_elim (λ k. k) (λ k. absurd (Memᴰ.not-nil k)) (insert_all-member compare_dots dots ds [] m))
    (λ d m. member-insert_all compare_dots dots ds [] (inl m))
