-- Laws of the clock, over any window width W: each row goes its own way, so that the laws of one row give those of all.
-- Assumes nothing.
use Rattle.std.proofs.Common.{◌≡◌, ℕ, zero, suc, ◌+◌, ◌-◌, ◌*◌, ◌/◌, ◌%◌, ◌<◌, ◌≤◌, Bool, true, false, cond, not, ◌&&◌, ◌||◌, T, eqb, ltb, ◌⊎◌, ◌↔◌, List, [], ◌∷◌, length, get_or, set, sym, refl, ap, ◌∙◌, subst, ap₂, inl, inr, ⊎_elim, add-one, arith, length-set, get_or-set_other, get_or-set_same, ext_get_or, pow_pos, le-ltb, lt-ltb, eq-eqb, ne_eqb, eqb-true}
use mathlib.Core.Bool.{false≢true, and-eq-true_iff, or-true}
use mathlib.Core.List.Memᴰ
use Prim.Native.Nat.{Ordering}
use Prim.Native.Nat.{compare}
use native.Mathlib.Decide.{dec_le, ℕ_discrete}
use lib.ListN.{get_or-replicate, get_or-eq_default}
use Rattle.wire.specs.Lists.{◌∈◌, is_lt, cons_if, all, member, sort, Less, Ascending, ascends_from}
use Rattle.wire.proofs.Tests.{decided, both_ways, pass, holds, T_both, T_either, T_left, T_right}
use Rattle.wire.proofs.Lists.{all-member, member-all, insert_all-member, member-insert_all, ascending-insert_all}
use Rattle.wire.proofs.Orders.{less_number, number_less, then_lt}
use Rattle.dots.specs.declared.Dot.{Dot}
use Rattle.dots.specs.Dots.{actor_of, dot_of, compare_actors, compare_counters, compare_dots, dot_ok, actor_most}
use Rattle.dots.proofs.Orders.{dots}
use Rattle.dots.proofs.Rules.{Valid, valid}
use Rattle.clock.specs.Row.{Row, seen, well_formed, join}
use Rattle.clock.specs.Offered.{known, too_far, all_in_reach, join_all as join_counters}
use Rattle.clock.specs.Clock.{zero_row, row_at, with_row, sees, all_to, rows_ok, join_dot, join_each, counters_of, near, zero_clock, clock_words, row_words}
use Rattle.clock.specs.Reach.{Ready}
use Rattle.clock.proofs.Bits.{test_bit_high}
use Rattle.clock.proofs.Rows.{WellFormed, formed, forms, row_eq, seen-zero, seen-past}
use Rattle.clock.proofs.Offered.{Counters, far-known, far-set, reach_iff_near, seen-join_all, join_all-formed}

-- ---- a test of the numbers 1 to n

pub all_to-at : (n : ℕ) (p : ℕ → Bool) → all_to n p ≡ true → (a : ℕ) → 1 ≤ a → a ≤ n → p a ≡ true
unfolding all_to
all_to-at zero p t a h l = absurd (omega arith)
all_to-at (suc n) p t a h l =
    let k = (and-eq-true_iff (all_to n p) (p (suc n))).0 t in
    go (all_to-at n p k.0 a h) k.1 (dec_le a n)
  where
    go : (a ≤ n → p a ≡ true) → p (suc n) ≡ true → Dec (a ≤ n) → p a ≡ true
    go ih q (yes m) = ih m
    go ih q (no m) = let e : a ≡ suc n = omega arith in ap p e ∙ q

pub all_to-all : (n : ℕ) (p : ℕ → Bool) → ((a : ℕ) → 1 ≤ a → a ≤ n → p a ≡ true) → all_to n p ≡ true
unfolding all_to
all_to-all zero p h = refl
all_to-all (suc n) p h =
    (and-eq-true_iff (all_to n p) (p (suc n))).1 (all_to-all n p (λ a l m. h a l (omega arith)), h (suc n) (omega arith) (omega arith))

pub all_to-next : (n : ℕ) (p : ℕ → Bool) → all_to (n + 1) p ≡ (all_to n p && p (n + 1))
unfolding all_to
all_to-next n p = rw add-one

all_to-same : (n : ℕ) (p q : ℕ → Bool) → ((a : ℕ) → p a ≡ q a) → all_to n p ≡ all_to n q
unfolding all_to
all_to-same zero p q h = refl
all_to-same (suc n) p q h = ap₂ (λ (x y : Bool). x && y) (all_to-same n p q h) (h (suc n))

-- ---- rows in words

-- the row of actor i + 1, as the code finds it
abbrev pub row_in : List ℕ → ℕ → Row
row_in words i = record { base = get_or words (i * row_words) 0; window = get_or words (i * row_words + 1) 0 }

abbrev pub with_row_in : List ℕ → ℕ → Row → List ℕ
with_row_in words i r = set (set words (i * row_words) r.base) (i * row_words + 1) r.window

module _ (words : List ℕ) where
  pub row_in_lem : (i : ℕ) → i < actor_most → row_at words (suc i) ≡ row_in words i
  unfolding row_at
  row_in_lem i h = ap (λ (b : Bool). cond b (row_in words i) zero_row) (lt-ltb i actor_most h)

  pub with_in : (i : ℕ) (r : Row) → i < actor_most → with_row words (suc i) r ≡ with_row_in words i r
  unfolding with_row
  with_in i r h = ap (λ (b : Bool). cond b (with_row_in words i r) words) (lt-ltb i actor_most h)

  -- an actor that is not from 1 to 16
  pub row-none : (a : ℕ) → (a < 1) ⊎ (actor_most < a) → row_at words a ≡ zero_row
  unfolding row_at
  row-none zero h = refl
  row-none (suc i) (inl h) = absurd (omega arith)
  row-none (suc i) (inr h) = ap (λ (b : Bool). cond b (row_in words i) zero_row) (le-ltb i actor_most (omega arith))

  pub with_none : (a : ℕ) (r : Row) → (a < 1) ⊎ (actor_most < a) → with_row words a r ≡ words
  unfolding with_row
  with_none zero r h = refl
  with_none (suc i) r (inl h) = absurd (omega arith)
  with_none (suc i) r (inr h) = ap (λ (b : Bool). cond b (with_row_in words i r) words) (le-ltb i actor_most (omega arith))

pub length_with_row : (words : List ℕ) (a : ℕ) (r : Row) → length (with_row words a r) ≡ length words
unfolding with_row
length_with_row words zero r = refl
length_with_row words (suc i) r = go (ltb i actor_most)
  where
    go : (b : Bool) → length (cond b (with_row_in words i r) words) ≡ length words
    go true = length-set (set words (i * row_words) r.base) (i * row_words + 1) r.window ∙ length-set words (i * row_words) r.base
    go false = refl

pub row_same : (words : List ℕ) (a : ℕ) (r : Row) → length words ≡ clock_words → 1 ≤ a → a ≤ actor_most → row_at (with_row words a r) a ≡ r
row_same words zero r s h l = absurd (omega arith)
row_same words (suc i) r s h l =
    let words' : List ℕ = set words (i * row_words) r.base in
    let size : length words' ≡ clock_words = length-set words (i * row_words) r.base ∙ s in
    let bases = get_or-set_other words' (i * row_words + 1) (i * row_words) r.window 0 (λ e. omega arith) ∙ get_or-set_same words (i * row_words) r.base 0 (omega arith) in
    let windows = get_or-set_same words' (i * row_words + 1) r.window 0 (omega arith) in
    row_in_lem (with_row words (suc i) r) i l ∙ ap (λ (v : List ℕ). row_in v i) (with_in words i r l) ∙ row_eq bases windows

pub row_other : (words : List ℕ) (a b : ℕ) (r : Row) → (b ≡ a → ⊥) → row_at (with_row words a r) b ≡ row_at words b
unfolding row_at with_row
row_other words a zero r d = refl
row_other words zero (suc j) r d = refl
row_other words (suc i) (suc j) r d = ap (λ (x : Row). cond (ltb j actor_most) x zero_row) (go (ltb i actor_most))
  where
    words' : List ℕ
    words' = set words (i * row_words) r.base

    apart : j ≡ i → ⊥
    apart e = d (ap suc e)

    at : (k : ℕ) → (k ≡ i * row_words + 1 → ⊥) → (k ≡ i * row_words → ⊥) → get_or (with_row_in words i r) k 0 ≡ get_or words k 0
    at k f g = get_or-set_other words' (i * row_words + 1) k r.window 0 f ∙ get_or-set_other words (i * row_words) k r.base 0 g

    go : (b : Bool) → row_in (cond b (with_row_in words i r) words) j ≡ row_in words j
    go true = row_eq (at (j * row_words) (λ e. apart (omega arith)) (λ e. apart (omega arith))) (at (j * row_words + 1) (λ e. apart (omega arith)) (λ e. apart (omega arith)))
    go false = refl

-- what the code reads and writes: actor a has the words at 2 (a - 1) and the next
pub row_words_lem : (words : List ℕ) (a : ℕ) → 1 ≤ a → a ≤ actor_most → record { base = get_or words ((a - 1) * row_words) 0; window = get_or words ((a - 1) * row_words + 1) 0 } ≡ row_at words a
row_words_lem words zero h l = absurd (omega arith)
row_words_lem words (suc i) h l = let p : suc i - 1 ≡ i = omega arith in rw (p, row_in_lem words i)

pub with-words : (words : List ℕ) (a : ℕ) (r : Row) → 1 ≤ a → a ≤ actor_most → set (set words ((a - 1) * row_words) r.base) ((a - 1) * row_words + 1) r.window ≡ with_row words a r
with-words words zero r h l = absurd (omega arith)
with-words words (suc i) r h l = let p : suc i - 1 ≡ i = omega arith in rw (p, with_in words i r)

pub row-empty : (a : ℕ) → row_at zero_clock a ≡ zero_row
unfolding row_at
row-empty zero = refl
row-empty (suc i) = go (ltb i actor_most)
  where
    at : (k : ℕ) → ◌≡◌ {A = ℕ} (get_or zero_clock k 0) 0
    at k = on (dec_le (suc k) clock_words)
      where
        on : Dec (suc k ≤ clock_words) → ◌≡◌ {A = ℕ} (get_or zero_clock k 0) 0
        on (yes h) = get_or-replicate clock_words k 0 0 h
        on (no h) = get_or-eq_default zero_clock 0 {n = k} (omega arith)

    go : (b : Bool) → cond b (row_in zero_clock i) zero_row ≡ zero_row
    go true = row_eq (at (i * row_words)) (at (i * row_words + 1))
    go false = refl

-- clocks with equal rows are equal
pub rows_eq : (v w : List ℕ) → length v ≡ clock_words → length w ≡ clock_words → ((a : ℕ) → row_at v a ≡ row_at w a) → v ≡ w
rows_eq v w s t same = ext_get_or 0 v w (s ∙ sym t) at
  where
    at : (k : ℕ) → k < length v → get_or v k 0 ≡ get_or w k 0
    at k h = go (ℕ_discrete (k % 2) 0)
      where
        i : ℕ
        i = k / 2

        rows : row_in v i ≡ row_in w i
        rows = sym (row_in_lem v i (omega arith)) ∙ same (suc i) ∙ row_in_lem w i (omega arith)

        go : Dec (k % 2 ≡ 0) → get_or v k 0 ≡ get_or w k 0
        go (yes e) = let p : k ≡ i * row_words = omega arith in rw p (ap (λ (r : Row). r.base) rows)
        go (no e) = let p : k ≡ i * row_words + 1 = omega arith in rw p (ap (λ (r : Row). r.window) rows)

-- ---- the zero row

pub zero-formed : (W : ℕ) → WellFormed W zero_row
zero-formed W = record { small = omega arith; gap = refl; bound = pow_pos _ }

pub zero-unseen : (e : ℕ) → seen zero_row e ≡ false
zero-unseen zero = seen-zero zero_row
zero-unseen (suc e) = seen-past zero_row (suc e) (omega arith) ∙ test_bit_high 0 (suc e - 0 - 1) (pow_pos 0) (omega arith)

-- ---- the head and the rest of valid dots

pub ok-head : (d : Dot) (ds : List Dot) → all dot_ok (d ∷ ds) ≡ true → Valid d
unfolding all
ok-head d ds t = valid d ((and-eq-true_iff (dot_ok d) (all dot_ok ds)).0 t).0

pub ok-tail : (d : Dot) (ds : List Dot) → all dot_ok (d ∷ ds) ≡ true → all dot_ok ds ≡ true
unfolding all
ok-tail d ds t = ((and-eq-true_iff (dot_ok d) (all dot_ok ds)).0 t).1

less_test : (m n : ℕ) → m < n → is_lt (compare m n) ≡ true
less_test m n h = ap is_lt (number_less m n h)

-- ---- an actor's counters

pub counters-own : (a : ℕ) (d : Dot) (ds : List Dot) → d.actor.number ≡ a → counters_of a (d ∷ ds) ≡ d.counter.number ∷ counters_of a ds
unfolding counters_of
counters-own a d ds e = ap (λ (b : Bool). cons_if b d.counter.number (counters_of a ds)) (eq-eqb d.actor.number a e)

pub counters-other : (a : ℕ) (d : Dot) (ds : List Dot) → (d.actor.number ≡ a → ⊥) → counters_of a (d ∷ ds) ≡ counters_of a ds
unfolding counters_of
counters-other a d ds f = ap (λ (b : Bool). cons_if b d.counter.number (counters_of a ds)) (ne_eqb d.actor.number a f)

dot-is : (a e : ℕ) (d : Dot) → d.actor.number ≡ a → e ≡ d.counter.number → dot_of (actor_of a) e ≡ d
dot-is a e d p q = λ i. record { actor = record { number = sym p i }; counter = record { number = q i } }

module _ (a : ℕ) where
  pub counters-member : (e : ℕ) (ds : List Dot) → member compare e (counters_of a ds) ≡ true → dot_of (actor_of a) e ∈ ds
  unfolding member counters_of
  counters-member e [] t = absurd (false≢true t)
  counters-member e (d ∷ ds) t = go (ℕ_discrete d.actor.number a) (counters-member e ds)
    where
      go : Dec (d.actor.number ≡ a) → (member compare e (counters_of a ds) ≡ true → dot_of (actor_of a) e ∈ ds) → dot_of (actor_of a) e ∈ d ∷ ds
      go (yes p) ih = at (decided (eqb e d.counter.number))
        where
          at : (eqb e d.counter.number ≡ true) ⊎ (eqb e d.counter.number ≡ false) → dot_of (actor_of a) e ∈ d ∷ ds
          at (inl q) = Memᴰ.head (dot-is a e d p (eqb-true e d.counter.number q))
          at (inr q) = Memᴰ.tail (ih (ap (λ (b : Bool). b || member compare e (counters_of a ds)) (sym q) ∙ ap (member compare e) (sym (counters-own a d ds p)) ∙ t))
      go (no f) ih = Memᴰ.tail (ih (ap (member compare e) (sym (counters-other a d ds f)) ∙ t))

  pub member-counters : (e : ℕ) (ds : List Dot) → dot_of (actor_of a) e ∈ ds → member compare e (counters_of a ds) ≡ true
  unfolding member
  member-counters e [] m = absurd (Memᴰ.not-nil m)
  member-counters e (d ∷ ds) m = go (Memᴰ.cases_cons m) (member-counters e ds)
    where
      go : (dot_of (actor_of a) e ≡ d) ⊎ (dot_of (actor_of a) e ∈ ds) → (dot_of (actor_of a) e ∈ ds → member compare e (counters_of a ds) ≡ true) → member compare e (counters_of a (d ∷ ds)) ≡ true
      go (inl q) ih =
          ap (member compare e) (counters-own a d ds (sym (ap (λ (x : Dot). x.actor.number) q)))
          ∙ ap (λ (b : Bool). b || member compare e (counters_of a ds)) (eq-eqb e d.counter.number (ap (λ (x : Dot). x.counter.number) q))
      go (inr n) ih = at (ℕ_discrete d.actor.number a)
        where
          at : Dec (d.actor.number ≡ a) → member compare e (counters_of a (d ∷ ds)) ≡ true
          at (yes p) = ap (member compare e) (counters-own a d ds p) ∙ ap (λ (b : Bool). eqb e d.counter.number || b) (ih n) ∙ or-true (eqb e d.counter.number)
          at (no f) = ap (member compare e) (counters-other a d ds f) ∙ ih n

  pub counters-same : (ds ds' : List Dot) → ((d : Dot) → d ∈ ds → d ∈ ds') → ((d : Dot) → d ∈ ds' → d ∈ ds) → (e : ℕ)
      → member compare e (counters_of a ds) ≡ member compare e (counters_of a ds')
  counters-same ds ds' to from e =
      both_ways (member compare e (counters_of a ds)) (member compare e (counters_of a ds'))
      (λ t. member-counters e ds' (to _ (counters-member e ds t)))
      (λ t. member-counters e ds (from _ (counters-member e ds' t)))

  pub counters-bounded : (ds : List Dot) → all dot_ok ds ≡ true → Counters (counters_of a ds)
  counters-bounded ds ok e t = (valid (dot_of (actor_of a) e) (all-member dot_ok ds ok _ (counters-member e ds t))).counter_high

  -- an actor that no valid dot has
  pub counters-none : (ds : List Dot) → ((d : Dot) → d ∈ ds → d.actor.number ≡ a → ⊥) → counters_of a ds ≡ []
  unfolding counters_of
  counters-none [] h = refl
  counters-none (d ∷ ds) h = counters-other a d ds (h d (Memᴰ.head refl)) ∙ counters-none ds (λ e m. h e (Memᴰ.tail m))

  less_counter : (d e : Dot) → Less compare_dots d e → d.actor.number ≡ a → e.actor.number ≡ a → d.counter.number < e.counter.number
  less_counter d e h p q = go (then_lt (compare_actors d.actor e.actor) (compare_counters d.counter e.counter) h)
    where
      go : (compare_actors d.actor e.actor ≡ Ordering.lt) ⊎ ((compare_actors d.actor e.actor ≡ Ordering.eq) × (compare_counters d.counter e.counter ≡ Ordering.lt)) → d.counter.number < e.counter.number
      go (inl k) = let l = less_number d.actor.number e.actor.number k in absurd (omega arith)
      go (inr k) = less_number d.counter.number e.counter.number k.1

  pub counters-ascend : (lo : ℕ) (ds : List Dot) → Ascending compare_dots ds → ((d : Dot) → d ∈ ds → d.actor.number ≡ a → lo < d.counter.number)
      → ascends_from compare lo (counters_of a ds) ≡ true
  unfolding ascends_from counters_of
  counters-ascend lo [] up above = refl
  counters-ascend lo (d ∷ ds) up above = go (ℕ_discrete d.actor.number a) (λ l. counters-ascend l ds up.1)
    where
      go : Dec (d.actor.number ≡ a) → ((l : ℕ) → ((e : Dot) → e ∈ ds → e.actor.number ≡ a → l < e.counter.number) → ascends_from compare l (counters_of a ds) ≡ true) → ascends_from compare lo (counters_of a (d ∷ ds)) ≡ true
      go (yes p) ih =
          ap (ascends_from compare lo) (counters-own a d ds p)
          ∙ ap (λ (b : Bool). b && ascends_from compare d.counter.number (counters_of a ds)) (less_test lo d.counter.number (above d (Memᴰ.head refl) p))
          ∙ ih d.counter.number (λ e m q. less_counter d e (up.0 e m) p q)
      go (no f) ih = ap (ascends_from compare lo) (counters-other a d ds f) ∙ ih lo (λ e m q. above e (Memᴰ.tail m) q)

-- ---- joins, row by row

pub length-join_dot : (W : ℕ) (words : List ℕ) (d : Dot) → length (join_dot W words d) ≡ length words
unfolding join_dot
length-join_dot W words d = length_with_row words d.actor.number _

pub length-join_each : (W : ℕ) (words : List ℕ) (ds : List Dot) → length (join_each W words ds) ≡ length words
unfolding join_each
length-join_each W words [] = refl
length-join_each W words (d ∷ ds) = length-join_each W (join_dot W words d) ds ∙ length-join_dot W words d

pub row-joined : (W : ℕ) (words : List ℕ) (d : Dot) → length words ≡ clock_words → Valid d → row_at (join_dot W words d) d.actor.number ≡ join W (row_at words d.actor.number) d.counter.number
unfolding join_dot
row-joined W words d s v = row_same words d.actor.number _ s v.actor-low v.actor_high

pub row_kept : (W : ℕ) (words : List ℕ) (d : Dot) (a : ℕ) → (d.actor.number ≡ a → ⊥) → row_at (join_dot W words d) a ≡ row_at words a
unfolding join_dot
row_kept W words d a f = row_other words d.actor.number a _ (λ e. f (sym e))

-- an actor's row after all joins: its counters are joined, in the dots' order
pub rows-joined : (W : ℕ) (words : List ℕ) (ds : List Dot) (a : ℕ) → length words ≡ clock_words → all dot_ok ds ≡ true
    → row_at (join_each W words ds) a ≡ join_counters W (row_at words a) (counters_of a ds)
unfolding join_each join_counters counters_of
rows-joined W words [] a s ok = refl
rows-joined W words (d ∷ ds) a s ok =
    rows-joined W (join_dot W words d) ds a (length-join_dot W words d ∙ s) (ok-tail d ds ok) ∙ go (ℕ_discrete d.actor.number a)
  where
    go : Dec (d.actor.number ≡ a) → join_counters W (row_at (join_dot W words d) a) (counters_of a ds) ≡ join_counters W (row_at words a) (counters_of a (d ∷ ds))
    go (yes p) =
        ap (λ (r : Row). join_counters W r (counters_of a ds)) (subst (λ (b : ℕ). row_at (join_dot W words d) b ≡ join W (row_at words b) d.counter.number) p (row-joined W words d s (ok-head d ds ok)))
        ∙ ap (join_counters W (row_at words a)) (sym (counters-own a d ds p))
    go (no f) =
        ap (λ (r : Row). join_counters W r (counters_of a ds)) (row_kept W words d a f)
        ∙ ap (join_counters W (row_at words a)) (sym (counters-other a d ds f))

-- ---- well-formed clocks

pub record Formed (W : ℕ) (words : List ℕ) : Type 0 where
  pub size : length words ≡ clock_words
  pub rows : (a : ℕ) → WellFormed W (row_at words a)

pub rows-well : (W : ℕ) (words : List ℕ) → rows_ok W words ≡ true → (a : ℕ) → WellFormed W (row_at words a)
unfolding rows_ok
rows-well W words t a = go (dec_le 1 a) (dec_le a actor_most)
  where
    go : Dec (1 ≤ a) → Dec (a ≤ actor_most) → WellFormed W (row_at words a)
    go (yes h) (yes l) = formed (all_to-at actor_most (λ b. well_formed W (row_at words b)) t a h l)
    go (yes h) (no l) = rw (row-none words a (inr (omega arith))) (zero-formed W)
    go (no h) l = rw (row-none words a (inl (omega arith))) (zero-formed W)

pub rows-tested : (W : ℕ) (words : List ℕ) → ((a : ℕ) → WellFormed W (row_at words a)) → rows_ok W words ≡ true
unfolding rows_ok
rows-tested W words f = all_to-all actor_most (λ b. well_formed W (row_at words b)) (λ a h l. forms (f a))

-- ---- dots that can be joined in their order

module _ (W : ℕ) (words : List ℕ) (ds : List Dot) (r : Ready W words ds) where
  pub join_each-formed : Formed W (join_each W words ds)
  join_each-formed = record {
    size = length-join_each W words ds ∙ r.size;
    rows = λ a.
        rw (rows-joined W words ds a r.size r.ok)
        (join_all-formed W (row_at words a) (counters_of a ds) (rows-well W words r.rows a) (counters-bounded a ds r.ok) (r.reach a));
  }

  pub join_each-sees : (d : Dot) → sees (join_each W words ds) d ≡ (sees words d || member compare d.counter.number (counters_of d.actor.number ds))
  unfolding sees known
  join_each-sees d =
      let a = d.actor.number in
      ap (λ (x : Row). seen x d.counter.number) (rows-joined W words ds a r.size r.ok)
      ∙ seen-join_all W (row_at words a) (counters_of a ds) (r.reach a) d.counter.number

-- Valid dots in ascending order can be joined exactly where refusal 10 does not hold.
module _ (W : ℕ) (w : 1 ≤ W) (words : List ℕ) (ds : List Dot) (f : (a : ℕ) → WellFormed W (row_at words a)) (ok : all dot_ok ds ≡ true) (up : Ascending compare_dots ds) where
  pub reach_near : (a : ℕ) → all_in_reach W (row_at words a) (counters_of a ds) ≡ not (too_far W (row_at words a) (counters_of a ds))
  reach_near a =
      reach_iff_near W (row_at words a) 0 (counters_of a ds) w (f a)
      (counters-ascend a 0 ds up (λ d m e. (valid d (all-member dot_ok ds ok d m)).counter-low)) (counters-bounded a ds ok)

  pub near-reach : near W words ds ≡ true → (a : ℕ) → all_in_reach W (row_at words a) (counters_of a ds) ≡ true
  unfolding near all_in_reach
  near-reach n a = go (dec_le 1 a) (dec_le a actor_most)
    where
      none : ((1 ≤ a) × (a ≤ actor_most) → ⊥) → all_in_reach W (row_at words a) (counters_of a ds) ≡ true
      none h =
          ap (all_in_reach W (row_at words a))
          (counters-none a ds (λ d m e. let v = valid d (all-member dot_ok ds ok d m) in let l = v.actor-low in let k = v.actor_high in h (omega arith, omega arith)))

      go : Dec (1 ≤ a) → Dec (a ≤ actor_most) → all_in_reach W (row_at words a) (counters_of a ds) ≡ true
      go (yes h) (yes l) = reach_near a ∙ all_to-at actor_most (λ b. not (too_far W (row_at words b) (counters_of b ds))) n a h l
      go (yes h) (no l) = none (λ p. l p.1)
      go (no h) l = none (λ p. h p.0)

  pub reach_all_near : ((a : ℕ) → all_in_reach W (row_at words a) (counters_of a ds) ≡ true) → near W words ds ≡ true
  unfolding near
  reach_all_near r = all_to-all actor_most (λ b. not (too_far W (row_at words b) (counters_of b ds))) (λ a h l. sym (reach_near a) ∙ r a)

  pub ready : length words ≡ clock_words → near W words ds ≡ true → Ready W words ds
  ready s n = record { size = s; rows = rows-tested W words f; ok = ok; reach = near-reach n }

-- ---- the clock's laws

module _ (W : ℕ) (w : 1 ≤ W) (words : List ℕ) (ds : List Dot) (f : Formed W words) (t : T (all dot_ok ds && near W words ds)) where
  from_sorted : (d : Dot) → d ∈ sort compare_dots ds → d ∈ ds
  from_sorted d m = ⊎_elim (λ k. k) (λ k. absurd (Memᴰ.not-nil k)) (insert_all-member compare_dots dots ds [] m)

  to_sorted : (d : Dot) → d ∈ ds → d ∈ sort compare_dots ds
  to_sorted d m = member-insert_all compare_dots dots ds [] (inl m)

  offered-ok : all dot_ok ds ≡ true
  offered-ok = holds (all dot_ok ds) (T_both (all dot_ok ds) (near W words ds) t).0

  -- refusal 10 goes by the set of offered dots
  sorted_near : near W words (sort compare_dots ds) ≡ true
  unfolding near
  sorted_near =
      all_to-all actor_most (λ a. not (too_far W (row_at words a) (counters_of a (sort compare_dots ds)))) (λ a h l.
      ap not (far-set W (row_at words a) (counters_of a (sort compare_dots ds)) (counters_of a ds) (f.rows a) (counters-same a (sort compare_dots ds) ds from_sorted to_sorted))
      ∙ all_to-at actor_most (λ b. not (too_far W (row_at words b) (counters_of b ds))) (holds (near W words ds) (T_both (all dot_ok ds) (near W words ds) t).1) a h l)

  pub sorted_ready : Ready W words (sort compare_dots ds)
  sorted_ready =
      ready W w words (sort compare_dots ds) f.rows (member-all dot_ok (sort compare_dots ds) (λ d m. all-member dot_ok ds offered-ok d (from_sorted d m)))
      (ascending-insert_all compare_dots dots ds [] tt) f.size sorted_near

  pub join-sees : (d : Dot) → T (sees (join_each W words (sort compare_dots ds)) d) ↔ (T (sees words d) ⊎ (d ∈ ds))
  join-sees d = (λ s. to (T_either (sees words d) (member compare d.counter.number cs) (subst T same s)), λ s. subst T (sym same) (from s))
    where
      cs : List ℕ
      cs = counters_of d.actor.number (sort compare_dots ds)

      same : sees (join_each W words (sort compare_dots ds)) d ≡ (sees words d || member compare d.counter.number cs)
      same = join_each-sees W words (sort compare_dots ds) sorted_ready d

      to : T (sees words d) ⊎ T (member compare d.counter.number cs) → T (sees words d) ⊎ (d ∈ ds)
      to (inl s) = inl s
      to (inr s) = inr (from_sorted d (counters-member d.actor.number d.counter.number (sort compare_dots ds) (holds (member compare d.counter.number cs) s)))

      from : T (sees words d) ⊎ (d ∈ ds) → T (sees words d || member compare d.counter.number cs)
      from (inl s) = T_left (sees words d) (member compare d.counter.number cs) s
      from (inr m) = T_right (sees words d) (member compare d.counter.number cs) (pass (member-counters d.actor.number d.counter.number (sort compare_dots ds) (to_sorted d m)))

-- ---- dots offered that were seen already

-- refusal 10 does not go by them
pub near-unseen : (W : ℕ) (words : List ℕ) (ds ds' : List Dot) → rows_ok W words ≡ true
    → ((d : Dot) → sees words d ≡ false → d ∈ ds → d ∈ ds') → ((d : Dot) → sees words d ≡ false → d ∈ ds' → d ∈ ds)
    → near W words ds ≡ near W words ds'
unfolding near sees known
near-unseen W words ds ds' rows to from =
    all_to-same actor_most (λ a. not (too_far W (row_at words a) (counters_of a ds))) (λ a. not (too_far W (row_at words a) (counters_of a ds')))
    (λ a. ap not (far-known W (row_at words a) (counters_of a ds) (counters_of a ds') (rows-well W words rows a) (λ e. by a e (seen (row_at words a) e) refl)))
  where
    by : (a e : ℕ) (b : Bool) → seen (row_at words a) e ≡ b → (b || member compare e (counters_of a ds)) ≡ (b || member compare e (counters_of a ds'))
    by a e true q = refl
    by a e false q =
        both_ways (member compare e (counters_of a ds)) (member compare e (counters_of a ds'))
        (λ t. member-counters a e ds' (to _ q (counters-member a e ds t)))
        (λ t. member-counters a e ds (from _ q (counters-member a e ds' t)))
