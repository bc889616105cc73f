-- Laws of joining several counters, over any window width W: what is seen, that the order is free, and that joining in ascending order meets
-- one out of reach exactly where refusal 10 holds.
-- Assumes nothing.
use Rattle.std.proofs.Common.{◌≡◌, ℕ, zero, suc, ◌+◌, ◌<◌, ◌≤◌, Bool, true, false, cond, not, ◌&&◌, ◌||◌, eqb, ltb, ◌⊎◌, List, [], ◌∷◌, ◌++◌, sym, refl, ap, ◌∙◌, ap₂, inl, inr, true≢false, le_refl, le_antisymm, add-one, arith, ltb-true, le-ltb, lt-ltb, eq-eqb, ne_eqb, eqb-true}
use mathlib.Core.Bool.{or-true, or-false, or_assoc, false≢true, and-eq-true_iff}
use Prim.Native.Nat.{compare}
use native.Mathlib.Decide.{dec_le}
use Rattle.wire.specs.Lists.{is_lt, any, member, ascends_from}
use Rattle.wire.proofs.Tests.{decided, untrue, both_ways}
use Rattle.wire.proofs.Lists.{lt_is}
use Rattle.wire.proofs.Orders.{less_number}
use Rattle.dots.specs.Dots.{max_counter}
use Rattle.clock.specs.Row.{Row, test_bit, seen, join, in_reach}
use Rattle.clock.specs.Offered.{total, known, climb, unbroken, window_events, too_far, join_all, all_in_reach}
use Rattle.clock.proofs.Rows.{WellFormed, seen_low, seen-join, seen-reach, next-unseen, join-formed, one_form, reaches, reaches_not, reached}

-- ---- members

member-cases : (e c : ℕ) (cs : List ℕ) → member compare e (c ∷ cs) ≡ true → (e ≡ c) ⊎ (member compare e cs ≡ true)
unfolding member
member-cases e c cs t = go (decided (eqb e c))
  where
    go : (eqb e c ≡ true) ⊎ (eqb e c ≡ false) → (e ≡ c) ⊎ (member compare e cs ≡ true)
    go (inl q) = inl (eqb-true e c q)
    go (inr q) = inr (ap (λ (b : Bool). b || member compare e cs) (sym q) ∙ t)

member_le_total : (e : ℕ) (cs : List ℕ) → member compare e cs ≡ true → e ≤ total cs
unfolding member total
member_le_total e [] t = absurd (false≢true t)
member_le_total e (c ∷ cs) t = go (member-cases e c cs t) (member_le_total e cs)
  where
    go : (e ≡ c) ⊎ (member compare e cs ≡ true) → (member compare e cs ≡ true → e ≤ total cs) → e ≤ c + total cs
    go (inl q) ih = omega arith
    go (inr q) ih = let l = ih q in omega arith

member-above : (e lo : ℕ) (cs : List ℕ) → ascends_from compare lo cs ≡ true → member compare e cs ≡ true → lo < e
unfolding member ascends_from
member-above e lo [] a t = absurd (false≢true t)
member-above e lo (c ∷ cs) a t =
    let k = (and-eq-true_iff (is_lt (compare lo c)) (ascends_from compare c cs)).0 a in
    go (less_number lo c (lt_is (compare lo c) k.0)) (member-cases e c cs t) (member-above e c cs k.1)
  where
    go : lo < c → (e ≡ c) ⊎ (member compare e cs ≡ true) → (member compare e cs ≡ true → c < e) → lo < e
    go l (inl q) ih = omega arith
    go l (inr q) ih = let m = ih q in omega arith

-- ---- the unbroken run

-- n is the end of the run from 1 of the events that k tells
record Run (k : ℕ → Bool) (n : ℕ) : Type 0 where
  whole : (e : ℕ) → 1 ≤ e → e ≤ n → k e ≡ true
  ends : k (suc n) ≡ false

run_le : (k k' : ℕ → Bool) (m n : ℕ) → ((e : ℕ) → k e ≡ k' e) → Run k m → Run k' n → n ≤ m
run_le k k' m n same p q = go (dec_le n m)
  where
    go : Dec (n ≤ m) → n ≤ m
    go (yes l) = l
    go (no l) = absurd (true≢false (sym (q.whole (suc m) (omega arith) (omega arith)) ∙ sym (same (suc m)) ∙ p.ends))

run_unique : (k k' : ℕ → Bool) (m n : ℕ) → ((e : ℕ) → k e ≡ k' e) → Run k m → Run k' n → m ≡ n
run_unique k k' m n same p q = le_antisymm (run_le k' k n m (λ e. sym (same e)) q p) (run_le k k' m n same p q)

climb-run : (k : ℕ → Bool) (n b : ℕ) → ((e : ℕ) → 1 ≤ e → e ≤ b → k e ≡ true) → ((e : ℕ) → b + n < e → k e ≡ false) → Run k (climb k n b)
unfolding climb
climb-run k zero b low high = record { whole = low; ends = high (suc b) (omega arith) }
climb-run k (suc n) b low high = go (k (suc b)) refl (λ more. climb-run k n (suc b) more (λ e h. high e (omega arith)))
  where
    go : (t : Bool) → k (suc b) ≡ t → (((e : ℕ) → 1 ≤ e → e ≤ suc b → k e ≡ true) → Run k (climb k n (suc b))) → Run k (cond t (climb k n (suc b)) b)
    go false q ih = record { whole = low; ends = q }
    go true q ih = ih (λ e h l. pick e h (dec_le e b) l)
      where
        pick : (e : ℕ) → 1 ≤ e → Dec (e ≤ b) → e ≤ suc b → k e ≡ true
        pick e h (yes m) l = low e h m
        pick e h (no m) l = let p : e ≡ suc b = omega arith in ap k p ∙ q

climb_ge : (k : ℕ → Bool) (n b : ℕ) → b ≤ climb k n b
unfolding climb
climb_ge k zero b = le_refl b
climb_ge k (suc n) b = go (k (suc b)) (climb_ge k n (suc b))
  where
    go : (t : Bool) → suc b ≤ climb k n (suc b) → b ≤ cond t (climb k n (suc b)) b
    go true h = omega arith
    go false h = le_refl b

module _ (W : ℕ) (r : Row) (cs : List ℕ) where
  base-known : (e : ℕ) → 1 ≤ e → e ≤ r.base → known r cs e ≡ true
  unfolding known
  base-known e h l = ap (λ (b : Bool). b || member compare e cs) (seen_low r e h l)

  pub unbroken_ge : r.base ≤ unbroken W r cs
  unfolding unbroken
  unbroken_ge = climb_ge (known r cs) (W + total cs) r.base

  unbroken-run : WellFormed W r → Run (known r cs) (unbroken W r cs)
  unfolding unbroken known
  unbroken-run f = climb-run (known r cs) (W + total cs) r.base base-known none
    where
      none : (e : ℕ) → r.base + (W + total cs) < e → known r cs e ≡ false
      none e h =
          ap₂ (λ (a b : Bool). a || b)
          (untrue (seen r e) (λ t. let l = seen-reach f e t in omega arith))
          (untrue (member compare e cs) (λ t. let l = member_le_total e cs t in omega arith))

-- ---- no seen event is too far

window-near : (k n : ℕ) (r : Row) (cs : List ℕ) → r.base + k ≤ n → any (ltb n) (window_events k r ++ cs) ≡ any (ltb n) cs
unfolding window_events any
window-near zero n r cs h = refl
window-near (suc k) n r cs h = go (test_bit r.window k) (window-near k n r cs (omega arith))
  where
    go : (t : Bool) → any (ltb n) (window_events k r ++ cs) ≡ any (ltb n) cs
        → any (ltb n) (cond t ((r.base + 1 + k) ∷ window_events k r) (window_events k r) ++ cs) ≡ any (ltb n) cs
    go true ih = ap (λ (b : Bool). b || any (ltb n) (window_events k r ++ cs)) (le-ltb n (r.base + 1 + k) (omega arith)) ∙ ih
    go false ih = ih

far-offered : (W : ℕ) (r : Row) (cs : List ℕ) → too_far W r cs ≡ any (ltb (unbroken W r cs + W)) cs
unfolding too_far
far-offered W r cs = let g = unbroken_ge W r cs in window-near W (unbroken W r cs + W) r cs (omega arith)

-- ---- refusal 10 goes by the set of seen and offered events, not by the order of the offered ones, nor by which of them were seen

any-above : (n : ℕ) (cs ds : List ℕ) → ((e : ℕ) → n < e → member compare e cs ≡ true → member compare e ds ≡ true) → any (ltb n) cs ≡ true → any (ltb n) ds ≡ true
unfolding member any
any-above n [] ds sub t = absurd (false≢true t)
any-above n (c ∷ cs) ds sub t =
    go (decided (ltb n c)) (any-above n cs ds (λ e l m. sub e l (ap (λ (b : Bool). eqb e c || b) m ∙ or-true (eqb e c))))
  where
    found : (ds : List ℕ) → n < c → member compare c ds ≡ true → any (ltb n) ds ≡ true
    found [] l m = absurd (false≢true m)
    found (d ∷ ds) l m = at (member-cases c d ds m) (found ds l)
      where
        at : (c ≡ d) ⊎ (member compare c ds ≡ true) → (member compare c ds ≡ true → any (ltb n) ds ≡ true) → (ltb n d || any (ltb n) ds) ≡ true
        at (inl q) ih = ap (λ (b : Bool). b || any (ltb n) ds) (lt-ltb n d (rw q at l))
        at (inr q) ih = ap (λ (b : Bool). ltb n d || b) (ih q) ∙ or-true (ltb n d)

    go : (ltb n c ≡ true) ⊎ (ltb n c ≡ false) → (any (ltb n) cs ≡ true → any (ltb n) ds ≡ true) → any (ltb n) ds ≡ true
    go (inl q) ih = found ds (ltb-true n c q) (sub c (ltb-true n c q) (ap (λ (b : Bool). b || member compare c cs) (eq-eqb c c refl)))
    go (inr q) ih = ih (ap (λ (b : Bool). b || any (ltb n) cs) (sym q) ∙ t)

pub far-known : (W : ℕ) (r : Row) (cs ds : List ℕ) → WellFormed W r → ((e : ℕ) → known r cs e ≡ known r ds e) → too_far W r cs ≡ too_far W r ds
unfolding known
far-known W r cs ds f same =
    far-offered W r cs
    ∙ both_ways (any (ltb n) cs) (any (ltb n) ds) (any-above n cs ds (offered cs ds same)) (any-above n ds cs (offered ds cs (λ e. sym (same e))))
    ∙ ap (λ (m : ℕ). any (ltb (m + W)) ds) run ∙ sym (far-offered W r ds)
  where
    run : unbroken W r cs ≡ unbroken W r ds
    run = run_unique (known r cs) (known r ds) _ _ same (unbroken-run W r cs f) (unbroken-run W r ds f)

    n : ℕ
    n = unbroken W r cs + W

    -- an event above n was not seen
    offered : (xs ys : List ℕ) → ((e : ℕ) → known r xs e ≡ known r ys e) → (e : ℕ) → n < e → member compare e xs ≡ true → member compare e ys ≡ true
    offered xs ys q e l t =
        let unseen = untrue (seen r e) (λ s. let k = seen-reach f e s in let g = unbroken_ge W r cs in omega arith) in
        sym (ap (λ (b : Bool). b || member compare e ys) unseen) ∙ sym (q e) ∙ ap (λ (b : Bool). seen r e || b) t ∙ or-true (seen r e)

pub far-set : (W : ℕ) (r : Row) (cs ds : List ℕ) → WellFormed W r → ((e : ℕ) → member compare e cs ≡ member compare e ds) → too_far W r cs ≡ too_far W r ds
unfolding known
far-set W r cs ds f same = far-known W r cs ds f (λ e. ap (λ (b : Bool). seen r e || b) (same e))

-- ---- one joined, the others still offered

known-join : (W : ℕ) (r : Row) (c : ℕ) (cs : List ℕ) → 1 ≤ c → (e : ℕ) → known (join W r c) cs e ≡ known r (c ∷ cs) e
unfolding known member
known-join W r c cs h e = ap (λ (b : Bool). b || member compare e cs) (seen-join W r c e h) ∙ or_assoc (seen r e) (eqb e c) (member compare e cs)

module _ (W : ℕ) (r : Row) (c : ℕ) (cs : List ℕ) (f : WellFormed W r) (h : 1 ≤ c) where
  far-join : c ≤ r.base + W → c ≤ max_counter → too_far W (join W r c) cs ≡ too_far W r (c ∷ cs)
  unfolding any
  far-join l m =
      let same : unbroken W (join W r c) cs ≡ unbroken W r (c ∷ cs) =
      run_unique (known (join W r c) cs) (known r (c ∷ cs)) _ _ (known-join W r c cs h) (unbroken-run W (join W r c) cs (join-formed W r c f h l m)) (unbroken-run W r (c ∷ cs) f) in
      let g = unbroken_ge W r (c ∷ cs) in
      far-offered W (join W r c) cs ∙ ap (λ (n : ℕ). any (ltb (n + W)) cs) same
      ∙ sym (ap (λ (b : Bool). b || any (ltb (unbroken W r (c ∷ cs) + W)) cs) (le-ltb (unbroken W r (c ∷ cs) + W) c (omega arith)))
      ∙ sym (far-offered W r (c ∷ cs))

  -- out of reach, and no smaller one is offered: nothing closes the gap above the base
  far-out : 1 ≤ W → r.base + W < c → ascends_from compare c cs ≡ true → too_far W r (c ∷ cs) ≡ true
  unfolding any known member
  far-out w l a =
      let gap : known r (c ∷ cs) (suc r.base) ≡ false =
      ap₂ (λ (x y : Bool). x || y) (ap (seen r) (sym (add-one r.base)) ∙ next-unseen f)
      (ap₂ (λ (x y : Bool). x || y) (ne_eqb (suc r.base) c (λ q. omega arith))
      (untrue (member compare (suc r.base) cs) (λ t. let k = member-above (suc r.base) c cs a t in omega arith))) in
      let stays : unbroken W r (c ∷ cs) ≡ r.base =
      run_unique (known r (c ∷ cs)) (known r (c ∷ cs)) _ _ (λ e. refl) (unbroken-run W r (c ∷ cs) f) (record { whole = base-known W r (c ∷ cs); ends = gap }) in
      far-offered W r (c ∷ cs) ∙ ap (λ (n : ℕ). any (ltb (n + W)) (c ∷ cs)) stays
      ∙ ap (λ (b : Bool). b || any (ltb (r.base + W)) cs) (lt-ltb (r.base + W) c l)

-- ---- joining in ascending order succeeds exactly where refusal 10 does not hold

-- every offered number is a counter
abbrev pub Counters : List ℕ → Type 0
Counters cs = (e : ℕ) → member compare e cs ≡ true → e ≤ max_counter

head-counter : (c : ℕ) (cs : List ℕ) → Counters (c ∷ cs) → c ≤ max_counter
unfolding member
head-counter c cs m = m c (ap (λ (b : Bool). b || member compare c cs) (eq-eqb c c refl))

tail-counters : (c : ℕ) (cs : List ℕ) → Counters (c ∷ cs) → Counters cs
unfolding member
tail-counters c cs m e t = m e (ap (λ (b : Bool). eqb e c || b) t ∙ or-true (eqb e c))

pub reach_iff_near : (W : ℕ) (r : Row) (lo : ℕ) (cs : List ℕ) → 1 ≤ W → WellFormed W r → ascends_from compare lo cs ≡ true → Counters cs
    → all_in_reach W r cs ≡ not (too_far W r cs)
unfolding all_in_reach ascends_from any
reach_iff_near W r lo [] w f a m = ap not (sym (far-offered W r []))
reach_iff_near W r lo (c ∷ cs) w f a m =
    let k = (and-eq-true_iff (is_lt (compare lo c)) (ascends_from compare c cs)).0 a in
    go (less_number lo c (lt_is (compare lo c) k.0)) k.1 (dec_le c (r.base + W))
    (λ f'. reach_iff_near W (join W r c) c cs w f' k.1 (tail-counters c cs m))
  where
    go : lo < c → ascends_from compare c cs ≡ true → Dec (c ≤ r.base + W)
        → (WellFormed W (join W r c) → all_in_reach W (join W r c) cs ≡ not (too_far W (join W r c) cs))
        → (in_reach W r c && all_in_reach W (join W r c) cs) ≡ not (too_far W r (c ∷ cs))
    go l a (yes h) ih =
        let one : 1 ≤ c = omega arith in
        let top = head-counter c cs m in
        ap (λ (b : Bool). b && all_in_reach W (join W r c) cs) (reaches W r c one h)
        ∙ ih (join-formed W r c f one h top) ∙ ap not (far-join W r c cs f one h top)
    go l a (no h) ih =
        let out : r.base + W < c = omega arith in
        ap (λ (b : Bool). b && all_in_reach W (join W r c) cs) (reaches_not W r c out)
        ∙ sym (ap not (far-out W r c cs f (omega arith) w out a))

-- ---- what all joins together give

module _ (W : ℕ) where
  pub seen-join_all : (r : Row) (cs : List ℕ) → all_in_reach W r cs ≡ true → (e : ℕ) → seen (join_all W r cs) e ≡ known r cs e
  unfolding join_all all_in_reach known member
  seen-join_all r [] a e = sym (or-false (seen r e))
  seen-join_all r (c ∷ cs) a e =
      let k = (and-eq-true_iff (in_reach W r c) (all_in_reach W (join W r c) cs)).0 a in
      seen-join_all (join W r c) cs k.1 e ∙ known-join W r c cs (reached W r c k.0).0 e

  pub join_all-formed : (r : Row) (cs : List ℕ) → WellFormed W r → Counters cs → all_in_reach W r cs ≡ true → WellFormed W (join_all W r cs)
  unfolding join_all all_in_reach
  join_all-formed r [] f m a = f
  join_all-formed r (c ∷ cs) f m a =
      let k = (and-eq-true_iff (in_reach W r c) (all_in_reach W (join W r c) cs)).0 a in
      let h = reached W r c k.0 in
      join_all-formed (join W r c) cs (join-formed W r c f h.0 h.1 (head-counter c cs m)) (tail-counters c cs m) k.1

  -- the order of the joins, and repeats, do not matter
  pub join_all-order : (r : Row) (cs ds : List ℕ) → WellFormed W r → Counters cs → all_in_reach W r cs ≡ true → all_in_reach W r ds ≡ true
      → ((e : ℕ) → member compare e cs ≡ member compare e ds) → join_all W r cs ≡ join_all W r ds
  unfolding known
  join_all-order r cs ds f m a b same =
      one_form (join_all-formed r cs f m a) (join_all-formed r ds f (λ e t. m e (same e ∙ t)) b)
      (λ e. seen-join_all r cs a e ∙ ap (λ (x : Bool). seen r e || x) (same e) ∙ sym (seen-join_all r ds b e))
