-- Laws of the row, over any window width W.
-- Assumes nothing.
use Rattle.std.proofs.Common.{◌≡◌, ℕ, zero, suc, ◌+◌, ◌-◌, ◌/◌, ◌%◌, ◌^◌, ◌<◌, ◌≤◌, min, Bool, true, false, cond, ◌&&◌, ◌||◌, eqb, ltb, leb, ◌⊎◌, sym, refl, ap, ◌∙◌, ap₂, inl, inr, true≢false, lt_of_lt_of_le, le_antisymm, arith, pow_mono, shr_lt, ltb-true, le-ltb, lt-ltb, eq-eqb, ne_eqb, eqb-true, le-leb, leb-true}
use mathlib.Core.Bool.{or-true, or-false, and-true, and-eq-true_iff}
use native.Mathlib.Decide.{dec_le}
use borrow.Author.Tests.{eqb-false, lt-leb}
use Rattle.wire.proofs.Tests.{decided}
use Rattle.dots.specs.Dots.{max_counter}
use Rattle.clock.specs.Row.{Row, test_bit, seen, well_formed, trailing_ones, settled, marked, join, in_reach}
use Rattle.clock.proofs.Bits.{shr_zero, test_bit_shr, test_bit-zero, test_bit-below, test_bit_ext, test_bit-add, clear_digit, add_bit_lt, ones_set, ones_end, ones_le, ones_width}

-- ---- what a row sees: nothing at 0, all up to the base, and above it what the window says

-- a counter is 0, or from 1 to b, or a place above b
pub place : (b e : ℕ) → (e ≡ 0) ⊎ ((1 ≤ e) × (e ≤ b)) ⊎ ((i : ℕ) × (e ≡ b + 1 + i))
place b zero = inl refl
place b (suc e) = inr (go (dec_le (suc e) b))
  where
    go : Dec (suc e ≤ b) → ((1 ≤ suc e) × (suc e ≤ b)) ⊎ ((i : ℕ) × (suc e ≡ b + 1 + i))
    go (yes h) = inl (omega arith, h)
    go (no h) = inr (suc e - (b + 1), omega arith)

module _ (r : Row) where
  pub seen-zero : seen r 0 ≡ false
  unfolding seen
  seen-zero = ap (λ (b : Bool). b && test_bit r.window (0 - r.base - 1)) (le-ltb r.base 0 (omega arith))

  pub seen_up_to : (e : ℕ) → e ≤ r.base → seen r e ≡ leb 1 e
  unfolding seen
  seen_up_to e l = rw (le-leb e r.base l, le-ltb r.base e l) (or-false (leb 1 e && true) ∙ and-true (leb 1 e))

  pub seen_low : (e : ℕ) → 1 ≤ e → e ≤ r.base → seen r e ≡ true
  seen_low e h l = seen_up_to e l ∙ le-leb 1 e h

  pub seen-past : (e : ℕ) → r.base < e → seen r e ≡ test_bit r.window (e - r.base - 1)
  unfolding seen
  seen-past e h = rw (le-leb 1 e (omega arith), lt-leb e r.base h, lt-ltb r.base e h)

  pub seen-above : (i : ℕ) → seen r (r.base + 1 + i) ≡ test_bit r.window i
  seen-above i =
      let place : r.base + 1 + i - r.base - 1 ≡ i = omega arith in
      seen-past (r.base + 1 + i) (omega arith) ∙ ap (test_bit r.window) place

  -- an unseen counter is above the base
  pub above-base : (c : ℕ) → 1 ≤ c → seen r c ≡ false → r.base < c
  above-base c h u = go (dec_le c r.base)
    where
      go : Dec (c ≤ r.base) → r.base < c
      go (yes l) = absurd (true≢false (sym (seen_low c h l) ∙ u))
      go (no l) = omega arith

-- ---- what a join sees

pub seen-settled : (W : ℕ) (r : Row) (e : ℕ) → seen (settled W r) e ≡ seen r e
unfolding settled
seen-settled W r e = go (place r.base e)
  where
    run : ℕ
    run = trailing_ones W r.window

    inside : (i : ℕ) → Dec (run ≤ i) → seen (settled W r) (r.base + 1 + i) ≡ test_bit r.window i
    inside i (yes h) =
        let m : ℕ = i - run in
        let at : r.base + 1 + i ≡ r.base + run + 1 + m = omega arith in
        let back : run + m ≡ i = omega arith in
        ap (seen (settled W r)) at ∙ seen-above (settled W r) m ∙ test_bit_shr r.window run m ∙ ap (test_bit r.window) back
    inside i (no h) = seen_low (settled W r) (r.base + 1 + i) (omega arith) (omega arith) ∙ sym (ones_set W r.window i (omega arith))

    go : (e ≡ 0) ⊎ ((1 ≤ e) × (e ≤ r.base)) ⊎ ((i : ℕ) × (e ≡ r.base + 1 + i)) → seen (settled W r) e ≡ seen r e
    go (inl z) = ap (seen (settled W r)) z ∙ seen-zero (settled W r) ∙ sym (seen-zero r) ∙ ap (seen r) (sym z)
    go (inr (inl h)) = seen_low (settled W r) e h.0 (omega arith) ∙ sym (seen_low r e h.0 h.1)
    go (inr (inr h)) =
        ap (seen (settled W r)) h.1 ∙ inside h.0 (dec_le run h.0) ∙ sym (seen-above r h.0) ∙ ap (seen r) (sym h.1)

same_place : (b i c : ℕ) → b < c → eqb i (c - b - 1) ≡ eqb (b + 1 + i) c
same_place b i c h = go (decided (eqb (b + 1 + i) c))
  where
    go : (eqb (b + 1 + i) c ≡ true) ⊎ (eqb (b + 1 + i) c ≡ false) → eqb i (c - b - 1) ≡ eqb (b + 1 + i) c
    go (inl t) = let q : b + 1 + i ≡ c = eqb-true (b + 1 + i) c t in eq-eqb i (c - b - 1) (omega arith) ∙ sym t
    go (inr f) = let q : b + 1 + i ≡ c → ⊥ = eqb-false (b + 1 + i) c f in ne_eqb i (c - b - 1) (λ e. q (omega arith)) ∙ sym f

pub seen-marked : (r : Row) (c e : ℕ) → r.base < c → seen r c ≡ false → seen (marked r c) e ≡ (seen r e || eqb e c)
unfolding marked
seen-marked r c e h u = go (place r.base e)
  where
    j : ℕ
    j = c - r.base - 1

    at : c ≡ r.base + 1 + j
    at = omega arith

    clear : test_bit r.window j ≡ false
    clear = sym (seen-above r j) ∙ ap (seen r) (sym at) ∙ u

    go : (e ≡ 0) ⊎ ((1 ≤ e) × (e ≤ r.base)) ⊎ ((i : ℕ) × (e ≡ r.base + 1 + i)) → seen (marked r c) e ≡ (seen r e || eqb e c)
    go (inl z) =
        ap (seen (marked r c)) z ∙ seen-zero (marked r c)
        ∙ sym (ap₂ (λ (a b : Bool). a || b) (ap (seen r) z ∙ seen-zero r) (ne_eqb e c (λ q. omega arith)))
    go (inr (inl k)) = seen_low (marked r c) e k.0 k.1 ∙ sym (ap (λ (b : Bool). b || eqb e c) (seen_low r e k.0 k.1))
    go (inr (inr k)) =
        ap (seen (marked r c)) k.1 ∙ seen-above (marked r c) k.0 ∙ test_bit-add r.window j k.0 clear
        ∙ ap₂ (λ (a b : Bool). a || b) (sym (seen-above r k.0) ∙ ap (seen r) (sym k.1)) (same_place r.base k.0 c h ∙ ap (λ (x : ℕ). eqb x c) (sym k.1))

-- joining a seen event changes nothing
pub join-seen : (W : ℕ) (r : Row) (c : ℕ) → seen r c ≡ true → join W r c ≡ r
unfolding join
join-seen W r c t = ap (λ (b : Bool). cond b r (settled W (marked r c))) t

pub join-unseen : (W : ℕ) (r : Row) (c : ℕ) → seen r c ≡ false → join W r c ≡ settled W (marked r c)
unfolding join
join-unseen W r c f = ap (λ (b : Bool). cond b r (settled W (marked r c))) f

-- a join sees what the row sees, and the joined event
pub seen-join : (W : ℕ) (r : Row) (c e : ℕ) → 1 ≤ c → seen (join W r c) e ≡ (seen r e || eqb e c)
seen-join W r c e h = go (decided (seen r c))
  where
    same : seen r c ≡ true → (eqb e c ≡ true) ⊎ (eqb e c ≡ false) → seen r e ≡ (seen r e || eqb e c)
    same t (inl q) = ap (seen r) (eqb-true e c q) ∙ t ∙ sym (or-true (seen r e)) ∙ ap (λ (b : Bool). seen r e || b) (sym q)
    same t (inr q) = sym (or-false (seen r e)) ∙ ap (λ (b : Bool). seen r e || b) (sym q)

    go : (seen r c ≡ true) ⊎ (seen r c ≡ false) → seen (join W r c) e ≡ (seen r e || eqb e c)
    go (inl t) = ap (λ (s : Row). seen s e) (join-seen W r c t) ∙ same t (decided (eqb e c))
    go (inr f) =
        ap (λ (s : Row). seen s e) (join-unseen W r c f) ∙ seen-settled W (marked r c) e
        ∙ seen-marked r c e (above-base r c h f) f

-- ---- well-formed rows

-- what the test says
pub record WellFormed (W : ℕ) (r : Row) : Type 0 where
  pub small : r.base ≤ max_counter
  pub gap : r.window % 2 ≡ 0
  pub bound : r.window < 2 ^ min W (max_counter - r.base)

pub formed : {W : ℕ} {r : Row} → well_formed W r ≡ true → WellFormed W r
unfolding well_formed
formed {W} {r} t =
    let a = (and-eq-true_iff (leb r.base max_counter) (eqb (r.window % 2) 0 && ltb r.window (2 ^ min W (max_counter - r.base)))).0 t in
    let b = (and-eq-true_iff (eqb (r.window % 2) 0) (ltb r.window (2 ^ min W (max_counter - r.base)))).0 a.1 in
    record {
      small = leb-true r.base max_counter a.0;
      gap = eqb-true (r.window % 2) 0 b.0;
      bound = ltb-true r.window (2 ^ min W (max_counter - r.base)) b.1;
    }

pub forms : {W : ℕ} {r : Row} → WellFormed W r → well_formed W r ≡ true
unfolding well_formed
forms {W} {r} f =
    rw (le-leb r.base max_counter f.small, eq-eqb (r.window % 2) 0 f.gap, lt-ltb r.window (2 ^ min W (max_counter - r.base)) f.bound)

-- the test, by cases
module _ (W : ℕ) (r : Row) (small : r.base ≤ max_counter) where
  pub odd_window : (r.window % 2 ≡ 0 → ⊥) → well_formed W r ≡ false
  unfolding well_formed
  odd_window o = rw (le-leb r.base max_counter small, ne_eqb (r.window % 2) 0 o)

  pub enough_room : r.window % 2 ≡ 0 → W ≤ max_counter - r.base → r.window < 2 ^ W → well_formed W r ≡ true
  unfolding well_formed
  enough_room g l h =
      let width : min W (max_counter - r.base) ≡ W = omega arith in
      rw (le-leb r.base max_counter small, eq-eqb (r.window % 2) 0 g, width, lt-ltb r.window (2 ^ W) h)

  pub less_room : r.window % 2 ≡ 0 → max_counter - r.base < W → well_formed W r ≡ eqb (r.window / 2 ^ (max_counter - r.base)) 0
  unfolding well_formed
  less_room g l =
      let width : min W (max_counter - r.base) ≡ max_counter - r.base = omega arith in
      rw (le-leb r.base max_counter small, eq-eqb (r.window % 2) 0 g, width) (sym (shr_zero r.window (max_counter - r.base)))

module _ {W : ℕ} {r : Row} (f : WellFormed W r) where
  -- the event above the base is not seen
  pub next-unseen : seen r (r.base + 1) ≡ false
  next-unseen =
      let at : r.base + 1 ≡ r.base + 1 + 0 = omega arith in
      ap (seen r) at ∙ seen-above r 0 ∙ test_bit-zero r.window ∙ ap (λ (x : ℕ). eqb x 1) f.gap

  -- a seen event is within the window, and a counter
  pub seen-reach : (e : ℕ) → seen r e ≡ true → (e ≤ r.base + W) × (e ≤ max_counter)
  seen-reach e t = go (place r.base e)
    where
      go : (e ≡ 0) ⊎ ((1 ≤ e) × (e ≤ r.base)) ⊎ ((i : ℕ) × (e ≡ r.base + 1 + i)) → (e ≤ r.base + W) × (e ≤ max_counter)
      go (inl z) = (omega arith, omega arith)
      go (inr (inl h)) = let s = f.small in (omega arith, omega arith)
      go (inr (inr h)) =
          let l = test_bit-below (min W (max_counter - r.base)) h.0 f.bound (sym (seen-above r h.0) ∙ ap (seen r) (sym h.1) ∙ t) in
          let s = f.small in
          (omega arith, omega arith)

pub settled-formed : (W : ℕ) (r : Row) → r.base ≤ max_counter → r.window < 2 ^ min W (max_counter - r.base) → WellFormed W (settled W r)
unfolding settled
settled-formed W r s b =
    let room : ℕ = min W (max_counter - r.base) in
    let run : ℕ = trailing_ones W r.window in
    let fits : run ≤ room = ones_le W room b in
    let in-width : r.window < 2 ^ W = lt_of_lt_of_le b (pow_mono (omega arith)) in
    let split : room - run + run ≡ room = omega arith in
    record {
      small = omega arith;
      gap = clear_digit r.window run (ones_end W r.window in-width);
      bound = lt_of_lt_of_le (shr_lt (room - run) run (rw split b)) (pow_mono (omega arith));
    }

-- a join within reach keeps a row well-formed
pub join-formed : (W : ℕ) (r : Row) (c : ℕ) → WellFormed W r → 1 ≤ c → c ≤ r.base + W → c ≤ max_counter → WellFormed W (join W r c)
unfolding marked
join-formed W r c f h l m = go (decided (seen r c))
  where
    go : (seen r c ≡ true) ⊎ (seen r c ≡ false) → WellFormed W (join W r c)
    go (inl t) = rw (join-seen W r c t) f
    go (inr u) =
        let above = above-base r c h u in
        let j : ℕ = c - r.base - 1 in
        let at : r.base + 1 + j ≡ c = omega arith in
        let clear : test_bit r.window j ≡ false = sym (seen-above r j) ∙ ap (seen r) at ∙ u in
        rw (join-unseen W r c u) (settled-formed W (marked r c) f.small (add_bit_lt (min W (max_counter - r.base)) j f.bound (omega arith) clear))

-- a join moves the base up, by at most W
pub join_moves : (W : ℕ) (r : Row) (c : ℕ) → (r.base ≤ (join W r c).base) × ((join W r c).base ≤ r.base + W)
unfolding settled marked
join_moves W r c = go (decided (seen r c))
  where
    go : (seen r c ≡ true) ⊎ (seen r c ≡ false) → (r.base ≤ (join W r c).base) × ((join W r c).base ≤ r.base + W)
    go (inl t) = rw (join-seen W r c t) (omega arith)
    go (inr u) = let run = ones_width W (marked r c).window in rw (join-unseen W r c u) (omega arith)

-- ---- a set of seen events has one form only

base_le : {W : ℕ} (r : Row) {s : Row} → WellFormed W s → ((e : ℕ) → seen r e ≡ seen s e) → r.base ≤ s.base
base_le r {s} g same = go (dec_le r.base s.base)
  where
    go : Dec (r.base ≤ s.base) → r.base ≤ s.base
    go (yes l) = l
    go (no l) = absurd (true≢false (sym (seen_low r (s.base + 1) (omega arith) (omega arith)) ∙ same (s.base + 1) ∙ next-unseen g))

pub row_eq : {r s : Row} → r.base ≡ s.base → r.window ≡ s.window → r ≡ s
row_eq p q = λ i. record { base = p i; window = q i }

pub one_form : {W : ℕ} {r s : Row} → WellFormed W r → WellFormed W s → ((e : ℕ) → seen r e ≡ seen s e) → r ≡ s
one_form {W} {r} {s} f g same = row_eq bases windows
  where
    bases : r.base ≡ s.base
    bases = le_antisymm (base_le r g same) (base_le s f (λ e. sym (same e)))

    windows : r.window ≡ s.window
    windows =
        test_bit_ext r.window s.window
        (λ i. sym (seen-above r i) ∙ same (r.base + 1 + i) ∙ ap (λ (b : ℕ). seen s (b + 1 + i)) bases ∙ seen-above s i)

-- ---- reach

pub reach_up_to : (W : ℕ) (r : Row) (c : ℕ) → c ≤ r.base → in_reach W r c ≡ leb 1 c
unfolding in_reach
reach_up_to W r c h = rw (le-leb c (r.base + W) (omega arith)) (and-true (leb 1 c))

pub reach-past : (W : ℕ) (r : Row) (c : ℕ) → r.base < c → in_reach W r c ≡ leb (c - r.base) W
unfolding in_reach
reach-past W r c h = rw (le-leb 1 c (omega arith)) (go (dec_le c (r.base + W)))
  where
    go : Dec (c ≤ r.base + W) → leb c (r.base + W) ≡ leb (c - r.base) W
    go (yes l) = le-leb c (r.base + W) l ∙ sym (le-leb (c - r.base) W (omega arith))
    go (no l) = lt-leb c (r.base + W) (omega arith) ∙ sym (lt-leb (c - r.base) W (omega arith))

pub reaches : (W : ℕ) (r : Row) (c : ℕ) → 1 ≤ c → c ≤ r.base + W → in_reach W r c ≡ true
unfolding in_reach
reaches W r c h l = rw (le-leb 1 c h, le-leb c (r.base + W) l)

pub reaches_not : (W : ℕ) (r : Row) (c : ℕ) → r.base + W < c → in_reach W r c ≡ false
unfolding in_reach
reaches_not W r c h = rw (le-leb 1 c (omega arith), lt-leb c (r.base + W) h)

pub reached : (W : ℕ) (r : Row) (c : ℕ) → in_reach W r c ≡ true → (1 ≤ c) × (c ≤ r.base + W)
unfolding in_reach
reached W r c t =
    let a = (and-eq-true_iff (leb 1 c) (leb c (r.base + W))).0 t in
    (leb-true 1 c a.0, leb-true c (r.base + W) a.1)

-- what the code needs of an event that is in reach and not seen
pub record NewEvent (W : ℕ) (r : Row) (c : ℕ) : Type 0 where
  pub above : r.base < c
  pub near : c - r.base - 1 < W
  pub clear : test_bit r.window (c - r.base - 1) ≡ false
  pub fits : r.base + trailing_ones W (r.window + 2 ^ (c - r.base - 1)) ≤ max_counter

pub new-event : (W : ℕ) (r : Row) (c : ℕ) → well_formed W r ≡ true → in_reach W r c ≡ true → c ≤ max_counter → seen r c ≡ false → NewEvent W r c
unfolding settled marked
new-event W r c t i m u =
    let near = reached W r c i in
    let above = above-base r c near.0 u in
    let kept = join-formed W r c (formed t) near.0 near.1 m in
    record {
      above = above;
      near = omega arith;
      clear = sym (seen-past r c above) ∙ u;
      fits = rw (join-unseen W r c u) at kept.small;
    }
