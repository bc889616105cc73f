-- "A controller's own window is always 0": it stays so where no own dot joins the clock but the next. Assumes nothing.
use Prim.Native.Nat.{ℕ, ◌+◌, ◌-◌, ◌≤◌}
use mathlib.Core.Path.{◌≡◌, refl, sym, ap, subst, ◌∙◌}
use mathlib.Core.Logic.{◌↔◌, ◌⊎◌, inl, inr}
use mathlib.Core.Bool.{true, not, true≢false}
use mathlib.Core.List.{List}
use native.Mathlib.Decide.{dec_le}
use native.Mathlib.Omega.{arith}
use lib.Dec.{T}
use lib.Pow.{pow_pos}
use borrow.Author.Tests.{leb-true}
use Rattle.wire.specs.Lists.{◌∈◌, all, member, sort}
use Rattle.wire.proofs.Tests.{decide, both_ways, pass, holds, T_both}
use Rattle.wire.proofs.Lists.{all-member, member-sound, not_member}
use Rattle.dots.specs.declared.Actor.{Actor}
use Rattle.dots.specs.declared.Dot.{Dot}
use Rattle.dots.specs.Dots.{dot_of, max_counter, compare_dots, dot_ok}
use Rattle.dots.proofs.Orders.{dots}
use Rattle.dots.proofs.Rules.{valid}
use Rattle.clock.specs.Row.{Row, window_width, seen}
use Rattle.clock.specs.Clock.{row_at, sees, near, join_all}
use Rattle.clock.proofs.Bits.{test_bit_high}
use Rattle.clock.proofs.Rows.{WellFormed, row_eq, one_form, seen_up_to, seen_low, seen-past}
use Rattle.clock.proofs.Clocks.{Formed, join_each-formed, sorted_ready, join-sees}
use Rattle.calls.specs.State.{clock_model}

-- ---- the clock after dots have joined it

module _ (words : List ℕ) (ds : List Dot) (f : Formed window_width words) (fits : T (clock_model.fits words ds)) where
  pub joined-formed : Formed window_width (join_all window_width words ds)
  unfolding join_all
  joined-formed = join_each-formed window_width words (sort compare_dots ds) (sorted_ready window_width (omega arith) words ds f fits)

  pub joined-sees : (d : Dot) → T (sees (join_all window_width words ds) d) ↔ (T (sees words d) ⊎ (d ∈ ds))
  unfolding join_all
  joined-sees = join-sees window_width (omega arith) words ds f fits

-- ---- a row that sees the events 1 to n, and no other

abbrev Plain : ℕ → Row → Type 0
Plain n r = (e : ℕ) → (seen r e ≡ true) ↔ ((1 ≤ e) × (e ≤ n))

abbrev plain_row : ℕ → Row
plain_row n = record { base = n; window = 0 }

plain_row_lem : (n : ℕ) → Plain n (plain_row n)
plain_row_lem n e = (to (dec_le e n), λ h. seen_low (plain_row n) e h.0 h.1)
  where
    to : Dec (e ≤ n) → seen (plain_row n) e ≡ true → (1 ≤ e) × (e ≤ n)
    to (yes l) t = (leb-true 1 e (sym (seen_up_to (plain_row n) e l) ∙ t), l)
    to (no l) t = absurd (true≢false (sym t ∙ seen-past (plain_row n) e (omega arith) ∙ test_bit_high 0 (e - n - 1) (pow_pos 0) (omega arith)))

-- with no window it sees just these, and where it sees just these it has no window
plain : (r : Row) → r.window ≡ 0 → Plain r.base r
plain r none = subst (Plain r.base) (sym (row_eq refl none)) (plain_row_lem r.base)

plain-window : (n : ℕ) (r : Row) → WellFormed window_width r → n ≤ max_counter → Plain n r → r.window ≡ 0
plain-window n r f small p =
    let g : WellFormed window_width (plain_row n) = record { small = small; gap = refl; bound = pow_pos _ } in
    ap (λ (s : Row). s.window) (one_form f g (λ e. both_ways (seen r e) (seen (plain_row n) e) (λ t. (plain_row_lem n e).1 ((p e).0 t)) (λ t. (p e).1 ((plain_row_lem n e).0 t))))

-- ---- the own row after dots have joined

module _ (words : List ℕ) (own : Actor) (ds : List Dot) (f : Formed window_width words) (fits : T (clock_model.fits words ds)) (none : (row_at words own.number).window ≡ 0)
    (next : (n : ℕ) → dot_of own n ∈ ds → n ≡ (row_at words own.number).base + 1) where
  abbrev base : ℕ
  base = (row_at words own.number).base

  after-sees : (e : ℕ) → (seen (row_at (join_all window_width words ds) own.number) e ≡ true) ↔ (((1 ≤ e) × (e ≤ base)) ⊎ (dot_of own e ∈ ds))
  unfolding sees
  after-sees e = (λ t. to ((joined-sees words ds f fits (dot_of own e)).0 (pass t)), λ h. holds _ ((joined-sees words ds f fits (dot_of own e)).1 (from h)))
    where
      before : Plain base (row_at words own.number)
      before = plain (row_at words own.number) none

      to : T (seen (row_at words own.number) e) ⊎ (dot_of own e ∈ ds) → ((1 ≤ e) × (e ≤ base)) ⊎ (dot_of own e ∈ ds)
      to (inl t) = inl ((before e).0 (holds _ t))
      to (inr k) = inr k

      from : ((1 ≤ e) × (e ≤ base)) ⊎ (dot_of own e ∈ ds) → T (seen (row_at words own.number) e) ⊎ (dot_of own e ∈ ds)
      from (inl h) = inl (pass ((before e).1 h))
      from (inr k) = inr k

  own_window_by : (n : ℕ) → n ≤ max_counter → ((e : ℕ) → (((1 ≤ e) × (e ≤ base)) ⊎ (dot_of own e ∈ ds)) ↔ ((1 ≤ e) × (e ≤ n))) → (row_at (join_all window_width words ds) own.number).window ≡ 0
  own_window_by n small same =
      plain-window n (row_at (join_all window_width words ds) own.number) ((joined-formed words ds f fits).rows own.number) small
      (λ e. (λ t. (same e).0 ((after-sees e).0 t), λ h. (after-sees e).1 ((same e).1 h)))

  pub own-window : (row_at (join_all window_width words ds) own.number).window ≡ 0
  own-window = by (decide (member compare_dots (dot_of own (base + 1)) ds))
    where
      joined : dot_of own (base + 1) ∈ ds → (e : ℕ) → (((1 ≤ e) × (e ≤ base)) ⊎ (dot_of own e ∈ ds)) ↔ ((1 ≤ e) × (e ≤ base + 1))
      joined k e = (to, λ h. from h (dec_le e base))
        where
          to : ((1 ≤ e) × (e ≤ base)) ⊎ (dot_of own e ∈ ds) → (1 ≤ e) × (e ≤ base + 1)
          to (inl h) = (h.0, omega arith)
          to (inr m) = let q = next e m in (omega arith, omega arith)

          from : (1 ≤ e) × (e ≤ base + 1) → Dec (e ≤ base) → ((1 ≤ e) × (e ≤ base)) ⊎ (dot_of own e ∈ ds)
          from h (yes l) = inl (h.0, l)
          from h (no l) = let q : base + 1 ≡ e = omega arith in inr (subst (λ n. dot_of own n ∈ ds) q k)

      not_joined : T (not (member compare_dots (dot_of own (base + 1)) ds)) → (e : ℕ) → (((1 ≤ e) × (e ≤ base)) ⊎ (dot_of own e ∈ ds)) ↔ ((1 ≤ e) × (e ≤ base))
      not_joined t e = (to, inl)
        where
          to : ((1 ≤ e) × (e ≤ base)) ⊎ (dot_of own e ∈ ds) → (1 ≤ e) × (e ≤ base)
          to (inl h) = h
          to (inr m) = absurd (not_member compare_dots dots ds t (subst (λ n. dot_of own n ∈ ds) (next e m) m))

      by : T (member compare_dots (dot_of own (base + 1)) ds) ⊎ T (not (member compare_dots (dot_of own (base + 1)) ds)) → (row_at (join_all window_width words ds) own.number).window ≡ 0
      by (inl t) =
          let k = member-sound compare_dots dots ds t in
          let ok = all-member dot_ok ds (holds (all dot_ok ds) (T_both (all dot_ok ds) (near window_width words ds) fits).0) (dot_of own (base + 1)) k in
          own_window_by (base + 1) (valid (dot_of own (base + 1)) ok).counter_high (joined k)
      by (inr t) = own_window_by base (f.rows own.number).small (not_joined t)
