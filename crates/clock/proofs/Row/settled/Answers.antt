-- The complement's trailing zeros are the run of low ones.
use Rattle.std.proofs.Common.{rules, ◌≡◌, ℕ, ◌+◌, ◌-◌, ◌/◌, ◌^◌, sym, ap, ◌∙◌, arith}
use native.Mathlib.Nat.{div-eq_of_lt}
use lib.Count.{count_trailing_zeros, trailing_le}
use Rattle.clock.specs.Row.{window_width, trailing_ones, settled}
use Rattle.clock.proofs.Bits.{ones_zeros}
use Rattle.clock.proofs.Rows.{row_eq}
use Rattle.clock.proofs.Row.settled.Goals as goal
use Rattle.clock.proofs.Row.settled.Goals.{Else-run-lt-WINDOW_RUN, Start}

run : (c : Start) → trailing_ones window_width c.args.self.window ≡ count_trailing_zeros window_width (2 ^ window_width - 1 - c.args.self.window)
run c = ones_zeros window_width c.args.self.window (search rules)

-- a run that is not below 64 is 64
full : (c : Else-run-lt-WINDOW_RUN) → trailing_ones window_width c.args.self.window ≡ window_width
full c = omega (arith, run c.before, trailing_le window_width (2 ^ window_width - 1 - c.args.self.window))

pub overflow_add-result : goal.overflow_add-result
overflow_add-result c = omega (arith, run (goal.at.overflow_add-result c).Start)

pub returns-then-run-lt-WINDOW_RUN : goal.returns-then-run-lt-WINDOW_RUN
unfolding settled
returns-then-run-lt-WINDOW_RUN c = let e = sym (run (goal.at.returns-then-run-lt-WINDOW_RUN c).Start) in
    row_eq (ap (λ (n : ℕ). c.args.self.base + n) e) (ap (λ (n : ℕ). c.args.self.window / 2 ^ n) e)

pub overflow_add-result-2 : goal.overflow_add-result-2
overflow_add-result-2 c = omega (arith, full (goal.at.overflow_add-result-2 c).Else-run-lt-WINDOW_RUN)

pub returns : goal.returns
unfolding settled
returns c = let a = c.args in
    row_eq (ap (λ (n : ℕ). a.self.base + n) (sym (full (goal.at.returns c).Else-run-lt-WINDOW_RUN)))
    (sym (ap (λ (n : ℕ). a.self.window / 2 ^ n) (full (goal.at.returns c).Else-run-lt-WINDOW_RUN) ∙ div-eq_of_lt (search rules)))
