use Rattle.std.proofs.Common.{◌≡◌, ℕ, ◌+◌, ◌-◌, ◌≤◌, Bool, ◌&&◌, refl, ap, ◌∙◌, arith}
use Rattle.clock.proofs.Clocks.{all_to-next}
use Rattle.clock.specs.Row.{window_width, well_formed}
use Rattle.clock.specs.Clock.{row_at, all_to, rows_ok}
use Rattle.dots.specs.Dots.{actor_most}
use Rattle.clock.proofs.rows_ok.Goals as goal

next : (p : ℕ → Bool) (a : ℕ) (ok row : Bool) → 1 ≤ a → ok ≡ all_to (a - 1) p → row ≡ p a → (ok && row) ≡ all_to (a + 1 - 1) p
next p a ok row h e f =
    let more : a + 1 - 1 ≡ a - 1 + 1 = omega arith in
    let same : a - 1 + 1 ≡ a = omega arith in
    rw (more, all_to-next (a - 1) p, same, e, f)

pub loop-a-init : goal.loop-a-init
unfolding all_to
loop-a-init c = refl

pub loop-a-preserved : goal.loop-a-preserved
loop-a-preserved c =
    next (λ b. well_formed window_width (row_at c.args.words.now b)) c.loop-a.a c.loop-a.ok c.is_well_formed-ok.result c.loop-a.auto.a c.loop-a.invariant (c.is_well_formed-ok.ensures ∙ ap (well_formed window_width) c.row_of-row.ensures)

pub returns : goal.returns
unfolding rows_ok
returns c = let e : c.loop-a.a - 1 ≡ actor_most = omega arith in rw e at c.loop-a.invariant
