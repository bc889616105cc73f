use mathlib.Core.Path.{◌≡◌, sym, ap, ap₂, ◌∙◌}
use mathlib.Core.List.{List}
use Prim.Native.Nat.{ℕ}
use Rattle.dots.specs.Dots.{actor_of, dot_of, zero_dot, ascending_dots}
use Rattle.dots.specs.Wire.{dots_of}
use Rattle.dots.proofs.Rules.{ascend_after, ascending-is}
use Rattle.dots.proofs.Loops.{left, dots-start, ascend-turn, ascend-end}
use borrow.Author.Rules.{rules}
use Rattle.contexts.proofs.ascending_dots.Goals as goal

start : (s : List ℕ) → ascending_dots (dots_of s) ≡ ascend_after zero_dot (left s 0)
start s = ascending-is (dots_of s) ∙ ap (ascend_after zero_dot) (sym (dots-start s))

pub loop-i-init : goal.loop-i-init
loop-i-init c =
    let zero : c.default-before.result ≡ zero_dot = ap₂ (λ a n. dot_of (actor_of a) n) c.default-before.ensures.0 c.default-before.ensures.1 in
    rw zero (start c.args.dots.now)

pub loop-i-preserved : goal.loop-i-preserved
loop-i-preserved c = search (rules, ascend-turn)

pub returns : goal.returns
returns c = search (rules, ascend-end)
