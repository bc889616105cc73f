-- The front of the bytes is the first dot; fewer than nine bytes are none.
use Rattle.std.proofs.Common.{rules, ◌≡◌}
use mathlib.Core.List.{List, ◌∷◌}
use Prim.Native.Nat.{ℕ, ◌+◌}
use native.Mathlib.Omega.{arith}
use lib.ListN.{length, take, drop}
use Rattle.dots.specs.declared.Dot.{Dot}
use Rattle.dots.specs.Wire.{dot_at, dots_of, dot_size}
use Rattle.dots.proofs.Iterating.{dots_of-empty, dots_of-front}
use Rattle.dots.proofs.DotsIterator.next.Goals as goal

first : (s front rest : List ℕ) (d : Dot) → front ≡ take dot_size s → rest ≡ drop dot_size s → length rest + dot_size ≡ length s → d ≡ dot_at front 0
    → dots_of s ≡ d ∷ dots_of rest
first s front rest d e f n g = rw (g, e, f) (dots_of-front s (omega arith))

pub returns-in_err-front-clause-steps : goal.returns-in_err-front-clause-steps
returns-in_err-front-clause-steps c = rw c.from_residual.ensures (dots_of-empty _ c.in_err-front.ensures.cases, dots_of-empty _ c.in_err-front.ensures.cases)

pub returns-clause-steps : goal.returns-clause-steps
returns-clause-steps c = let e = c.in_ok-front.ensures.cases in first _ _ _ _ e.0 e.1 e.2 c.dot_at.ensures

pub returns-clause-goes : goal.returns-clause-goes
returns-clause-goes c =
    let e = c.in_ok-front.ensures.cases in
    let h : _ = first c.args.self.now.bytes.now _ _ _ e.0 e.1 e.2 c.dot_at.ensures in
    search (rules, h)
