-- The invariant: the first i bytes are where they go, and the others still where they were.
use Prim.Native.Nat.{ℕ}
use mathlib.Core.Path.{◌≡◌}
use mathlib.Core.List.{List, ◌++◌}
use lib.ListN.{length, take, drop}
use Rattle.moves.proofs.shift_down.Given as goal

-- s₀ with its bytes from `by` on moved down, i of them
abbrev pub moved : List ℕ → ℕ → ℕ → List ℕ
moved s₀ by i = take i (drop by s₀) ++ drop i s₀

abbrev pub invariant-loop-i : goal.invariant-loop-i
invariant-loop-i l = (l.s ≡ moved l.initial.s l.by l.i) × (length l.s ≡ length l.initial.s)
