use Prim.Native.Nat.{ℕ, ◌+◌, ◌-◌, ◌≤◌, ◌<◌}
use mathlib.Core.Path.{◌≡◌, sym, ap, ◌∙◌}
use mathlib.Core.List.{List, ◌++◌}
use native.Mathlib.Nat.{add_comm}
use native.Mathlib.Omega.{arith}
use lib.ListN.{length, take, drop, get_or, set, length-drop}
use lib.Seq.{append_snoc, set_at, length-take-le, get_or-drop, get_or-append-add, take_all}
use borrow.Author.Rules.{rules}
use Rattle.wire.proofs.Parts.{take_step, drop-step}
use Rattle.moves.proofs.shift_down.Invariants.{moved}
use Rattle.moves.proofs.shift_down.Goals as goal

one_moved : (s₀ s : List ℕ) (by i : ℕ) → i < length s₀ - by → s ≡ moved s₀ by i → set s i (get_or s (i + by) 0) ≡ moved s₀ by (i + 1)
one_moved s₀ s by i h e =
    let d : List ℕ = drop by s₀ in
    let front : length (take i d) ≡ i = length-take-le i d (rw length-drop (omega arith)) in
    let same : get_or (moved s₀ by i) (i + by) 0 ≡ get_or d i 0 =
    ap (λ (k : ℕ). get_or (moved s₀ by i) (k + by) 0) (sym front) ∙ rw (get_or-append-add (take i d) (drop i s₀) by 0, get_or-drop, get_or-drop, add_comm i by) in
    rw (e, same, take_step d i (rw length-drop (omega arith)), append_snoc, drop-step s₀ i (omega arith), set_at (take i d) (get_or s₀ i 0) (drop (i + 1) s₀) (get_or d i 0) i front)

all_moved : (s₀ s : List ℕ) (by i : ℕ) → i ≤ length s₀ - by → length s₀ - by ≤ i → s ≡ moved s₀ by i → s ≡ drop by s₀ ++ drop (length s₀ - by) s₀
all_moved s₀ s by i h k e =
    let end : i ≡ length s₀ - by = omega arith in
    e ∙ rw (end, take_all (length s₀ - by) (drop by s₀) (rw length-drop (omega arith)))

pub loop-i-preserved : goal.loop-i-preserved
loop-i-preserved c = search (rules, one_moved)

pub returns : goal.returns
returns c = search (rules, all_moved)
