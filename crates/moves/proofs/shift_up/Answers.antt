use Prim.Native.Nat.{ℕ, zero, suc, ◌+◌, ◌-◌, ◌≤◌, ◌<◌}
use mathlib.Core.Path.{◌≡◌, sym}
use mathlib.Core.List.{List, ◌++◌, append-nil}
use native.Mathlib.Nat.{suc-add, zero-add}
use native.Mathlib.Numerals.{sub-one}
use native.Mathlib.Omega.{arith}
use lib.ListN.{length, take, drop, get_or, set, length-take, get_or-append, drop_of_length-le}
use lib.Seq.{take-suc, drop-cons, append_snoc, set_at, length-take-le, get_or-take, take_all}
use borrow.Author.Rules.{rules}
use Rattle.moves.proofs.shift_up.Invariants.{moved}
use Rattle.moves.proofs.shift_up.Goals as goal

none-moved : (s₀ : List ℕ) (by : ℕ) → by ≤ length s₀ → s₀ ≡ moved s₀ by (length s₀ - by)
none-moved s₀ by h =
    let l : length (take (length s₀ - by) s₀) ≤ length s₀ - by = rw length-take (omega arith) in
    sym (rw (drop_of_length-le _ l, append-nil) (take_all (length s₀ - by + by) s₀ (omega arith)))

all_moved : (s₀ s : List ℕ) (by i : ℕ) → i ≤ 0 → s ≡ moved s₀ by i → s ≡ take by s₀ ++ take (length s₀ - by) s₀
all_moved s₀ s by zero h e = rw zero-add at e
all_moved s₀ s by (suc i) h e = absurd (omega arith)

one_moved : (s₀ : List ℕ) (by i : ℕ) → suc i + by ≤ length s₀ → set (moved s₀ by (suc i)) (i + by) (get_or (moved s₀ by (suc i)) i 0) ≡ moved s₀ by i
one_moved s₀ by i h =
    let t : List ℕ = take (length s₀ - by) s₀ in
    let in-front : i < length (take (suc i + by) s₀) = rw length-take (omega arith) in
    let in_rest : i < length t = rw length-take (omega arith) in
    let same : get_or (moved s₀ by (suc i)) i 0 ≡ get_or t i 0 =
    rw (get_or-append (take (suc i + by) s₀) (drop (suc i) t) 0 i in-front, get_or-take (suc i + by) s₀ i 0 (omega arith), get_or-take (length s₀ - by) s₀ i 0 (omega arith)) in
    rw (same, suc-add, take-suc s₀ (i + by) 0 (omega arith), append_snoc, set_at (take (i + by) s₀) (get_or s₀ (i + by) 0) (drop (suc i) t) (get_or t i 0) (i + by) (length-take-le (i + by) s₀ (omega arith)), drop-cons t i 0 in_rest)

turn : (s₀ s : List ℕ) (by i : ℕ) → 0 < i → i + by ≤ length s₀ → s ≡ moved s₀ by i → set s (i - 1 + by) (get_or s (i - 1) 0) ≡ moved s₀ by (i - 1)
turn s₀ s by zero h k e = absurd (omega arith)
turn s₀ s by (suc i) h k e = rw (e, sub-one) (one_moved s₀ by i k)

pub loop-i-init : goal.loop-i-init
loop-i-init c = search (rules, none-moved)

pub loop-i-preserved : goal.loop-i-preserved
loop-i-preserved c = search (rules, turn)

pub returns : goal.returns
returns c = search (rules, all_moved)
