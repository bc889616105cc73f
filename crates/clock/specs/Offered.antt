-- What a call offers to a row: several counters at once. Refusal 10, over any window width W.
use Rattle.std.specs.Prelude.{ℕ, zero, suc, ◌+◌, Bool, true, cond, ◌&&◌, ◌||◌, List, [], ◌∷◌, ◌++◌, nat_lt}
use Prim.Native.Nat.{compare}
use Rattle.wire.specs.Lists.{any, member}
use Rattle.clock.specs.Row.{Row, test_bit, seen, join, in_reach}

unfoldable pub total : List ℕ → ℕ
total [] = 0
total (c ∷ cs) = c + total cs

-- seen or offered
unfoldable pub known : Row → List ℕ → ℕ → Bool
unfolding seen
known r cs e = seen r e || member compare e cs

-- b, moved up while the next event is known, at most n times
unfoldable pub climb : (ℕ → Bool) → ℕ → ℕ → ℕ
climb known zero b = b
climb known (suc n) b =
    let further = climb known n (suc b) in
    cond (known (suc b)) further b

-- The unbroken run from 1 of all seen and offered events. None of them is above base + W + total cs.
unfoldable pub unbroken : ℕ → Row → List ℕ → ℕ
unfolding climb known total
unbroken W r cs = climb (known r cs) (W + total cs) r.base

-- the events that the window's k lowest bits name
unfoldable pub window_events : ℕ → Row → List ℕ
unfolding test_bit
window_events zero r = []
window_events (suc k) r = cond (test_bit r.window k) ((r.base + 1 + k) ∷ window_events k r) (window_events k r)

-- Refusal 10: "among all seen and offered dots together, one lies more than 64 above its actor's unbroken run from 1"
unfoldable pub too_far : ℕ → Row → List ℕ → Bool
unfolding unbroken window_events
too_far W r cs = any (nat_lt (unbroken W r cs + W)) (window_events W r ++ cs)

-- joined one by one
unfoldable pub join_all : ℕ → Row → List ℕ → Row
unfolding join
join_all W r [] = r
join_all W r (c ∷ cs) = join_all W (join W r c) cs

-- each is in reach when its turn comes
unfoldable pub all_in_reach : ℕ → Row → List ℕ → Bool
unfolding join in_reach
all_in_reach W r [] = true
all_in_reach W r (c ∷ cs) = in_reach W r c && all_in_reach W (join W r c) cs
