-- The clock: a row for each of 16 actors, over any window width W.
-- At rest it is a list of words: base and window of actor 1, those of actor 2, and so on.
use Rattle.std.specs.Prelude.{ℕ, zero, suc, ◌+◌, ◌*◌, Bool, true, cond, not, ◌&&◌, List, [], ◌∷◌, replicate, ◌==◌, nat_lt, slice_index, slice_set}
use Rattle.clock.specs.Row.{Row, seen, well_formed, join}
use Rattle.clock.specs.Offered.{too_far}
use Rattle.wire.specs.Lists.{cons_if, sort}
use Rattle.dots.specs.declared.Dot.{Dot}
use Rattle.dots.specs.Dots.{compare_dots, actor_most}

-- the words of a row, and of the clock
abbrev pub row_words : ℕ
row_words = 2

abbrev pub clock_words : ℕ
clock_words = actor_most * row_words

-- "an all-zero clock"
abbrev pub zero_clock : List ℕ
zero_clock = replicate clock_words 0

abbrev pub zero_row : Row
zero_row = record { base = 0; window = 0 }

-- the row of an actor; one that is not from 1 to 16 has the empty row
unfoldable pub row_at : List ℕ → ℕ → Row
row_at words zero = zero_row
row_at words (suc i) = cond (nat_lt i actor_most) (record { base = slice_index words (i * row_words); window = slice_index words (i * row_words + 1) }) zero_row

-- an actor "whose row is empty (base and window 0)"
unfoldable pub unused : List ℕ → ℕ → Bool
unused words a = (row_at words a).base == 0 && (row_at words a).window == 0

-- the clock with another row for an actor
unfoldable pub with_row : List ℕ → ℕ → Row → List ℕ
with_row words zero r = words
with_row words (suc i) r = cond (nat_lt i actor_most) (slice_set (slice_set words (i * row_words) r.base) (i * row_words + 1) r.window) words

unfoldable pub sees : List ℕ → Dot → Bool
sees words d = seen (row_at words d.actor.number) d.counter.number

-- the numbers 1 to n pass a test
unfoldable pub all_to : ℕ → (ℕ → Bool) → Bool
all_to zero p = true
all_to (suc n) p = all_to n p && p (suc n)

-- every row is well-formed
unfoldable pub rows_ok : ℕ → List ℕ → Bool
rows_ok W words = all_to actor_most (λ a. well_formed W (row_at words a))

-- the same, and "A controller's own window is always 0"
unfoldable pub clock_ok : ℕ → ℕ → List ℕ → Bool
clock_ok W own words = rows_ok W words && (row_at words own).window == 0

-- the clock that also sees d
unfoldable pub join_dot : ℕ → List ℕ → Dot → List ℕ
join_dot W words d = with_row words d.actor.number (join W (row_at words d.actor.number) d.counter.number)

-- joined one by one
unfoldable pub join_each : ℕ → List ℕ → List Dot → List ℕ
join_each W words [] = words
join_each W words (d ∷ ds) = join_each W (join_dot W words d) ds

-- joined in ascending order
unfoldable pub join_all : ℕ → List ℕ → List Dot → List ℕ
join_all W words ds = join_each W words (sort compare_dots ds)

-- the counters of an actor's dots
unfoldable pub counters_of : ℕ → List Dot → List ℕ
counters_of a [] = []
counters_of a (d ∷ ds) = cons_if (d.actor.number == a) d.counter.number (counters_of a ds)

-- refusal 10 does not hold, for any actor
unfoldable pub near : ℕ → List ℕ → List Dot → Bool
near W words ds = all_to actor_most (λ a. not (too_far W (row_at words a) (counters_of a ds)))
