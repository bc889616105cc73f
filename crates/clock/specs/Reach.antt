-- Whether ascending dots can be joined one by one, told without a change to the clock: only the row of the actor at hand is kept.
use Rattle.std.specs.Prelude.{◌≡◌, ℕ, Option, MatchOption, Bool, true, false, cond, ◌&&◌, List, [], ◌∷◌, ◌++◌, length, ◌==◌}
use Rattle.wire.specs.Bytes.{Bytes}
use Rattle.dots.specs.Wire.{dots_of}
use Rattle.clock.specs.Row.{Row, join, in_reach, well_formed}
use Rattle.clock.specs.Offered.{all_in_reach}
use Rattle.clock.specs.Code.{row_of}
use Rattle.dots.specs.declared.Dot.{Dot}
use Rattle.wire.specs.Lists.{all, member}
use Rattle.dots.specs.Dots.{compare_dots, dot_ok, ascending_dots}
use Rattle.clock.specs.Clock.{zero_row, row_at, rows_ok, counters_of, near, clock_words}
use Rattle.clock.specs.declared.Reach.{Reach as CodeReach}

-- all dots so far are in reach, and the row of the last one's actor with them
pub record Reach : Type 0 where
  pub ok : Bool
  pub actor : ℕ
  pub row : Row

-- where all dots so far are in reach
abbrev pub reach_of : CodeReach → Reach
reach_of x = record { ok = true; actor = x.actor.number; row = row_of x.row }

-- the code has this reach, with a well-formed row, or none where a dot was out of reach
abbrev pub IsReach : ℕ → Reach → Option CodeReach → Type 0
IsReach W x r = MatchOption r (x.ok ≡ false) (λ s. (reach_of s ≡ x) × (well_formed W (row_of s.row) ≡ true))

-- no dot so far
abbrev pub reach_start : Reach
reach_start = record { ok = true; actor = 0; row = zero_row }

-- the row for the next dot of actor a
unfoldable pub row_for : List ℕ → Reach → ℕ → Row
row_for words x a = cond (x.actor == a) x.row (row_at words a)

unfoldable pub reach_step : ℕ → List ℕ → Reach → Dot → Reach
reach_step W words x d =
    let r = row_for words x d.actor.number in
    cond (x.ok && in_reach W r d.counter.number)
    (record { ok = true; actor = d.actor.number; row = join W r d.counter.number })
    (record { ok = false; actor = x.actor; row = x.row })

unfoldable pub reach_each : ℕ → List ℕ → Reach → List Dot → Reach
reach_each W words x [] = x
reach_each W words x (d ∷ ds) = reach_each W words (reach_step W words x d) ds

-- a dot that can be joined: its actor's row is well-formed, and it is in the row's reach
abbrev pub CanJoinDot : ℕ → List ℕ → Dot → Type 0
CanJoinDot W words d =
    (well_formed W (row_at words d.actor.number) ≡ true) × (in_reach W (row_at words d.actor.number) d.counter.number ≡ true)

-- dots that can be joined one by one, in their order
pub record Ready (W : ℕ) (words : List ℕ) (ds : List Dot) : Type 0 where
  pub size : length words ≡ clock_words
  pub rows : rows_ok W words ≡ true
  pub ok : all dot_ok ds ≡ true
  pub reach : (a : ℕ) → all_in_reach W (row_at words a) (counters_of a ds) ≡ true

-- what a call may offer: valid dots, ascending, to a clock with well-formed rows
pub record Offer (W : ℕ) (words : List ℕ) (ds : List Dot) : Type 0 where
  pub rows : rows_ok W words ≡ true
  pub ascends : ascending_dots ds ≡ true

-- a context in bytes and one dot more, which it does not have
pub record OfferWith (W : ℕ) (words context : Bytes) (d : Dot) : Type 0 where
  pub rows : rows_ok W words ≡ true
  pub ascends : ascending_dots (dots_of context) ≡ true
  pub ok : dot_ok d ≡ true
  pub new : member compare_dots d (dots_of context) ≡ false

-- a context in bytes, and a context and one dot more, that can be joined: offered where refusal 10 does not hold
abbrev pub CanJoinContext : ℕ → List ℕ → Bytes → Type 0
CanJoinContext W words context = (length words ≡ clock_words) × Offer W words (dots_of context) × (near W words (dots_of context) ≡ true)

abbrev pub CanJoinWithDot : ℕ → List ℕ → Bytes → Dot → Type 0
CanJoinWithDot W words context d = (length words ≡ clock_words) × OfferWith W words context d × (near W words (d ∷ dots_of context) ≡ true)

-- the dots of bytes before one, the one, and the dots of bytes after it
abbrev pub dots_around : Bytes → Dot → Bytes → List Dot
dots_around before d after = dots_of before ++ (d ∷ dots_of after)
