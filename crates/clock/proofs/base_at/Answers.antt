-- Actor a has the words at 2 (a - 1) and the next.
use Rattle.std.proofs.Common.{◌≡◌, ℕ, ◌+◌, ◌-◌, ◌*◌, ◌<◌, List, get_or, arith, rules}
use Rattle.dots.specs.Dots.{actor_most}
use Rattle.clock.specs.Clock.{row_at, row_words}
use Rattle.clock.proofs.Clocks.{row_words_lem}
use Rattle.clock.proofs.base_at.Goals as goal

base-is : (words : List ℕ) (row : ℕ) → row < actor_most → get_or words (row * row_words) 0 ≡ (row_at words (row + 1)).base
base-is words row h =
    let same : row + 1 - 1 ≡ row = omega arith in
    rw (← row_words_lem words (row + 1) (omega arith) (omega arith), same)

pub returns : goal.returns
returns c = search (rules, base-is)
