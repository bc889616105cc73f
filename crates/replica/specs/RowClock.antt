-- The clock of 16 rows as the clock that the machine asks for.
use Rattle.std.specs.Prelude.{◌&&◌, List, ℕ}
use Rattle.wire.specs.Lists.{all}
use Rattle.dots.specs.Dots.{dot_ok}
use Rattle.clock.specs.Clock.{row_at, unused, sees, join_all, near, zero_clock}
use Rattle.replica.specs.Clock.{ClockModel}

-- with windows of W bits
abbrev pub row_clock : ℕ → ClockModel
row_clock W = record {
  Clock = List ℕ;
  zero_clock = zero_clock;
  sees = sees;
  base = λ words a. (row_at words a.number).base;
  fits = λ words ds. all dot_ok ds && near W words ds;
  join_all = join_all W;
  unused = λ words a. unused words a.number;
}
