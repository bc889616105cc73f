-- Marks of the bytes of a word that are 0: the lowest of them tells the first such byte.
use Rattle.std.specs.Prelude.{ℕ, ◌/◌}
use Rattle.std.specs.Int.Count.{count_trailing_zeros}

-- which byte has the lowest mark, and 8 if none has
unfoldable pub mark_place : ℕ → ℕ
mark_place marks = count_trailing_zeros 64 marks / 8
