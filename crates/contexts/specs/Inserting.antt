-- A dot put in its place among the first `count` dots of a tombstone's bytes, once.
use Rattle.std.specs.Prelude.{ℕ, ◌*◌, ◌≤◌, ◌≡◌, true, ◌++◌, length, take, drop}
use Rattle.wire.specs.Lists.{insert}
use Rattle.wire.specs.Bytes.{Bytes}
use Rattle.dots.specs.declared.Dot.{Dot}
use Rattle.dots.specs.Dots.{compare_dots, dot_ok, ascending_dots, tombstone_most}
use Rattle.dots.specs.Wire.{dots_bytes, dots_of, dot_size, tombstone_size}

-- what it counts on
pub record MayInsert (bytes : Bytes) (count : ℕ) (d : Dot) : Type 0 where
  pub size : length bytes ≡ tombstone_size
  pub few : count ≤ tombstone_most
  pub ascends : ascending_dots (dots_of (take (count * dot_size) bytes)) ≡ true
  pub dot-ok : dot_ok d ≡ true
  pub room : length (insert compare_dots d (dots_of (take (count * dot_size) bytes))) ≤ tombstone_most

-- the bytes and the number of dots after it
pub record Inserted (bytes bytes' : Bytes) (count : ℕ) (d : Dot) (r : ℕ) : Type 0 where
  pub count-is : r ≡ length (insert compare_dots d (dots_of (take (count * dot_size) bytes)))
  pub bytes_are : bytes' ≡ dots_bytes (insert compare_dots d (dots_of (take (count * dot_size) bytes))) ++ drop (r * dot_size) bytes
