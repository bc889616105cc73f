-- A table of slots, a byte each: a dot of a list has its slot set. Dots share slots.
use Rattle.std.specs.Prelude.{ℕ, ◌+◌, ◌*◌, ◌%◌, ◌≡◌, true, List, length}
use Rattle.wire.specs.Lists.{member}
use Rattle.wire.specs.Bytes.{Bytes, byte_at}
use Rattle.dots.specs.declared.Dot.{Dot}
use Rattle.dots.specs.Dots.{compare_dots}

-- remainders of counters and of actors that have a slot of their own
abbrev pub slot_counters : ℕ
slot_counters = 64

abbrev pub slot_actors : ℕ
slot_actors = 16

abbrev pub slot_count : ℕ
slot_count = slot_counters * slot_actors

-- the slot of a dot: by its counter's low bits, then its actor's
unfoldable pub slot_of : Dot → ℕ
slot_of d = d.counter.number % slot_counters * slot_actors + d.actor.number % slot_actors

-- the slot of each dot of a list is set
pub record Slotted (ds : List Dot) (slots : Bytes) : Type 0 where
  pub sized : length slots ≡ slot_count
  pub each_set : (d : Dot) → member compare_dots d ds ≡ true → byte_at slots (slot_of d) ≡ 1
