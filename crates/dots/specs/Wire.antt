-- Dots in bytes: an actor, then a counter of 8 bytes, highest first. Contexts, messages and the tombstone share this form.
use Rattle.std.specs.Prelude.{ℕ, zero, suc, ◌+◌, ◌*◌, ◌/◌, ◌%◌, Bool, cond, List, [], ◌∷◌, ◌++◌, eqb, length}
use Rattle.wire.specs.Lists.{is_lt}
use Rattle.wire.specs.Bytes.{Bytes, byte_at, big_endian, number_at}
use Rattle.dots.specs.declared.Dot.{Dot}
use Rattle.dots.specs.Dots.{actor_of, dot_of, compare_dots, tombstone_most}

-- the bytes of a dot, and of a tombstone that is full
abbrev pub dot_size : ℕ
dot_size = 9

abbrev pub tombstone_size : ℕ
tombstone_size = tombstone_most * dot_size

unfoldable pub dot_bytes : Dot → Bytes
dot_bytes d = d.actor.number ∷ big_endian 8 d.counter.number

-- dots end to end
unfoldable pub dots_bytes : List Dot → Bytes
dots_bytes [] = []
dots_bytes (d ∷ ds) = dot_bytes d ++ dots_bytes ds

-- the dot that 9 bytes make
abbrev pub dot_at : Bytes → ℕ → Dot
dot_at s at = dot_of (actor_of (byte_at s at)) (number_at 8 s (at + 1))

-- n dots end to end
unfoldable pub dots_at : ℕ → Bytes → ℕ → List Dot
dots_at zero s at = []
dots_at (suc n) s at = dot_at s at ∷ dots_at n s (at + dot_size)

-- the dots that bytes hold: as many as there are whole ones
unfoldable pub dots_of : Bytes → List Dot
dots_of s = dots_at (length s / dot_size) s 0

-- no bytes are left over
abbrev pub whole_dots : Bytes → Bool
whole_dots s = eqb (length s % dot_size) 0

-- how many dots at the front come before d
unfoldable pub place_of : Dot → List Dot → ℕ
place_of d [] = 0
place_of d (x ∷ xs) = cond (is_lt (compare_dots x d)) (suc (place_of d xs)) 0
