-- Dots and contexts. Actors, counters and dots are the structs of src/lib.rt: an actor and a counter cannot be mixed up there or here.
use Prim.Native.Nat.{ℕ, zero, suc, ◌+◌, ◌-◌, ◌^◌, compare, Ordering}
use Rattle.std.specs.Prelude.{Bool, ◌&&◌, List, [], ◌∷◌, leb, length}
use Rattle.wire.specs.Lists.{then, all, ascends}
use Rattle.wire.specs.Bytes.{between}
use Rattle.dots.specs.declared.Actor.{Actor}
use Rattle.dots.specs.declared.Counter.{Counter}
use Rattle.dots.specs.declared.Dot.{Dot}

abbrev pub actor_of : ℕ → Actor
actor_of n = record { number = n }

abbrev pub counter_of : ℕ → Counter
counter_of n = record { number = n }

abbrev pub dot_of : Actor → ℕ → Dot
dot_of a n = record { actor = a; counter = counter_of n }

-- what a refusal gives for a dot
abbrev pub zero_dot : Dot
zero_dot = dot_of (actor_of 0) 0

-- "Dots are ordered by actor, then counter"
abbrev pub compare_actors : Actor → Actor → Ordering
compare_actors a b = compare a.number b.number

abbrev pub compare_counters : Counter → Counter → Ordering
compare_counters m n = compare m.number n.number

abbrev pub compare_dots : Dot → Dot → Ordering
compare_dots d e = then (compare_actors d.actor e.actor) (compare_counters d.counter e.counter)

-- "Actor: a byte 1 to 16"
abbrev pub actor_most : ℕ
actor_most = 16

abbrev pub actor_ok : ℕ → Bool
actor_ok = between 1 actor_most

-- "a counter, 1 to 18446744073709551615"
abbrev pub max_counter : ℕ
max_counter = 2 ^ 64 - 1

abbrev pub counter_ok : ℕ → Bool
counter_ok = between 1 max_counter

unfoldable pub dot_ok : Dot → Bool
dot_ok d = actor_ok d.actor.number && counter_ok d.counter.number

-- dots that keep their rule, strictly ascending: in contexts and in the tombstone
unfoldable pub ascending_dots : List Dot → Bool
ascending_dots ds = all dot_ok ds && ascends compare_dots ds

-- "Context: 0 to 16 dots, strictly ascending"; "Raise contexts to 64 dots"
abbrev pub Context : Type 0
Context = List Dot

abbrev pub context_most : ℕ
context_most = 64

abbrev pub context_ok : Context → Bool
context_ok ds = leb (length ds) context_most && ascending_dots ds

-- k dots of an actor, from counter n on
abbrev pub consecutive : Actor → ℕ → ℕ → List Dot
consecutive a n zero = []
consecutive a n (suc k) = dot_of a n ∷ consecutive a (n + 1) k

-- "Tombstone: 0 to 128 dots, strictly ascending"
abbrev pub tombstone_most : ℕ
tombstone_most = 128
