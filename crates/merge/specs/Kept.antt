-- The dots of a label that two stores hold, one after the other, and which of them are kept.
use Rattle.std.specs.Prelude.{ℕ, ◌*◌, ◌≤◌, Bool, true, false, not, cond, ◌&&◌, ◌||◌, List, Option, Some, None, ◌≡◌, ltb, length, take, drop}
use Rattle.wire.specs.Lists.{is_lt}
use Rattle.wire.specs.Bytes.{Bytes, put_at}
use Rattle.dots.specs.declared.Dot.{Dot}
use Rattle.dots.specs.Dots.{compare_dots, ascending_dots}
use Rattle.dots.specs.Wire.{dots_of, dot_size}
use Rattle.clock.specs.Clock.{sees}
use Rattle.store.specs.Cut.{key_dot}
use Rattle.listing.specs.Listing.{is_live}
use Rattle.merge.specs.declared.NextDot.{NextDot}
use Rattle.merge.specs.Sides.{Sides}

-- ---- the dot that comes next

-- the dot of the first of keys of `size` bytes; past them none
unfoldable pub first_dot : ℕ → Bytes → Option Dot
first_dot size keys = cond (ltb (length keys) size) None (Some (key_dot (take size keys)))

-- the lower of two, and which stores hold it
unfoldable pub next_of : Dot → Dot → NextDot
next_of d e = record { dot = cond (is_lt (compare_dots e d)) e d; first = not (is_lt (compare_dots e d)); second = not (is_lt (compare_dots d e)) }

-- the lower of those that there are
abbrev pub next_in : Option Dot → Option Dot → Option NextDot
next_in (Some d) (Some e) = Some (next_of d e)
next_in (Some d) None = Some (record { dot = d; first = true; second = false })
next_in None (Some e) = Some (record { dot = e; first = false; second = true })
next_in None None = None

-- ---- whether it is kept

-- "if both list it under that label, or if one lists it and the other's clock hasn't seen it": listed by each, seen by each
unfoldable pub kept_dot : Bool → Bool → Bool → Bool → Bool
kept_dot here there seen_here seen_there = (here && there) || ((here && not seen_there) || (there && not seen_here))

unfoldable pub keeps_next : Sides → NextDot → Bool
keeps_next s next =
    kept_dot (next.first && is_live (dots_of s.tombstone) next.dot) (next.second && is_live (dots_of s.tombstone') next.dot)
    (sees s.words next.dot) (sees s.words' next.dot)

-- two sides, whose tombstones stand end to end, the first of `split` bytes
abbrev pub sides_of : Bytes → ℕ → List ℕ → List ℕ → Sides
sides_of dead split here there = record { tombstone = take split dead; words = here; tombstone' = drop split dead; words' = there }

-- two tombstones that stand so, each of ascending dots
pub record EndToEnd (dead : Bytes) (split : ℕ) : Type 0 where
  pub count : ℕ
  pub splits : split ≡ count * dot_size
  pub within : split ≤ length dead
  pub first-ascends : ascending_dots (dots_of (take split dead)) ≡ true
  pub second-ascends : ascending_dots (dots_of (drop split dead)) ≡ true

-- ---- what is put

-- bytes put at a place, unless the run is dry
abbrev pub put_unless : Bool → Bytes → ℕ → Bytes → Bytes
put_unless dry out at x = cond dry out (put_at out at x)
