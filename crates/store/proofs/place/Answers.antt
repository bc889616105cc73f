-- Among the keys past the first `low` bytes.
use Rattle.std.proofs.Common.{◌≡◌, ℕ, ◌+◌, ◌-◌, ◌≤◌, length, take, drop, arith, length-drop, rules}
use Rattle.wire.specs.Bytes.{Bytes}
use Rattle.wire.proofs.Parts.{rest_part}
use Rattle.store.specs.Cut.{keys_of}
use Rattle.store.specs.Place.{length_while, lower_than, place_in, PlacePast}
use Rattle.store.proofs.place.Goals as goal

module _ (n : ℕ) (keys key : Bytes) (low len : ℕ) (p : PlacePast n keys key low)
    (walked : (len ≡ length_while (lower_than key) (keys_of n (take (length keys - low) (drop low keys)))) × (len ≤ length (take (length keys - low) (drop low keys)))) where
  here : (len ≡ place_in key (keys_of n (drop low keys))) × (len ≤ length (drop low keys))
  here = rw rest_part at walked

  within : low + len ≤ length keys
  within = omega (arith, p.within, here.1, length-drop low keys)

  is-place : (low + len ≡ place_in key (keys_of n keys)) × (low + len ≤ length keys)
  is-place = (omega (arith, here.0, p.placed), within)

pub overflow_add-result : goal.overflow_add-result
overflow_add-result c = search (rules, within)

pub returns : goal.returns
returns c = is-place _ _ _ _ _ c.requires.1 (c.walk_past.ensures.walked (lower_than c.args.key.now) (λ k r e. search rules), c.walk_past.ensures.within)
