-- The place, and the run from there on.
use Rattle.std.proofs.Common.{◌≡◌, ℕ, ◌-◌, ◌≤◌, length, take, drop, arith, length-drop, rules}
use Rattle.wire.specs.Bytes.{Bytes, starts_with, span}
use Rattle.wire.proofs.Parts.{rest_part}
use Rattle.store.specs.Cut.{keys_of}
use Rattle.store.specs.Place.{length_while, place_in, IsSpanFrom}
use Rattle.store.proofs.span_from.Goals as goal

spanned : (keys start : Bytes) (n at len : ℕ) → (at ≡ place_in start (keys_of n keys)) × (at ≤ length keys)
    → (len ≡ length_while (starts_with start) (keys_of n (take (length keys - at) (drop at keys)))) × (len ≤ length (take (length keys - at) (drop at keys)))
    → IsSpanFrom n keys start (span at len)
spanned keys start n at len place run =
    let r : (len ≡ length_while (starts_with start) (keys_of n (drop at keys))) × (len ≤ length (drop at keys)) = rw rest_part at run in
    (place.0, r.0, omega (arith, length-drop at keys))

pub returns : goal.returns
returns c = spanned _ _ _ _ _ c.place-at.ensures (c.walk_past-len.ensures.walked (starts_with c.args.start.now) (λ k r e. search rules), c.walk_past-len.ensures.within)
