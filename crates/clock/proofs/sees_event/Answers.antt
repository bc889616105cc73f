-- An event from 1 up to the base is seen; any other is asked for as a dot.
use Rattle.std.proofs.Common.{◌≡◌, ℕ, ◌+◌, ◌%◌, ◌<◌, true, List, sym, arith, w64, Fits}
use Rattle.dots.specs.Dots.{actor_of, dot_of}
use Rattle.clock.specs.Clock.{sees, row_at}
use Rattle.clock.proofs.Rows.{seen_low}
use Rattle.clock.proofs.sees_event.Goals as goal

up_to_base : (words : List ℕ) (row e base : ℕ) → base ≡ (row_at words (row + 1)).base → Fits w64 e → base < 18446744073709551616 → (e + 18446744073709551615) % 18446744073709551616 < base
    → true ≡ sees words (dot_of (actor_of (row + 1)) e)
unfolding sees
up_to_base words row e base is event small less = sym (seen_low (row_at words (row + 1)) e (omega (arith, event.fits)) (omega (arith, event.fits)))

pub returns-then-event-base_at : goal.returns-then-event-base_at
returns-then-event-base_at c = up_to_base c.args.words.now c.args.row c.args.event c.base_at.result c.base_at.ensures c.ranges.event c.base_at.type_inv c.if-event-base_at.true
