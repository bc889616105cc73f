-- The length decides first; then the test follows the bytes.
use Prim.Native.Nat.{ℕ, ◌+◌, ◌-◌, ◌≤◌}
use mathlib.Core.Path.{◌≡◌}
use mathlib.Core.Bool.{false, ◌&&◌}
use native.Mathlib.Omega.{arith}
use lib.Dec.{leb, eqb}
use lib.ListN.{length}
use borrow.Author.Tests.{eq-eqb, ne_eqb}
use Rattle.wire.specs.Bytes.{Bytes, byte_at, number_at, zero_at}
use Rattle.keys.specs.Tests.{label_after}
use borrow.Author.Rules.{rules}
use Rattle.dots.specs.Names.{label_most}
use Rattle.dots.specs.Dots.{actor_most}
use Rattle.keys.specs.Key.{suffix_size}
use Rattle.keys.proofs.label_after.Goals as goal

module _ (t : Bytes) (n : ℕ) (found : (n ≡ zero_at t) × (n ≤ length t)) where
  other_length : (length t - n ≡ suffix_size → ⊥) → false ≡ label_after t
  unfolding label_after
  other_length h = rw (ne_eqb (length t) (zero_at t + suffix_size) (λ e. h (omega arith)))

  tested : (a z c : ℕ) → length t - n ≡ suffix_size → a ≡ byte_at t (n + 1) → z ≡ byte_at t (n + 2) → c ≡ number_at 8 t (n + 3)
      → ((leb 1 n && leb n label_most) && (leb 1 a && leb a actor_most) && eqb z 0 && leb 1 c) ≡ label_after t
  unfolding label_after
  tested a z c h e f g = rw (e, f, g, found.0, eq-eqb (length t) (zero_at t + suffix_size) (omega arith))

pub returns-then-t-n-ne-SUFFIX_SIZE : goal.returns-then-t-n-ne-SUFFIX_SIZE
returns-then-t-n-ne-SUFFIX_SIZE c = other_length _ _ c.zero_at-n.ensures c.if-t-n-ne-SUFFIX_SIZE.true

pub returns : goal.returns
returns c = search (rules, tested)
