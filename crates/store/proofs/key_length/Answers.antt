-- By the index of the 0 after the prefix, and the length where that is less.
use Rattle.std.proofs.Common.{◌≡◌, ℕ, ◌+◌, ◌-◌, ◌<◌, ◌≤◌, length, take, drop, arith, rules}
use Rattle.wire.specs.Bytes.{Bytes, zero_at}
use Rattle.wire.proofs.Parts.{rest_part}
use Rattle.store.specs.Cut.{key_length}
use Rattle.keys.specs.Key.{suffix_size, prefix_fixed}
use Rattle.store.proofs.key_length.Goals as goal

all_short : (n : ℕ) (s : Bytes) → length s < n + prefix_fixed → length s ≡ key_length n s
unfolding key_length
all_short n s h = omega arith

module _ (n : ℕ) (s : Bytes) (z : ℕ) (e : z ≡ zero_at (take (length s - (n + prefix_fixed)) (drop (n + prefix_fixed) s))) where
  at_zero : z ≡ zero_at (drop (n + prefix_fixed) s)
  at_zero = rw rest_part at e

  all : length s < n + prefix_fixed + z + suffix_size → length s ≡ key_length n s
  unfolding key_length
  all h = omega (arith, at_zero)

  by_zero : n + prefix_fixed + z + suffix_size ≤ length s → n + prefix_fixed + z + suffix_size ≡ key_length n s
  unfolding key_length
  by_zero h = omega (arith, at_zero)

pub returns-then-s-at : goal.returns-then-s-at
returns-then-s-at c = search (rules, all_short)

pub returns-then-s-len : goal.returns-then-s-len
returns-then-s-len c = search (rules, all)

pub returns : goal.returns
returns c = search (rules, by_zero)
