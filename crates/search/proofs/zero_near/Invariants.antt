-- The invariant: no 0 stands from the place on before i, which is a multiple of 8. The measure is what is left of the 40 bytes.
use Rattle.std.proofs.Common.{◌≡◌, ◌+◌, ◌-◌, ◌%◌, ◌≤◌, drop}
use Rattle.wire.specs.Bytes.{zero_at}
use Rattle.search.proofs.zero_near.Given as goal

abbrev pub invariant-loop-i : goal.invariant-loop-i
invariant-loop-i l = (l.i ≤ 40) × (l.i % 8 ≡ 0) × (zero_at (drop l.at l.s) ≡ l.i + zero_at (drop (l.at + l.i) l.s))

abbrev pub decreases-loop-i : goal.decreases-loop-i
decreases-loop-i l = 40 - l.i
