-- The invariant: the words before i agree, so the rests decide. The measure is what is left of a.
use Rattle.std.proofs.Common.{◌≡◌, ◌-◌, ◌≤◌, length, drop}
use Rattle.wire.specs.Bytes.{starts_with}
use Rattle.search.proofs.starts_words.Given as goal

abbrev pub invariant-loop-i : goal.invariant-loop-i
invariant-loop-i l = (l.i ≤ length l.a) × (starts_with l.a l.s ≡ starts_with (drop l.i l.a) (drop l.i l.s))

abbrev pub decreases-loop-i : goal.decreases-loop-i
decreases-loop-i l = length l.a - l.i
