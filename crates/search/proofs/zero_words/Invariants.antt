-- The invariant: no 0 stands before word i.
use Rattle.std.proofs.Common.{◌≡◌, ◌+◌, ◌*◌, drop}
use Rattle.wire.specs.Bytes.{zero_at}
use Rattle.search.proofs.zero_words.Given as goal

abbrev pub invariant-loop-i : goal.invariant-loop-i
invariant-loop-i l = zero_at l.s ≡ l.i * 8 + zero_at (drop (l.i * 8) l.s)
