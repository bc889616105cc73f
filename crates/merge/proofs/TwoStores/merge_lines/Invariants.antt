-- The invariant: the lines put so far and those of what is left of both stores are all lines. The measure is what is left.
use Prim.Native.Nat.{◌+◌}
use lib.ListN.{length}
use Rattle.merge.proofs.AllLines.{LinesLeft}
use Rattle.merge.proofs.TwoStores.merge_lines.Given as goal

abbrev pub invariant-loop-next : goal.invariant-loop-next
invariant-loop-next l = LinesLeft l.fn.self.n l.sides l.dry l.fn.self.a.now l.fn.self.b.now l.initial.out l.out l.bytes l.labels l.rest.n l.rest.a.now l.rest.b.now

abbrev pub decreases-loop-next : goal.decreases-loop-next
decreases-loop-next l = length l.rest.a.now + length l.rest.b.now
