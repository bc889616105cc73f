-- The invariant: the dots put so far and those kept of the keys left are all that are kept. The measure is what is left of both stores.
use Prim.Native.Nat.{◌+◌}
use lib.ListN.{length}
use Rattle.merge.proofs.KeptDots.{DotsLeft}
use Rattle.merge.proofs.TwoStores.put_kept.Given as goal

abbrev pub invariant-loop-next : goal.invariant-loop-next
invariant-loop-next l = DotsLeft l.fn.self.n l.spot.len l.sides l.spot.dry l.from l.fn.self.a.now l.fn.self.b.now l.initial.out l.out l.count l.rest.n l.rest.a.now l.rest.b.now

abbrev pub decreases-loop-next : goal.decreases-loop-next
decreases-loop-next l = length l.rest.a.now + length l.rest.b.now
