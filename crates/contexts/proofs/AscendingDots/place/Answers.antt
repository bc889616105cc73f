use Rattle.std.proofs.Common.{rules, tests}
use Rattle.std.proofs.lemmas.List.Sorted.{IsPartitionPoint-from_clause}
use Rattle.contexts.proofs.Places.{placed_within}
use Rattle.contexts.proofs.Search.{comes_before, searched}
use Rattle.contexts.proofs.AscendingDots.place.Goals as goal

pub returns : goal.returns
returns c =
    placed_within c.args.self.dots.now c.args.dot c.partition_point.result
    (searched c.args.dot c.args.self.dots.now c.args.self.ascending _ c.as_chunks.ensures.front c.partition_point.result c.partition_point.ensures.bound
    (λ h. IsPartitionPoint-from_clause (comes_before c.args.dot) _ _ c.partition_point.ensures.partitioned h (λ a r q k. search (rules, tests))))
