-- The invariant: the dots put so far, with those of the keys that are left, are the listed dots.
use Rattle.std.specs.Slice.Iter.{chunks_exact_rest, chunks_exact_size}
use Rattle.listing.specs.Lines.{listed_by}
use Rattle.listing.proofs.PutLines.{ChunksWalk}
use Rattle.listing.proofs.put_dots.Given as goal

abbrev pub invariant-loop-key : goal.invariant-loop-key
invariant-loop-key l = ChunksWalk l.n l.keys (listed_by l.dead) l.size l.initial.out l.out l.next (chunks_exact_rest l.key-iterator) (chunks_exact_size l.key-iterator)
