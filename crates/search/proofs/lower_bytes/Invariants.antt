-- The invariant: as many bytes of a are passed as of b, and what is left decides.
use Rattle.std.proofs.Common.{◌≡◌, ◌+◌, length}
use Rattle.std.specs.Iterator.Adapters.{zip_first, zip_second}
use Rattle.std.specs.Slice.Iter.{iter_rest}
use Rattle.wire.specs.Bytes.{compare_bytes}
use Rattle.search.proofs.lower_bytes.Given as goal

abbrev pub invariant-loop-x : goal.invariant-loop-x
invariant-loop-x l =
    let xs = iter_rest (zip_first l.x-iterator) in
    let ys = iter_rest (zip_second l.x-iterator) in
    (length xs + length l.b ≡ length ys + length l.a) × (compare_bytes l.a l.b ≡ compare_bytes xs ys)
