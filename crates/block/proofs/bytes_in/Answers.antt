-- So many bytes put over as many.
use Rattle.std.proofs.Common.{ℕ, ◌≡◌, ◌+◌, ◌-◌, ◌≤◌, length, take, drop, replicate}
use Rattle.std.proofs.lemmas.List.{length-replicate}
use Rattle.wire.specs.Bytes.{Bytes, part_at, put_at}
use Rattle.wire.proofs.Parts.{size-part}
use Rattle.block.proofs.Copied.{copied}
use borrow.Author.Rules.{rules}
use Rattle.block.proofs.bytes_in.Goals as goal

part-copied : (s last : Bytes) (at n : ℕ) → at + n ≤ length s → last ≡ put_at (replicate n 0) 0 (take (at + n - at) (drop at s)) → last ≡ part_at s at n
part-copied s last at n fits e = copied s (replicate n 0) last at n fits (length-replicate n 0) (rw (size-part s at n) at e)

pub returns : goal.returns
returns g c = search (rules, part-copied)
