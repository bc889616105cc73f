-- The rows of the actors up to a stand in their place.
use Prim.Native.Nat.{◌+◌, ◌*◌}
use mathlib.Core.Path.{◌≡◌}
use lib.ListN.{length}
use Rattle.wire.specs.Bytes.{put_at}
use Rattle.calls.specs.Image.{row_size, rows_bytes}
use Rattle.image.specs.Sizes.{window_size}
use Rattle.image.proofs.put_rows.Given as goal

abbrev pub invariant-loop-a : goal.invariant-loop-a
invariant-loop-a l = (l.next ≡ l.at + l.a * row_size window_size) × (length l.out ≡ length l.initial.out) × (l.out ≡ put_at l.initial.out l.at (rows_bytes window_size l.a l.words))
