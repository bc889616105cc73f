-- Three fields put into a buffer one after the other are one put of all. Assumes nothing.
use mathlib.Core.Path.{◌≡◌, ap, ◌∙◌}
use mathlib.Core.List.{◌++◌, append_assoc}
use Prim.Native.Nat.{ℕ, ◌+◌, ◌≤◌}
use native.Mathlib.Omega.{arith}
use lib.ListN.{length, length-append}
use Rattle.wire.specs.Bytes.{Bytes, put_at}
use Rattle.wire.proofs.Fields.{put_next}

pub put_three : (s t u v x y z : Bytes) (at n m : ℕ) → t ≡ put_at s at x → n ≡ at + length x → u ≡ put_at t n y → m ≡ n + length y → v ≡ put_at u m z → m ≤ length s
    → v ≡ put_at s at (x ++ (y ++ z))
put_three s t u v x y z at n m e f g h k fits =
    let two : u ≡ put_at s at (x ++ y) = put_next s t u x y at n e f g (omega arith) in
    let end : m ≡ at + length (x ++ y) = rw length-append (omega arith) in
    put_next s u v (x ++ y) z at m two end k fits ∙ ap (put_at s at) (append_assoc x y z)
