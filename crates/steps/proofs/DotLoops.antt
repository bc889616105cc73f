-- Dots in bytes have counters that fit in 8 bytes. Assumes nothing.
use Prim.Native.Nat.{ℕ, zero, suc, ◌+◌, ◌/◌, ◌≤◌, ◌<◌, ◌^◌}
use mathlib.Core.Bool.{false}
use mathlib.Core.List.Memᴰ
use mathlib.Core.List.{List}
use mathlib.Core.Logic.{◌⊎◌, inl, inr}
use mathlib.Core.Path.{◌≡◌, sym}
use native.Mathlib.Omega.{arith}
use lib.ListN.{length, take, drop, length-take}
use Rattle.wire.specs.Lists.{◌∈◌, member}
use Rattle.wire.specs.Bytes.{AreBytes, number_at}
use Rattle.wire.proofs.Tests.{untrue, pass}
use Rattle.wire.proofs.Lists.{member-sound}
use Rattle.wire.proofs.BigEndian.{from-fits}
use Rattle.wire.proofs.Fields.{bytes_drop, bytes_take}
use Rattle.dots.specs.declared.Actor.{Actor}
use Rattle.dots.specs.declared.Dot.{Dot}
use Rattle.dots.specs.Dots.{dot_of, compare_dots}
use Rattle.dots.specs.Wire.{dot_at, dots_at, dots_of, dot_size}
use Rattle.dots.proofs.Orders.{dots}

-- a counter in 8 bytes is no more than the largest
counter-bounded : (s : List ℕ) → AreBytes s → (n at : ℕ) (d : Dot) → d ∈ dots_at n s at → d.counter.number < 2 ^ 64
unfolding dots_at
counter-bounded s small zero at d m = absurd (Memᴰ.not-nil m)
counter-bounded s small (suc n) at d m = by (counter-bounded s small n (at + dot_size) d) (Memᴰ.cases_cons m)
  where
    by : (d ∈ dots_at n s (at + dot_size) → d.counter.number < 2 ^ 64) → (d ≡ dot_at s at) ⊎ (d ∈ dots_at n s (at + dot_size)) → d.counter.number < 2 ^ 64
    by below (inl q) =
        let fits : number_at 8 s (at + 1) < 2 ^ 64 = from-fits (take 8 (drop (at + 1) s)) (bytes_take (drop (at + 1) s) 8 (bytes_drop s (at + 1) small)) (rw length-take (omega arith)) in
        rw q fits
    by below (inr k) = below k

-- past the largest counter there is no dot
pub none_past_largest : (s : List ℕ) → AreBytes s → (own : Actor) (n : ℕ) → 2 ^ 64 ≤ n → false ≡ member compare_dots (dot_of own n) (dots_of s)
unfolding dots_of
none_past_largest s small own n h =
    sym (untrue (member compare_dots (dot_of own n) (dots_of s)) (λ t. let l = counter-bounded s small (length s / dot_size) 0 (dot_of own n) (member-sound compare_dots dots (dots_of s) (pass t)) in omega arith))
