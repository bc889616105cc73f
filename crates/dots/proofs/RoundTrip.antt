-- Dots and their bytes say the same: what is written is read again, what is read is written again, and the orders agree. Assumes nothing.
use mathlib.Core.Path.{◌≡◌, refl, sym, ap}
use mathlib.Core.Bool.{true}
use mathlib.Core.List.{List, [], ◌∷◌, ◌++◌, append_assoc, append-nil}
use Prim.Native.Nat.{ℕ, zero, suc, ◌+◌, ◌*◌, ◌/◌, ◌%◌, ◌^◌, ◌≤◌, ◌<◌, compare}
use native.Mathlib.Omega.{arith}
use lib.ListN.{length, drop, length-append, drop_of_length-le}
use Rattle.wire.specs.Lists.{all, then, compare_lists}
use Rattle.wire.specs.Bytes.{AreBytes, big_endian, compare_bytes}
use Rattle.wire.proofs.Tests.{both_left, both_right}
use Rattle.wire.proofs.BigEndian.{length-big_endian}
use Rattle.wire.proofs.ByteOrder.{compare_big_endian}
use Rattle.wire.proofs.Fields.{byte_on, number-on, byte_back, number-back}
use Rattle.dots.specs.declared.Dot.{Dot}
use Rattle.dots.specs.Dots.{compare_dots, dot_ok}
use Rattle.dots.specs.Wire.{dot_bytes, dots_bytes, dot_at, dots_at, dots_of, dot_size}
use Rattle.dots.proofs.Rules.{valid}

pub length-dot : (d : Dot) → length (dot_bytes d) ≡ dot_size
unfolding dot_bytes
length-dot d = rw (length-big_endian 8 d.counter.number)

pub length-dots : (ds : List Dot) → length (dots_bytes ds) ≡ dot_size * length ds
unfolding dots_bytes
length-dots [] = refl
length-dots (d ∷ ds) = rw (length-append (dot_bytes d) (dots_bytes ds), length-dot) (omega (arith, length-dots ds))

pub dots-append : (ds es : List Dot) → dots_bytes (ds ++ es) ≡ dots_bytes ds ++ dots_bytes es
unfolding dots_bytes
dots-append [] es = refl
dots-append (d ∷ ds) es = rw (dots-append ds es, append_assoc)

pub counter-fits : (d : Dot) → dot_ok d ≡ true → d.counter.number < 256 ^ 8
counter-fits d ok = let high = (valid d ok).counter_high in omega arith

-- ---- written, then read

module _ (s : List ℕ) where
  pub dot-on : (i : ℕ) (d : Dot) (t : List ℕ) → dot_ok d ≡ true → drop i s ≡ dot_bytes d ++ t → (dot_at s i ≡ d) × (drop (i + dot_size) s ≡ t)
  unfolding dot_bytes
  dot-on i d t ok h =
      let first = byte_on s i d.actor.number (big_endian 8 d.counter.number ++ t) h in
      let rest = number-on s 8 (i + 1) d.counter.number t (counter-fits d ok) first.1 in
      let nine : i + 1 + 8 ≡ i + dot_size = omega arith in
      (rw (first.0, rest.0), rw nine at rest.1)

  pub dots-on : (ds : List Dot) (i : ℕ) (t : List ℕ) → all dot_ok ds ≡ true → drop i s ≡ dots_bytes ds ++ t → dots_at (length ds) s i ≡ ds
  unfolding dots_bytes dots_at all
  dots-on [] i t ok h = refl
  dots-on (d ∷ ds) i t ok h =
      let first = dot-on i d (dots_bytes ds ++ t) (both_left (dot_ok d) (all dot_ok ds) ok) (rw append_assoc at h) in
      rw (first.0, dots-on ds (i + dot_size) t (both_right (dot_ok d) (all dot_ok ds) ok) first.1)

pub dots-written : (ds : List Dot) → all dot_ok ds ≡ true → dots_of (dots_bytes ds) ≡ ds
unfolding dots_of
dots-written ds ok =
    let count : length (dots_bytes ds) / dot_size ≡ length ds = rw length-dots (omega arith) in
    rw count (dots-on (dots_bytes ds) ds 0 [] ok (sym (append-nil (dots_bytes ds))))

-- ---- read, then written

module _ (s : List ℕ) (small : AreBytes s) where
  pub dot-back : (i : ℕ) → i + dot_size ≤ length s → dot_bytes (dot_at s i) ++ drop (i + dot_size) s ≡ drop i s
  unfolding dot_bytes
  dot-back i h =
      let nine : i + dot_size ≡ i + 1 + 8 = omega arith in
      rw (nine, number-back s small 8 (i + 1) (omega arith)) (byte_back s i (omega arith))

  pub dots-back : (n i : ℕ) → i + dot_size * n ≡ length s → dots_bytes (dots_at n s i) ≡ drop i s
  unfolding dots_bytes dots_at
  dots-back zero i h = let end : length s ≤ i = omega arith in sym (drop_of_length-le s end)
  dots-back (suc n) i h = rw (dots-back n (i + dot_size) (omega arith)) (dot-back i (omega arith))

  pub dots-read : length s % dot_size ≡ 0 → dots_bytes (dots_of s) ≡ s
  unfolding dots_of
  dots-read h = dots-back (length s / dot_size) 0 (omega arith)

-- ---- plain byte order of dots in bytes is their order

pub dot-order : (d e : Dot) → dot_ok d ≡ true → dot_ok e ≡ true → compare_bytes (dot_bytes d) (dot_bytes e) ≡ compare_dots d e
unfolding dot_bytes compare_lists
dot-order d e h k = ap (then (compare d.actor.number e.actor.number)) (compare_big_endian 8 d.counter.number e.counter.number (counter-fits d h) (counter-fits e k))
