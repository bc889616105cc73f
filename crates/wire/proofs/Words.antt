-- Bytes read k at a time: how the numbers that they make decide their order, highest byte first, and their equality, in either byte order. Assumes nothing.
use mathlib.Core.Path.{◌≡◌, sym, ap, ap₂, ◌∙◌}
use mathlib.Core.List.{List}
use Prim.Native.Nat.{ℕ, ◌+◌, ◌^◌, ◌≤◌, ◌<◌, compare}
use lib.ListN.{length, take, drop}
use Rattle.wire.specs.Lists.{then}
use Rattle.wire.specs.Bytes.{AreBytes, compare_bytes, big_endian, number_at, little_endian, from_little_endian, low_number_at}
use Rattle.wire.proofs.BigEndian.{length-big_endian, from_lt}
use Rattle.wire.proofs.LittleEndian.{little_endian-from}
use Rattle.wire.proofs.Fields.{bytes_drop, bytes_take, number-back, part_length, part-written}
use Rattle.wire.proofs.ByteOrder.{compare_append, compare_big_endian}

number-below : (s : List ℕ) → AreBytes s → (k i : ℕ) → i + k ≤ length s → number_at k s i < 256 ^ k
number-below s small k i h = rw (part_length s i k h) at (from_lt (take k (drop i s)) (bytes_take (drop i s) k (bytes_drop s i small)))

-- the numbers decide, and where they are equal the bytes after them
pub compare_words : (a b : List ℕ) → AreBytes a → AreBytes b → (k i : ℕ) → i + k ≤ length a → i + k ≤ length b
    → compare_bytes (drop i a) (drop i b) ≡ then (compare (number_at k a i) (number_at k b i)) (compare_bytes (drop (i + k) a) (drop (i + k) b))
compare_words a b p q k i h l =
    let x : ℕ = number_at k a i in
    let y : ℕ = number_at k b i in
    ap₂ compare_bytes (sym (number-back a p k i h)) (sym (number-back b q k i l))
    ∙ compare_append (big_endian k x) (big_endian k y) (drop (i + k) a) (drop (i + k) b) (length-big_endian k x ∙ sym (length-big_endian k y))
    ∙ rw (compare_big_endian k x y (number-below a p k i h) (number-below b q k i l))

-- parts that make equal numbers are equal, in either byte order
module _ (write : ℕ → ℕ → List ℕ) (read : List ℕ → ℕ) (back : (bs : List ℕ) → AreBytes bs → write (length bs) (read bs) ≡ bs) where
  pub same-part : (a s : List ℕ) → AreBytes a → AreBytes s → (k i : ℕ) → i + k ≤ length a → i + k ≤ length s → read (take k (drop i s)) ≡ read (take k (drop i a))
      → take k (drop i s) ≡ take k (drop i a)
  same-part a s p q k i h l e = sym (part-written write read back s q k i l) ∙ ap (write k) e ∙ part-written write read back a p k i h

pub same_low_part : (a s : List ℕ) → AreBytes a → AreBytes s → (k i : ℕ) → i + k ≤ length a → i + k ≤ length s → low_number_at k s i ≡ low_number_at k a i
    → take k (drop i s) ≡ take k (drop i a)
same_low_part = same-part little_endian from_little_endian little_endian-from
