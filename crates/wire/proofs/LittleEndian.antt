-- Little-endian numbers: the laws of `little_endian` and `from_little_endian`. Assumes nothing.
use mathlib.Core.Path.{◌≡◌, refl, ap}
use mathlib.Core.List.{List, [], ◌∷◌, ◌++◌}
use Prim.Native.Nat.{ℕ, suc, ◌+◌, ◌*◌, ◌/◌, ◌%◌, ◌^◌, ◌≤◌, ◌<◌}
use native.Mathlib.Nat.{pow-suc, mul_assoc, add-mul, add_assoc, div-div-eq-div-mul}
use native.Mathlib.Omega.{arith}
use lib.ListN.{length}
use lib.Arith.{digits_div, digits_mod}
use Rattle.wire.specs.Bytes.{AreBytes, from_big_endian, number_at, little_endian, from_little_endian, low_number_at}
use Rattle.wire.proofs.Fields.{part-written}

-- bytes, and more bytes after them
pub low-append : (xs ys : List ℕ) → from_little_endian (xs ++ ys) ≡ from_little_endian ys * 256 ^ length xs + from_little_endian xs
unfolding from_little_endian
low-append [] ys = omega arith
low-append (x ∷ xs) ys = rw (low-append xs ys, pow-suc, add-mul, add_assoc, mul_assoc)

-- bytes read and written
pub little_endian-from : (bs : List ℕ) → AreBytes bs → little_endian (length bs) (from_little_endian bs) ≡ bs
unfolding little_endian from_little_endian
little_endian-from [] small = refl
little_endian-from (b ∷ bs) small =
    rw (digits_div (from_little_endian bs) (small 0), digits_mod (from_little_endian bs) (small 0), little_endian-from bs (λ i. small (suc i)))

-- the bytes of a word are a number
pub number_of_word : (s : List ℕ) → AreBytes s → (k i : ℕ) → i + k ≤ length s → from_big_endian (little_endian k (low_number_at k s i)) ≡ number_at k s i
number_of_word s small k i h = ap from_big_endian (part-written little_endian from_little_endian little_endian-from s small k i h)

-- the number in the bytes of a word
pub swapped-word : (w : ℕ) → w < 2 ^ 64
    → w % 256 * 72057594037927936 + w / 256 % 256 * 281474976710656 + w / 65536 % 256 * 1099511627776 + w / 16777216 % 256 * 4294967296
    + w / 4294967296 % 256 * 16777216
    + w / 1099511627776 % 256 * 65536
    + w / 281474976710656 % 256 * 256
    + w / 72057594037927936
    ≡ from_big_endian (little_endian 8 w)
unfolding little_endian from_big_endian
swapped-word w h = simp div-div-eq-div-mul (omega arith)
