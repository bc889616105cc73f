-- Big-endian numbers: the laws of `big_endian` and `from_big_endian`. Assumes nothing.
use mathlib.Core.Path.{◌≡◌, refl, ap}
use mathlib.Core.List.{List, [], ◌∷◌, ◌++◌}
use Prim.Native.Nat.{ℕ, zero, suc, ◌+◌, ◌*◌, ◌%◌, ◌^◌, ◌≤◌, ◌<◌}
use native.Mathlib.Nat.{pow-suc, pow-succ', mul_assoc, add-mul, add_assoc, le_trans, pow-le-pow_right, one-le-pow, div-add-mod', mod-lt}
use native.Mathlib.Numerals.{add-one}
use native.Mathlib.Omega.{arith}
use lib.ListN.{length, length-append}
use lib.Arith.{digits_lt, digits_div, digits_mod}
use lib.Dec.{lit<}
use Rattle.wire.specs.Bytes.{AreBytes, big_endian, from_big_endian}

pub pow_pos_256 : (k : ℕ) → 0 < 256 ^ k
pow_pos_256 k = one-le-pow k 256 (lit< tt)

-- one byte more at the end
pub from_snoc : (bs : List ℕ) (b : ℕ) → from_big_endian (bs ++ (b ∷ [])) ≡ from_big_endian bs * 256 + b
unfolding from_big_endian
from_snoc [] b = omega arith
from_snoc (a ∷ bs) b =
    let l : length (bs ++ (b ∷ [])) ≡ suc (length bs) = simp length-append (add-one (length bs)) in
    rw (l, from_snoc bs b, pow-suc, add-mul, add_assoc, mul_assoc)

-- bytes make a number that fits as many bytes
pub from_lt : (bs : List ℕ) → AreBytes bs → from_big_endian bs < 256 ^ length bs
unfolding from_big_endian
from_lt [] small = omega arith
from_lt (b ∷ bs) small = rw pow-succ' (digits_lt (small 0) (from_lt bs (λ i. small (suc i))))

pub from-fits : (bs : List ℕ) → AreBytes bs → length bs ≤ 8 → from_big_endian bs < 2 ^ 64
from-fits bs small h = le_trans (from_lt bs small) (pow-le-pow_right (lit< tt) h)

pub length-big_endian : (k n : ℕ) → length (big_endian k n) ≡ k
unfolding big_endian
length-big_endian zero n = refl
length-big_endian (suc k) n = ap suc (length-big_endian k (n % 256 ^ k))

-- a number written and read
pub from-big_endian : (k n : ℕ) → n < 256 ^ k → from_big_endian (big_endian k n) ≡ n
unfolding big_endian from_big_endian
from-big_endian zero n h = omega arith
from-big_endian (suc k) n h =
    rw (length-big_endian k (n % 256 ^ k), from-big_endian k (n % 256 ^ k) (mod-lt n (pow_pos_256 k))) (div-add-mod' n (256 ^ k))

-- bytes read and written
pub big_endian-from : (bs : List ℕ) → AreBytes bs → big_endian (length bs) (from_big_endian bs) ≡ bs
unfolding big_endian from_big_endian
big_endian-from [] small = refl
big_endian-from (b ∷ bs) small =
    let below : from_big_endian bs < 256 ^ length bs = from_lt bs (λ i. small (suc i)) in
    rw (digits_div b below, digits_mod b below, big_endian-from bs (λ i. small (suc i)))
