-- Numbers in bytes as std defines them, by a width: they are those of `Bytes`. Assumes nothing.
use mathlib.Core.Path.{◌≡◌, refl, sym, ap, ap₂, ◌∙◌}
use mathlib.Core.List.{List, [], ◌∷◌}
use Prim.Native.Nat.{ℕ, zero, suc, ◌+◌, ◌-◌, ◌*◌, ◌/◌, ◌%◌, ◌^◌, ◌≤◌, ◌<◌}
use native.Mathlib.Nat.{pow-succ', add_comm, add-mul, mul_assoc, mod-lt, mod-eq_of_lt}
use native.Mathlib.Omega.{arith}
use lib.Dec.{lit<}
use lib.Arith.{mod-mul, digits_div, digits_mod}
use lib.ListN.{length, take, drop, get_or}
use lib.Seq.{take-suc, take_all, length-take-le}
use mir.Syntax.{Width, w8, w16, w32, w64, w128}
use Rattle.std.specs.Int.{byte_len, byte_worth, byte_at, bytes_high_first, sum_through, from_le_bytes, from_be_bytes, to_be_bytes, swap_bytes}
use Rattle.wire.specs.Bytes.{big_endian, from_big_endian, number_at, little_endian, from_little_endian, low_number_at}
use Rattle.wire.proofs.BigEndian.{from_snoc, pow_pos_256}
use Rattle.wire.proofs.Fields.{part_length}
use Rattle.wire.proofs.LittleEndian.{low-append, swapped-word}

-- a number has a byte
size : (w : Width) → suc (byte_len w - 1) ≡ byte_len w
size w8 = refl
size w16 = refl
size w32 = refl
size w64 = refl
size w128 = refl

-- ---- read

byte-worth : (i b : ℕ) → byte_worth i b ≡ b * 256 ^ i
byte-worth zero b = omega arith
byte-worth (suc i) b = refl

-- the first k + 1 bytes, lowest first
low-through : (bs : List ℕ) (k : ℕ) → k < length bs → sum_through (λ i. byte_worth i (get_or bs i 0)) k ≡ from_little_endian (take (suc k) bs)
unfolding from_little_endian
low-through [] k h = absurd (omega arith)
low-through (b ∷ bs) zero h = omega arith
low-through (b ∷ bs) (suc k) h =
    let l : List ℕ = b ∷ bs in
    let y : ℕ = get_or l (suc k) 0 in
    let front : length (take (suc k) l) ≡ suc k = length-take-le (suc k) l (omega arith) in
    let one : from_little_endian (y ∷ []) ≡ y = omega arith in
    let both : from_little_endian (take (suc (suc k)) l) ≡ y * 256 ^ suc k + from_little_endian (take (suc k) l) =
    ap from_little_endian (take-suc l (suc k) 0 h) ∙ low-append (take (suc k) l) (y ∷ []) ∙ rw (one, front) in
    ap (λ (x : ℕ). x + y * 256 ^ suc k) (low-through l k (omega arith)) ∙ add_comm _ _ ∙ sym both

one-high : (b : ℕ) → from_big_endian (b ∷ []) ≡ b
unfolding from_big_endian
one-high b = omega arith

-- of m + 1 bytes the first k + 1, highest first
high-through : (bs : List ℕ) (m k : ℕ) → k < length bs → k ≤ m → sum_through (λ i. byte_worth (m - i) (get_or bs i 0)) k ≡ from_big_endian (take (suc k) bs) * 256 ^ (m - k)
high-through [] m k h l = absurd (omega arith)
high-through (b ∷ bs) m zero h l = byte-worth (m - 0) b ∙ ap (λ (x : ℕ). x * 256 ^ (m - 0)) (sym (one-high b))
high-through (b ∷ bs) m (suc k) h l =
    let next : m - k ≡ suc (m - suc k) = omega arith in
    let y : ℕ = get_or (b ∷ bs) (suc k) 0 in
    let more : from_big_endian (take (suc (suc k)) (b ∷ bs)) ≡ from_big_endian (take (suc k) (b ∷ bs)) * 256 + y =
    ap from_big_endian (take-suc (b ∷ bs) (suc k) 0 h) ∙ from_snoc (take (suc k) (b ∷ bs)) y in
    ap₂ ◌+◌ (high-through (b ∷ bs) m k (omega arith) (omega arith)) (byte-worth (m - suc k) y)
    ∙ rw (more, next, pow-succ', add-mul, mul_assoc)

module _ (w : Width) (bs : List ℕ) (e : length bs ≡ byte_len w) where
  pub from_le : from_le_bytes w bs ≡ from_little_endian bs
  from_le = low-through bs (byte_len w - 1) (omega (arith, size w)) ∙ ap from_little_endian (take_all (suc (byte_len w - 1)) bs (omega (arith, size w)))

  pub from_be : from_be_bytes w bs ≡ from_big_endian bs
  from_be =
      let last : byte_len w - 1 - (byte_len w - 1) ≡ 0 = omega arith in
      high-through bs (byte_len w - 1) (byte_len w - 1) (omega (arith, size w)) (omega arith)
      ∙ rw (last, size w, take_all (byte_len w) bs (omega arith)) (omega arith)

-- ---- written

byte-at : (k n : ℕ) → byte_at k n ≡ n / 256 ^ k % 256
byte-at zero n = omega arith
byte-at (suc k) n = refl

high-bytes : (k n : ℕ) → bytes_high_first k n ≡ big_endian k (n % 256 ^ k)
unfolding big_endian
high-bytes zero n = refl
high-bytes (suc k) n =
    let below = mod-lt n (pow_pos_256 k) in
    rw (pow-succ', mod-mul n (lit< tt) (pow_pos_256 k), digits_div (n / 256 ^ k % 256) below, digits_mod (n / 256 ^ k % 256) below, byte-at k n, high-bytes k n)

pub to_be : (w : Width) (n : ℕ) → n < 256 ^ byte_len w → to_be_bytes w n ≡ big_endian (byte_len w) n
to_be w n small = high-bytes (byte_len w) n ∙ ap (big_endian (byte_len w)) (mod-eq_of_lt small)

-- ---- swapped

-- std swaps byte by byte: the sum of the bytes, each at the other end
pub std-swapped : (w : ℕ) → w < 2 ^ 64 → swap_bytes w64 w ≡ from_big_endian (little_endian 8 w)
std-swapped w h =
    let top : w / 72057594037927936 % 256 ≡ w / 72057594037927936 = mod-eq_of_lt (omega arith) in
    let front : ℕ = w % 256 * 72057594037927936 + w / 256 % 256 * 281474976710656 + w / 65536 % 256 * 1099511627776 + w / 16777216 % 256 * 4294967296
    + w / 4294967296 % 256 * 16777216 + w / 1099511627776 % 256 * 65536 + w / 281474976710656 % 256 * 256 in
    ap (λ (x : ℕ). front + x) top ∙ swapped-word w h

-- ---- as the code calls them: numbers read at a place

module _ (w : Width) (s bs : List ℕ) (at n : ℕ) (h : at + byte_len w ≤ length s) (e : bs ≡ take (byte_len w) (drop at s)) where
  bytes_read : length bs ≡ byte_len w
  bytes_read = rw e (part_length s at (byte_len w) h)

  pub low_read : n ≡ from_le_bytes w bs → n ≡ low_number_at (byte_len w) s at
  low_read f = f ∙ from_le w bs bytes_read ∙ ap from_little_endian e

  pub high_read : n ≡ from_be_bytes w bs → n ≡ number_at (byte_len w) s at
  high_read f = f ∙ from_be w bs bytes_read ∙ ap from_big_endian e
