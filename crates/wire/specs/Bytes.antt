-- Bytes: their order, numbers in bytes, and what moving a piece inside a buffer leaves.
use Rattle.std.specs.Borrow.{Bor}
use Prim.Native.Nat.{ℕ, zero, suc, ◌+◌, ◌-◌, ◌*◌, ◌/◌, ◌%◌, ◌^◌, ◌<◌, compare, Ordering}
use Rattle.std.specs.Prelude.{◌≡◌, Bool, true, false, ◌&&◌, List, [], ◌∷◌, ◌++◌, leb, eqb, length, take, drop, get_or}
use Rattle.wire.specs.Lists.{compare_lists}
use Rattle.wire.specs.declared.Span.{Span}

abbrev pub Bytes : Type 0
Bytes = List ℕ

-- every number is a byte: what is known of each lent slice
abbrev pub AreBytes : Bytes → Type 0
AreBytes s = (i : ℕ) → get_or s i 0 < 256

abbrev pub between : ℕ → ℕ → ℕ → Bool
between low high n = leb low n && leb n high

-- plain byte order
abbrev pub compare_bytes : Bytes → Bytes → Ordering
compare_bytes = compare_lists compare

-- the byte at a place, and 0 past the end
abbrev pub byte_at : Bytes → ℕ → ℕ
byte_at s at = get_or s at 0

-- the bytes from a place on, at most `len` of them
abbrev pub part_at : Bytes → ℕ → ℕ → Bytes
part_at s at len = take len (drop at s)

-- a stretch of bytes, where it ends, and its bytes
abbrev pub span : ℕ → ℕ → Span
span at len = record { at = at; len = len }

abbrev pub end_of : Span → ℕ
end_of p = p.at + p.len

abbrev pub part_of : Bytes → Span → Bytes
part_of s p = part_at s p.at p.len

-- n in k bytes, highest first
unfoldable pub big_endian : ℕ → ℕ → Bytes
big_endian zero n = []
big_endian (suc k) n = n / 256 ^ k ∷ big_endian k (n % 256 ^ k)

-- the number that bytes are, highest first
unfoldable pub from_big_endian : Bytes → ℕ
from_big_endian [] = 0
from_big_endian (b ∷ bs) = b * 256 ^ length bs + from_big_endian bs

-- the number in the k bytes from a place on
abbrev pub number_at : ℕ → Bytes → ℕ → ℕ
number_at k s at = from_big_endian (part_at s at k)

-- n in k bytes, lowest first
unfoldable pub little_endian : ℕ → ℕ → Bytes
little_endian zero n = []
little_endian (suc k) n = n % 256 ∷ little_endian k (n / 256)

-- the number that bytes are, lowest first
unfoldable pub from_little_endian : Bytes → ℕ
from_little_endian [] = 0
from_little_endian (b ∷ bs) = from_little_endian bs * 256 + b

-- the number in the k bytes from a place on, lowest first
abbrev pub low_number_at : ℕ → Bytes → ℕ → ℕ
low_number_at k s at = from_little_endian (part_at s at k)

-- the index of the first 0, or the length
unfoldable pub zero_at : Bytes → ℕ
zero_at [] = 0
zero_at (zero ∷ bs) = 0
zero_at (suc b ∷ bs) = suc (zero_at bs)

-- whether ys begins with xs
unfoldable pub starts_with : Bytes → Bytes → Bool
starts_with [] ys = true
starts_with (x ∷ xs) [] = false
starts_with (x ∷ xs) (y ∷ ys) = eqb y x && starts_with xs ys

-- ---- pieces of a buffer s

-- x written at a place, the rest as it was
unfoldable pub put_at : Bytes → ℕ → Bytes → Bytes
put_at s at x = take at s ++ (x ++ drop (at + length x) s)

-- x inserted at a place of the first `used` bytes: what follows it there moves up, the rest is as it was
unfoldable pub inserted_at : Bytes → ℕ → ℕ → Bytes → Bytes
inserted_at s used at x = take at s ++ (x ++ (part_at s at (used - at) ++ drop (used + length x) s))

-- ---- parts that are handed back

-- r is the very stretch of s from start to end, and no copy: it lies in the block of s, start bytes on
pub record IsPart (s : Bor Bytes) (start end : ℕ) (r : Bor Bytes) : Type 0 where
  pub block : r.ref_ptr.0 ≡ s.ref_ptr.0
  pub offset : r.ref_ptr.1 ≡ s.ref_ptr.1 + start
  pub bytes : r.now ≡ part_at s.now start (end - start)
