-- What a set's keys begin with, compared as the low bytes of a word; and the set's name in it. Assumes nothing.
use Rattle.std.proofs.Common.{◌≡◌, ℕ, zero, suc, ◌+◌, ◌-◌, ◌*◌, ◌%◌, ◌^◌, ◌<◌, ◌≤◌, eqb, [], ◌∷◌, ◌++◌, length, get_or, take, drop, replicate, sym, refl, ap, ◌∙◌, mod-eq_of_lt, pow-suc, arith, take_all, take_at, pow_pos, pow-add, w8, Fits}
use lib.Arith.{digits_mod}
use lib.Bits.{bit_and, and_mask}
use lib.Pow.{pow-lt}
use lib.Seq.{take-append-add}
use Rattle.wire.specs.Bytes.{Bytes, AreBytes, put_at, from_little_endian, low_number_at, starts_with}
use Rattle.wire.proofs.LittleEndian.{low-append}
use Rattle.wire.proofs.Fields.{part_length, bytes_take, put_front}
use Rattle.wire.proofs.Parts.{part-add}
use Rattle.search.proofs.Pieces.{same_piece}
use Rattle.dots.specs.Names.{Name}
use Rattle.keys.specs.Entry.{prefix}
use Rattle.keys.specs.Key.{prefix_fixed}
use Rattle.keys.proofs.EntryKeys.{length-prefix}
use Rattle.store.specs.declared.Prefix.{Prefix}
use Rattle.store.specs.Pass.{prefix_most, tail_most, name_in, IsStart, IsPrefix}
use Rattle.store.proofs.Starts.{name_most_lem}

-- ---- the name

pub name_in_lem : (name : Name) → name_in (prefix name) ≡ name
unfolding prefix
name_in_lem name =
    let size : length (prefix name) - prefix_fixed ≡ length name = rw length-prefix (omega arith) in
    rw size (take_at name (0 ∷ (0x65 ∷ [])) (length name) refl)

pub start-size : (start : Bytes) → start ≡ prefix (name_in start) → length start ≡ length (name_in start) + prefix_fixed
start-size start is = ap length is ∙ length-prefix (name_in start)

pub start-few : (start : Bytes) → IsStart start → length start ≤ prefix_most
start-few start is = omega (arith, start-size start is.1, name_most_lem (name_in start) is.0)

-- ---- low bytes of a word

byte_pow : (k : ℕ) → 256 ^ k ≡ 2 ^ (8 * k)
byte_pow zero = refl
byte_pow (suc k) =
    let more : 8 * suc k ≡ 8 * k + 8 = omega arith in
    rw (pow-suc, more, pow-add, byte_pow k)

low_less : (l : Bytes) → AreBytes l → from_little_endian l < 256 ^ length l
unfolding from_little_endian
low_less [] small = omega arith
low_less (b ∷ l) small = rw pow-suc (omega (arith, low_less l (λ i. small (suc i)), small 0))

low_part : (s : Bytes) → AreBytes s → (k : ℕ) → k ≤ 8 → 8 ≤ length s → bit_and (low_number_at 8 s 0) (2 ^ (8 * k) - 1) ≡ low_number_at k s 0
low_part s small k h room =
    let parts : take 8 s ≡ take k s ++ take (8 - k) (drop (0 + k) s) = let all : k + (8 - k) ≡ 8 = omega arith in rw all at (part-add s 0 k (8 - k)) in
    let size : length (take k s) ≡ k = part_length s 0 k (omega arith) in
    let less : from_little_endian (take k s) < 256 ^ k = rw size at (low_less (take k s) (bytes_take s k small)) in
    and_mask (from_little_endian (take 8 s)) (8 * k) ∙ rw (← byte_pow, parts, low-append, size) (digits_mod (from_little_endian (take (8 - k) (drop (0 + k) s))) less)

-- ---- compared

pub few-begin : (start s : Bytes) → ((i : ℕ) → Fits w8 (get_or start i 0)) → ((i : ℕ) → Fits w8 (get_or s i 0)) → (p : Prefix) → IsPrefix start p → tail_most ≤ length s → p.len ≤ 8
    → (w : ℕ) → w ≡ low_number_at 8 s 0 → eqb (bit_and w p.mask) p.pattern ≡ starts_with start s
few-begin start s small small' p is room h w e =
    let k : ℕ = length start in
    let few : k ≤ 8 = omega (arith, is.size) in
    let whole : take k start ≡ start = take_all k start (omega arith) in
    let word : bit_and w p.mask ≡ low_number_at k s 0 = rw (e, is.counts few) (low_part s (λ i. (small' i).fits) k few (omega arith)) in
    let pattern : p.pattern ≡ low_number_at k start 0 = is.is few ∙ ap from_little_endian (sym whole) in
    same_piece start s (λ i. (small i).fits) (λ i. (small' i).fits) k 0 _ _ (omega arith) (omega arith) word pattern ∙ rw whole

-- ---- made

abbrev zeros : ℕ → Bytes
zeros m = replicate m 0

-- a part of zeros is 0
from-zeros : (i j m : ℕ) → from_little_endian (take j (drop i (zeros m))) ≡ 0
unfolding from_little_endian
from-zeros i zero m = refl
from-zeros zero (suc j) zero = refl
from-zeros zero (suc j) (suc m) = rw (from-zeros zero j m)
from-zeros (suc i) (suc j) zero = refl
from-zeros (suc i) (suc j) (suc m) = from-zeros i (suc j) m

pub pattern_is : (start bytes : Bytes) (m : ℕ) → bytes ≡ put_at (zeros m) 0 start → length start ≤ 8 → low_number_at 8 bytes 0 ≡ from_little_endian start
pattern_is start bytes m e few =
    let rest : Bytes = drop (length start) (zeros m) in
    let eight : 8 ≡ length start + (8 - length start) = omega arith in
    let part : take 8 bytes ≡ start ++ take (8 - length start) rest =
    ap (take 8) (e ∙ put_front (zeros m) start) ∙ ap (λ (n : ℕ). take n (start ++ rest)) eight ∙ take-append-add start rest (8 - length start) in
    ap from_little_endian part ∙ low-append start (take (8 - length start) rest) ∙ rw (from-zeros (length start) (8 - length start) m) (omega arith)

-- the bits of fewer than 8 bytes
pub bits_are : (k : ℕ) → k < 8 → 1 * 2 ^ (8 * k) % 2 ^ 64 ≡ 2 ^ (8 * k)
bits_are k h =
    let less : 2 ^ (8 * k) < 2 ^ 64 = pow-lt {i = 8 * k} {j = 64} (omega arith) in
    let one : 1 * 2 ^ (8 * k) ≡ 2 ^ (8 * k) = omega arith in
    rw one (mod-eq_of_lt less)

pub bits_some : (k : ℕ) → 1 ≤ 2 ^ (8 * k)
bits_some k = pow_pos (8 * k)
