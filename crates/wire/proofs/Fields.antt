-- Fields in bytes. On: where a place's rest begins with a field's bytes, the field is read there, and the rest goes on after it.
-- Back: a field read at a place, with the rest after it, is the place's rest. Assumes nothing.
use mathlib.Core.Path.{◌≡◌, sym, ap, ◌∙◌}
use mathlib.Core.List.{List, ◌∷◌, ◌++◌, append_assoc}
use Prim.Native.Nat.{ℕ, zero, suc, ◌+◌, ◌-◌, ◌^◌, ◌≤◌, ◌<◌}
use native.Mathlib.Nat.{add-zero, zero-add, sub-zero, zero-sub, suc-sub-suc}
use native.Mathlib.Decide.{dec_lt}
use native.Mathlib.Omega.{arith}
use lib.ListN.{length, take, drop, get_or, replicate, length-drop, take-append-drop, length-take, length-append, get_or-eq_default}
use lib.Seq.{take_at, drop_at, drop-drop, get_or-drop, get_or-take, length-take-le}
use Rattle.wire.specs.Bytes.{AreBytes, big_endian, from_big_endian, number_at, put_at}
use Rattle.wire.proofs.Parts.{drop-step}
use Rattle.wire.proofs.BigEndian.{length-big_endian, from-big_endian, big_endian-from}

module _ (s : List ℕ) where
  pub byte_on : (i x : ℕ) (t : List ℕ) → drop i s ≡ x ∷ t → (get_or s i 0 ≡ x) × (drop (i + 1) s ≡ t)
  byte_on i x t h = (sym (rw add-zero at (get_or-drop i s 0 0)) ∙ ap (λ (l : List ℕ). get_or l 0 0) h, sym (drop-drop 1 i s) ∙ ap (drop 1) h)

  pub part-on : (i n : ℕ) (p t : List ℕ) → length p ≡ n → drop i s ≡ p ++ t → (take n (drop i s) ≡ p) × (drop (i + n) s ≡ t)
  part-on i n p t e h = (rw h (take_at p t n e), sym (drop-drop n i s) ∙ rw h (drop_at p t n e))

  pub number-on : (k i n : ℕ) (t : List ℕ) → n < 256 ^ k → drop i s ≡ big_endian k n ++ t → (number_at k s i ≡ n) × (drop (i + k) s ≡ t)
  number-on k i n t small h =
      let part = part-on i k (big_endian k n) t (length-big_endian k n) h in
      (rw part.0 (from-big_endian k n small), part.1)

  pub byte_back : (i : ℕ) → i < length s → get_or s i 0 ∷ drop (i + 1) s ≡ drop i s
  byte_back i h = sym (drop-step s i h)

  pub part-back : (i n : ℕ) → take n (drop i s) ++ drop (i + n) s ≡ drop i s
  part-back i n = rw (← drop-drop n i s) (take-append-drop n (drop i s))

  pub part_length : (i n : ℕ) → i + n ≤ length s → length (take n (drop i s)) ≡ n
  part_length i n h = length-take-le n (drop i s) (rw length-drop (omega arith))

-- ---- parts of bytes are bytes

pub bytes_drop : (s : List ℕ) (n : ℕ) → AreBytes s → AreBytes (drop n s)
bytes_drop s n small i = rw get_or-drop (small (n + i))

pub bytes_take : (s : List ℕ) (n : ℕ) → AreBytes s → AreBytes (take n s)
bytes_take s n small i = elim (dec_lt i n) [
  | yes h ↦ rw (get_or-take n s i 0 h) (small i)
  | no h ↦ let past : length (take n s) ≤ i = rw length-take (omega arith) in rw (get_or-eq_default (take n s) 0 past) (omega arith)
]

-- a part read as a number and written again, in either byte order
module _ (write : ℕ → ℕ → List ℕ) (read : List ℕ → ℕ) (back : (bs : List ℕ) → AreBytes bs → write (length bs) (read bs) ≡ bs) where
  pub part-written : (s : List ℕ) → AreBytes s → (k i : ℕ) → i + k ≤ length s → write k (read (take k (drop i s))) ≡ take k (drop i s)
  part-written s small k i h = rw (part_length s i k h) at (back (take k (drop i s)) (bytes_take (drop i s) k (bytes_drop s i small)))

pub number-back : (s : List ℕ) → AreBytes s → (k i : ℕ) → i + k ≤ length s → big_endian k (number_at k s i) ++ drop (i + k) s ≡ drop i s
number-back s small k i h = rw (part-written big_endian from_big_endian big_endian-from s small k i h) (part-back s i k)

-- ---- bytes put into a buffer one after the other

-- one put after another is one put of both
pub put_next : (s t u x y : List ℕ) (at next : ℕ) → t ≡ put_at s at x → next ≡ at + length x → u ≡ put_at t next y → next ≤ length s → u ≡ put_at s at (x ++ y)
unfolding put_at
put_next s t u x y at next e n f fits =
    let front : length (take at s ++ x) ≡ next = rw (length-append, length-take-le at s (omega arith)) (sym n) in
    let whole : t ≡ (take at s ++ x) ++ drop next s = e ∙ rw (n, append_assoc) in
    let rest : drop (next + length y) t ≡ drop (next + length y) s =
    rw (← drop-drop (length y) next t, ← drop-drop (length y) next s, whole, drop_at (take at s ++ x) (drop next s) next front) in
    let total : next + length y ≡ at + length (x ++ y) = rw length-append (omega arith) in
    f ∙ rw (rest, whole, take_at (take at s ++ x) (drop next s) next front, total, append_assoc, append_assoc)

pub put_front : (s x : List ℕ) → put_at s 0 x ≡ x ++ drop (length x) s
unfolding put_at
put_front s x = rw zero-add

-- the bytes of a number put at a place
module _ (k : ℕ) (bytes : List ℕ) (at number : ℕ) (e : bytes ≡ big_endian k number) where
  pub number-ends : (r : ℕ) → r ≡ at + length bytes → r ≡ at + k
  number-ends r f = f ∙ rw (e, length-big_endian k number)

  pub number_put : (s t : List ℕ) → t ≡ put_at s at bytes → t ≡ put_at s at (big_endian k number)
  number_put s t f = rw e at f

-- bytes put at the front of zeros
pub drop-zeros : (k n : ℕ) → drop k (replicate {A = ℕ} n 0) ≡ replicate (n - k) 0
drop-zeros zero n = rw sub-zero
drop-zeros (suc k) zero = rw zero-sub
drop-zeros (suc k) (suc n) = drop-zeros k n ∙ rw suc-sub-suc

pub put-zeros : (n : ℕ) (x t : List ℕ) → t ≡ put_at (replicate n 0) 0 x → t ≡ x ++ replicate (n - length x) 0
put-zeros n x t e = e ∙ put_front (replicate n 0) x ∙ rw (drop-zeros (length x) n)
