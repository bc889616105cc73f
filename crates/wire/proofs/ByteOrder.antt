-- Plain byte order: of numbers in bytes, of strings that a 0 ends, and of strings with a common start. Assumes nothing.
use mathlib.Core.Path.{◌≡◌, refl, sym, ap, ap₂, ◌∙◌}
use mathlib.Core.Bool.{true, ◌&&◌, false≢true, and_assoc}
use mathlib.Core.List.{List, [], ◌∷◌, ◌++◌}
use Prim.Native.Nat.{ℕ, zero, suc, ◌+◌, ◌*◌, ◌/◌, ◌%◌, ◌^◌, ◌≤◌, ◌<◌, compare, Ordering}
use native.Mathlib.Nat.{div-add-mod', mod-lt}
use native.Mathlib.Decide.{dec_lt}
use native.Mathlib.Omega.{arith}
use lib.Arith.{digits_lt}
use lib.Dec.{leb, eqb}
use lib.ListN.{length, take, drop, get_or}
use borrow.Author.Tests.{le-leb, leb-true, eqb-true, eq-eqb}
use Rattle.wire.specs.Lists.{all, then, compare_lists}
use Rattle.wire.specs.Bytes.{compare_bytes, big_endian, zero_at, starts_with}
use Rattle.wire.proofs.Tests.{both}
use Rattle.wire.proofs.Orders.{numbers, numbers-self, number_less, less_number, bytes_lawful}
use Rattle.wire.proofs.BigEndian.{pow_pos_256}

-- ---- numbers in bytes

-- what two numbers compare as, by their order
pub number_is_less : {m n : ℕ} → m < n → compare m n ≡ Ordering.lt
number_is_less {m} {n} h = number_less m n h

pub number_is_equal : {m n : ℕ} → m ≡ n → compare m n ≡ Ordering.eq
number_is_equal {m} {n} h = ap (compare m) (sym h) ∙ numbers-self m

pub number_is_greater : {m n : ℕ} → n < m → compare m n ≡ Ordering.gt
number_is_greater {m} {n} h = step (compare m n) refl
  where
    step : (o : Ordering) → compare m n ≡ o → o ≡ Ordering.gt
    step Ordering.lt e = absurd (let l = less_number m n e in omega arith)
    step Ordering.eq e = absurd (let q = numbers.tie m n e in omega arith)
    step Ordering.gt e = refl

-- two numbers compare as two others, where they are ordered alike
alike : (m n p q : ℕ) → (m < n → p < q) → (m ≡ n → p ≡ q) → (n < m → q < p) → compare p q ≡ compare m n
alike m n p q lt eq gt = elim (dec_lt m n) [
  | yes h ↦ number_is_less (lt h) ∙ sym (number_is_less h)
  | no h ↦ elim (dec_lt n m) [ yes k ↦ number_is_greater (gt k) ∙ sym (number_is_greater k) | no k ↦ number_is_equal (eq (omega arith)) ∙ sym (number_is_equal (omega arith)) ]
]

-- numbers of two digits compare by the first, then the second
digits : (q r s t c : ℕ) → r < c → t < c → then (compare q s) (compare r t) ≡ compare (q * c + r) (s * c + t)
digits q r s t c h k = elim (dec_lt q s) [
  | yes l ↦ rw (number_is_less l) (sym (number_is_less (omega (arith, digits_lt l h))))
  | no l ↦ elim (dec_lt s q) [
    | yes m ↦ rw (number_is_greater m) (sym (number_is_greater (omega (arith, digits_lt m k))))
    | no m ↦
        let e : q ≡ s = omega arith in
        rw (number_is_equal e, e) (sym (alike r t (s * c + r) (s * c + t) (λ u. omega arith) (λ u. omega arith) (λ u. omega arith)))
  ]
]

pub compare_big_endian : (k m n : ℕ) → m < 256 ^ k → n < 256 ^ k → compare_bytes (big_endian k m) (big_endian k n) ≡ compare m n
unfolding big_endian compare_lists
compare_big_endian zero m n h l = sym (number_is_equal (omega arith))
compare_big_endian (suc k) m n h l =
    let p : ℕ = 256 ^ k in
    let low : compare_bytes (big_endian k (m % p)) (big_endian k (n % p)) ≡ compare (m % p) (n % p) =
    compare_big_endian k (m % p) (n % p) (mod-lt m (pow_pos_256 k)) (mod-lt n (pow_pos_256 k)) in
    ap (λ (o : Ordering). then (compare (m / p) (n / p)) o) low
    ∙ digits (m / p) (m % p) (n / p) (n % p) p (mod-lt m (pow_pos_256 k)) (mod-lt n (pow_pos_256 k))
    ∙ ap₂ compare (div-add-mod' m p) (div-add-mod' n p)

-- the first comparison that is no tie decides
then_assoc : (o p q : Ordering) → then o (then p q) ≡ then (then o p) q
then_assoc Ordering.lt p q = refl
then_assoc Ordering.eq p q = refl
then_assoc Ordering.gt p q = refl

-- starts of one length decide, and where they are equal what follows them
pub compare_append : (p q a b : List ℕ) → length p ≡ length q → compare_bytes (p ++ a) (q ++ b) ≡ then (compare_bytes p q) (compare_bytes a b)
unfolding compare_lists
compare_append [] [] a b l = refl
compare_append [] (y ∷ q) a b l = absurd (omega arith)
compare_append (x ∷ p) [] a b l = absurd (omega arith)
compare_append (x ∷ p) (y ∷ q) a b l = rw (compare_append p q a b (omega arith)) (then_assoc (compare x y) (compare_bytes p q) (compare_bytes a b))

-- a common start does not matter
pub compare_common : (p a b : List ℕ) → compare_bytes (p ++ a) (p ++ b) ≡ compare_bytes a b
compare_common p a b = compare_append p p a b refl ∙ rw (bytes_lawful.self p)

-- strings with no 0 that end in a 0 compare by themselves first
pub compare_ended : (l m a b : List ℕ) → all (leb 1) l ≡ true → all (leb 1) m ≡ true
    → compare_bytes (l ++ (0 ∷ a)) (m ++ (0 ∷ b)) ≡ then (compare_bytes l m) (compare_bytes a b)
unfolding compare_lists all
compare_ended [] [] a b h k = refl
compare_ended [] (y ∷ m) a b h k = rw (number_is_less (leb-true 1 y (search both)))
compare_ended (x ∷ l) [] a b h k = rw (number_is_greater (leb-true 1 x (search both)))
compare_ended (x ∷ l) (y ∷ m) a b h k =
    rw (compare_ended l m a b (search both) (search both)) (then_assoc (compare x y) (compare_bytes l m) (compare_bytes a b))

-- ---- the first 0

-- bytes that are not 0 are passed over
pub zero_at-passed : (l t : List ℕ) → all (leb 1) l ≡ true → zero_at (l ++ t) ≡ length l + zero_at t
unfolding zero_at all
zero_at-passed [] t h = omega arith
zero_at-passed (zero ∷ l) t h = let no : 1 ≤ 0 = leb-true 1 0 (search both) in absurd (omega arith)
zero_at-passed (suc b ∷ l) t h = omega (arith, zero_at-passed l t (search both))

pub zero_at-ended : (l t : List ℕ) → all (leb 1) l ≡ true → zero_at (l ++ (0 ∷ t)) ≡ length l
unfolding zero_at
zero_at-ended l t h = omega (arith, zero_at-passed l (0 ∷ t) h)

pub zero_at_le : (s : List ℕ) → zero_at s ≤ length s
unfolding zero_at
zero_at_le [] = omega arith
zero_at_le (zero ∷ s) = omega arith
zero_at_le (suc b ∷ s) = omega (arith, zero_at_le s)

pub zero_at-zero : (s : List ℕ) → zero_at s < length s → get_or s (zero_at s) 0 ≡ 0
unfolding zero_at
zero_at-zero [] h = refl
zero_at-zero (zero ∷ s) h = refl
zero_at-zero (suc b ∷ s) h = zero_at-zero s (omega arith)

-- no 0 stands before the first
pub nonzero-before : (s : List ℕ) → all (leb 1) (take (zero_at s) s) ≡ true
unfolding zero_at all
nonzero-before [] = refl
nonzero-before (zero ∷ s) = refl
nonzero-before (suc b ∷ s) = rw (le-leb 1 (suc b) (omega arith)) (nonzero-before s)

-- ---- a list that begins with another

-- a start of two parts
pub starts-append : (a b s : List ℕ) → starts_with (a ++ b) s ≡ (starts_with a s && starts_with b (drop (length a) s))
unfolding starts_with
starts-append [] b s = refl
starts-append (x ∷ a) b [] = refl
starts-append (x ∷ a) b (y ∷ s) = rw (starts-append a b s) (sym (and_assoc (eqb y x) (starts_with a s) (starts_with b (drop (length a) s))))

pub starts-itself : (a t : List ℕ) → starts_with a (a ++ t) ≡ true
unfolding starts_with
starts-itself [] t = refl
starts-itself (x ∷ a) t = rw (eq-eqb x x refl) (starts-itself a t)

-- a common start does not matter
pub starts_common : (p a b : List ℕ) → starts_with (p ++ a) (p ++ b) ≡ starts_with a b
unfolding starts_with
starts_common [] a b = refl
starts_common (x ∷ p) a b = rw (eq-eqb x x refl) (starts_common p a b)

pub starts-split : (a s : List ℕ) → starts_with a s ≡ true → a ++ drop (length a) s ≡ s
unfolding starts_with
starts-split [] s h = refl
starts-split (x ∷ a) [] h = absurd (false≢true h)
starts-split (x ∷ a) (y ∷ s) h =
    let e : y ≡ x = eqb-true y x (search both) in
    rw (starts-split a s (search both), e)
