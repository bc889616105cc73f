-- The place of a dot among ascending ones, found by halving; and that the dot is among them if it stands at its place. Assumes nothing.
use mathlib.Core.Path.{◌≡◌, refl, sym, ap, ◌∙◌}
use mathlib.Core.Bool.{Bool, true, false, ◌||◌, cond}
use mathlib.Core.List.Memᴰ
use mathlib.Core.List.{List, [], ◌∷◌, map}
use Prim.Native.Nat.{ℕ, zero, suc, ◌*◌, ◌/◌, ◌≤◌, ◌<◌, Ordering}
use native.Mathlib.Omega.{arith}
use lib.Dec.{compare_is_eq}
use lib.ListN.{length, take, drop, get_or, length-drop}
use lib.Seq.{drop_at}
use Rattle.std.proofs.Common.{Option, None, Some}
use Rattle.std.specs.Option.{MatchOption}
use Rattle.std.specs.Option.{option_eq}
use Rattle.std.specs.List.Sorted.{IsPartitionedBy, IsPartitionPoint}
use Rattle.std.specs.Simd.{first_chunks}
use Rattle.wire.specs.Lists.{◌∈◌, is_lt, member, Less, Ascending}
use Rattle.wire.proofs.Tests.{untrue, pass}
use Rattle.wire.proofs.Lists.{lt_is, irreflexive, member-sound}
use Rattle.dots.specs.declared.Dot.{Dot}
use Rattle.dots.specs.Dots.{compare_dots, ascending_dots}
use Rattle.dots.specs.Wire.{dot_at, dots_at, dots_of, place_of, dot_size}
use Rattle.dots.proofs.Orders.{dots}
use Rattle.dots.specs.contracts.DotPartialEq.TheImpl.{eq-value}
use Rattle.dots.proofs.Rules.{same-is, ascending_up}
use Rattle.dots.proofs.Loops.{dot-take, dots-drop, length-dots_at, left}
use Rattle.contexts.proofs.Places.{dots-front, dots-rest, dots-around, above_not}

-- ---- the place of a dot, found by halving

-- nine bytes each are the dots
chunks-dots : (n : ℕ) (s : List ℕ) → n * dot_size ≤ length s → map (λ (b : List ℕ). dot_at b 0) (first_chunks dot_size n s) ≡ dots_at n s 0
unfolding dots_at
chunks-dots zero s h = refl
chunks-dots (suc n) s h = rw (dot-take s dot_size 0 (omega arith), chunks-dots n (drop dot_size s) (rw length-drop (omega arith)), dots-drop n s dot_size 0)

chunks-are : (s : List ℕ) → map (λ (b : List ℕ). dot_at b 0) (first_chunks dot_size (length s / dot_size) s) ≡ dots_of s
unfolding dots_of
chunks-are s = chunks-dots (length s / dot_size) s (omega arith)

-- whether the dot of nine bytes comes before one
abbrev pub comes_before : Dot → List ℕ → Bool
comes_before dot b = is_lt (compare_dots (dot_at b 0) dot)

module _ (dot : Dot) where
  at-member : (xs : List (List ℕ)) (j : ℕ) (d : List ℕ) → j < length xs → dot_at (get_or xs j d) 0 ∈ map (λ (b : List ℕ). dot_at b 0) xs
  at-member [] j d h = absurd (omega arith)
  at-member (x ∷ xs) zero d h = Memᴰ.head refl
  at-member (x ∷ xs) (suc j) d h = Memᴰ.tail (at-member xs j d (omega arith))

  -- among ascending dots none that comes before it stands after one that does not
  split_once : (xs : List (List ℕ)) → Ascending compare_dots (map (λ (b : List ℕ). dot_at b 0) xs) → IsPartitionedBy (comes_before dot) xs
  split_once [] up i j d l h t = absurd (omega arith)
  split_once (x ∷ xs) up zero zero d l h t = t
  split_once (x ∷ xs) up zero (suc j) d l h t =
      let first : Less compare_dots (dot_at x 0) (dot_at (get_or xs j d) 0) = up.0 (dot_at (get_or xs j d) 0) (at-member xs j d (omega arith)) in
      ap is_lt (dots.chain (dot_at x 0) (dot_at (get_or xs j d) 0) dot first (lt_is (compare_dots (dot_at (get_or xs j d) 0) dot) t))
  split_once (x ∷ xs) up (suc i) zero d l h t = absurd (omega arith)
  split_once (x ∷ xs) up (suc i) (suc j) d l h t = split_once xs up.1 i j d (omega arith) (omega arith) t

  point-place : (xs : List (List ℕ)) (r : ℕ) → r ≤ length xs → IsPartitionPoint (λ b. comes_before dot b ≡ true) (λ b. comes_before dot b ≡ false) xs r
      → r ≡ place_of dot (map (λ (b : List ℕ). dot_at b 0) xs)
  unfolding place_of
  point-place [] r h p = omega arith
  point-place (x ∷ xs) zero h p = rw (p.1 0 x (omega arith) (omega arith))
  point-place (x ∷ xs) (suc r) h p =
      rw (p.0 0 x (omega arith) (omega arith))
      (ap suc (point-place xs r (omega arith) ((λ k d l m. p.0 (suc k) d (omega arith) (omega arith)), (λ k d l m. p.1 (suc k) d (omega arith) (omega arith)))))

  pub searched : (s : List ℕ) → ascending_dots (dots_of s) ≡ true → (xs : List (List ℕ)) → xs ≡ first_chunks dot_size (length s / dot_size) s → (r : ℕ) → r ≤ length xs
      → (IsPartitionedBy (comes_before dot) xs → IsPartitionPoint (λ b. comes_before dot b ≡ true) (λ b. comes_before dot b ≡ false) xs r)
      → r ≡ place_of dot (dots_of s)
  searched s up xs e r h point =
      let same : map (λ (b : List ℕ). dot_at b 0) xs ≡ dots_of s = rw e (chunks-are s) in
      let ascend : Ascending compare_dots (map (λ (b : List ℕ). dot_at b 0) xs) = rw same (ascending_up (dots_of s) up) in
      point-place xs r h (point (split_once xs ascend)) ∙ ap (place_of dot) same

-- ---- the dot at a dot's place

-- whether the first of some dots is d
abbrev pub is_first : Dot → List Dot → Bool
is_first d [] = false
is_first d (x ∷ xs) = compare_is_eq (compare_dots d x)

pub member-placed : (d : Dot) (ds : List Dot) → Ascending compare_dots ds → member compare_dots d ds ≡ is_first d (drop (place_of d ds) ds)
unfolding member place_of
member-placed d [] up = refl
member-placed d (x ∷ xs) up = step (compare_dots d x) refl (member-placed d xs up.1)
  where
    later : Less compare_dots d x → member compare_dots d xs ≡ false
    later h = untrue (member compare_dots d xs) (λ t. irreflexive compare_dots dots d (dots.chain d x d h (up.0 d (member-sound compare_dots dots xs (pass t)))))

    step : (o : Ordering) → compare_dots d x ≡ o → member compare_dots d xs ≡ is_first d (drop (place_of d xs) xs)
        → (compare_is_eq o || member compare_dots d xs) ≡ is_first d (drop (cond (is_lt (compare_dots x d)) (suc (place_of d xs)) 0) (x ∷ xs))
    step Ordering.lt e below = rw (later e, above_not d x e, e)
    step Ordering.eq e below = let q : x ≡ d = sym (dots.tie d x e) in rw (q, dots.self d, dots.self d)
    step Ordering.gt e below = rw (dots.turn d x e) below

-- what an iterator gives first
first_tells : (d : Dot) (ds more : List Dot) (r : Option Dot) → MatchOption r ((ds ≡ []) × (more ≡ [])) (λ x. ds ≡ x ∷ more) → option_eq eq-value.it (Some d) r ≡ is_first d ds
first_tells d ds more None steps = rw steps.0
first_tells d ds more (Some x) steps = same-is d x ∙ sym (ap (is_first d) steps)

module _ (s : List ℕ) (dot : Dot) (up : ascending_dots (dots_of s) ≡ true) (p : ℕ) (placed : p ≡ place_of dot (dots_of s)) (low : p * dot_size ≤ length s) where
  at_place : member compare_dots dot (dots_of s) ≡ is_first dot (left s p)
  at_place =
      let front : length (dots_of (take (p * dot_size) s)) ≡ p = ap length (dots-front s p low) ∙ length-dots_at p s 0 in
      let rest : drop p (dots_of s) ≡ left s p =
      ap (drop p) (dots-around s p low) ∙ drop_at (dots_of (take (p * dot_size) s)) (dots_of (drop (p * dot_size) s)) p front ∙ dots-rest s p low in
      member-placed dot (dots_of s) (ascending_up (dots_of s) up) ∙ ap (λ (q : ℕ). is_first dot (drop q (dots_of s))) (sym placed) ∙ ap (is_first dot) rest

  -- the first of the dots from there on tells
  pub holds_first : (t : List ℕ) → t ≡ drop (p * dot_size) s → (more : List Dot) (r : Option Dot) → MatchOption r ((dots_of t ≡ []) × (more ≡ [])) (λ x. dots_of t ≡ x ∷ more)
      → option_eq eq-value.it (Some dot) r ≡ member compare_dots dot (dots_of s)
  holds_first t e more r steps = first_tells dot (dots_of t) more r steps ∙ ap (is_first dot) (ap dots_of e ∙ dots-rest s p low) ∙ sym at_place
