-- Parts of lists, as loops over bytes meet them: a loop's `i + 1` and not `suc i`. Assumes nothing.
use mathlib.Core.Path.{◌≡◌, sym, ◌∙◌}
use mathlib.Core.List.{List, [], ◌∷◌, ◌++◌}
use Prim.Native.Nat.{ℕ, zero, suc, ◌+◌, ◌-◌, ◌≤◌, ◌<◌}
use native.Mathlib.Nat.{sub-zero, zero-sub, suc-sub-suc}
use native.Mathlib.Numerals.{add-one}
use native.Mathlib.Omega.{arith}
use lib.ListN.{length, take, drop, get_or, length-drop}
use lib.Seq.{take-suc, drop-cons, take_all, take-nil, take-add, drop-drop}

-- one element more of a list from its front, and one less of its rest
pub take_step : (s : List ℕ) (i : ℕ) → i < length s → take (i + 1) s ≡ take i s ++ (get_or s i 0 ∷ [])
take_step s i h = rw add-one (take-suc s i 0 h)

pub drop-step : (s : List ℕ) (i : ℕ) → i < length s → drop i s ≡ get_or s i 0 ∷ drop (i + 1) s
drop-step s i h = rw add-one (drop-cons s i 0 h)

-- a part that goes to the end, `&s[a..]`, is the rest of the list
pub rest_part : (s : List ℕ) (a : ℕ) → take (length s - a) (drop a s) ≡ drop a s
rest_part s a = take_all (length s - a) (drop a s) (rw length-drop (omega arith))

-- a part of k elements, `&s[a..a + k]`
pub size-part : (s : List ℕ) (a k : ℕ) → take (a + k - a) (drop a s) ≡ take k (drop a s)
size-part s a k = let e : a + k - a ≡ k = omega arith in rw e

-- the rest of a front is a part
pub drop-take : (a b : ℕ) (s : List ℕ) → drop a (take b s) ≡ take (b - a) (drop a s)
drop-take zero b s = rw sub-zero
drop-take (suc a) zero s = rw zero-sub
drop-take (suc a) (suc b) [] = sym (take-nil (suc b - suc a))
drop-take (suc a) (suc b) (x ∷ s) = rw suc-sub-suc (drop-take a b s)

-- the first element of a part, and the part after it
pub part_step : (s : List ℕ) (a k : ℕ) → a < length s → take (suc k) (drop a s) ≡ get_or s a 0 ∷ take k (drop (a + 1) s)
part_step s a k h = rw (drop-step s a h)

-- the element of a part at an offset, and the part after it
pub part-offset : (s : List ℕ) (a j k : ℕ) → a + j < length s → take (suc k) (drop (a + j) s) ≡ get_or s (a + j) 0 ∷ take k (drop (a + suc j) s)
part-offset s a j k h = let next : a + j + 1 ≡ a + suc j = omega arith in part_step s (a + j) k h ∙ rw next

-- a part of four elements
pub part-four : (s : List ℕ) (a : ℕ) → a + 4 ≤ length s → take 4 (drop a s) ≡ get_or s a 0 ∷ get_or s (a + 1) 0 ∷ get_or s (a + 2) 0 ∷ get_or s (a + 3) 0 ∷ []
part-four s a h = rw (part_step s a 3 (omega arith), part-offset s a 1 2 (omega arith), part-offset s a 2 1 (omega arith), part-offset s a 3 0 (omega arith))

-- a part is two, one after the other
pub part-add : (s : List ℕ) (a j k : ℕ) → take (j + k) (drop a s) ≡ take j (drop a s) ++ take k (drop (a + j) s)
part-add s a j k = take-add j k (drop a s) ∙ rw drop-drop
