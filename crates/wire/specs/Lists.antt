-- Lists used as sets: membership, tests over a list, and lists kept strictly ascending by a comparison.
use Rattle.std.specs.Prelude.{◌≡◌, ◌↔◌, Bool, true, false, ◌&&◌, ◌||◌}
use mathlib.Core.List.{List, [], ◌∷◌, Memᴰ}
use Prim.Native.Nat.{Ordering}
use Rattle.std.proofs.Math.Dec.{compare_is_eq}

infix 50 ◌∈◌
abbrev pub ◌∈◌ : {A : Type 0} → A → List A → Type 0
x ∈ xs = Memᴰ x xs

-- the same elements, whatever their order and number
abbrev pub SameMembers : {A : Type 0} → List A → List A → Type 0
SameMembers {A} xs ys = (x : A) → (x ∈ xs) ↔ (x ∈ ys)

abbrev pub cons_if : {A : Type 0} → Bool → A → List A → List A
cons_if true x xs = x ∷ xs
cons_if false x xs = xs

-- the elements that pass a test
unfoldable pub keep : {A : Type 0} → (A → Bool) → List A → List A
keep p [] = []
keep p (x ∷ xs) = cons_if (p x) x (keep p xs)

-- some element passes a test
unfoldable pub any : {A : Type 0} → (A → Bool) → List A → Bool
any p [] = false
any p (x ∷ xs) = p x || any p xs

-- every element passes a test
unfoldable pub all : {A : Type 0} → (A → Bool) → List A → Bool
all p [] = true
all p (x ∷ xs) = p x && all p xs

-- the first comparison, and where it is a tie the second
abbrev pub then : Ordering → Ordering → Ordering
then Ordering.lt o = Ordering.lt
then Ordering.eq o = o
then Ordering.gt o = Ordering.gt

abbrev pub is_lt : Ordering → Bool
is_lt Ordering.lt = true
is_lt Ordering.eq = false
is_lt Ordering.gt = false

-- x before, at or after the head of y ∷ ys, with x put into the tail
abbrev pub place : {A : Type 0} → Ordering → A → A → List A → List A → List A
place Ordering.lt x y ys further = x ∷ y ∷ ys
place Ordering.eq x y ys further = y ∷ ys
place Ordering.gt x y ys further = y ∷ further

module _ {A : Type 0} (compare : A → A → Ordering) where
  -- lexicographic order of lists: by the first element that differs; a proper prefix comes first
  unfoldable pub compare_lists : List A → List A → Ordering
  compare_lists [] [] = Ordering.eq
  compare_lists [] (y ∷ ys) = Ordering.lt
  compare_lists (x ∷ xs) [] = Ordering.gt
  compare_lists (x ∷ xs) (y ∷ ys) = then (compare x y) (compare_lists xs ys)

  unfoldable pub member : A → List A → Bool
  member x [] = false
  member x (y ∷ ys) = compare_is_eq (compare x y) || member x ys

  abbrev pub Less : A → A → Type 0
  Less x y = compare x y ≡ Ordering.lt

  -- strictly ascending
  abbrev pub Ascending : List A → Type 0
  Ascending [] = Unit {0}
  Ascending (x ∷ xs) = ((y : A) → y ∈ xs → Less x y) × Ascending xs

  -- the same as a test, of neighbours: x before the list, and the list
  unfoldable pub ascends_from : A → List A → Bool
  ascends_from x [] = true
  ascends_from x (y ∷ ys) = is_lt (compare x y) && ascends_from y ys

  unfoldable pub ascends : List A → Bool
  ascends [] = true
  ascends (x ∷ xs) = ascends_from x xs

  -- x put in its place in an ascending list, once
  unfoldable pub insert : A → List A → List A
  insert x [] = x ∷ []
  insert x (y ∷ ys) = place (compare x y) x y ys (insert x ys)

  unfoldable pub insert_all : List A → List A → List A
  insert_all [] ys = ys
  insert_all (x ∷ xs) ys = insert_all xs (insert x ys)

  -- ascending, each element once
  abbrev pub sort : List A → List A
  sort xs = insert_all xs []
