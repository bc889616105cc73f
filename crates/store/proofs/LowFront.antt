-- The front part of keys that comes before all keys that begin alike, and what one pass over the keys tells of it. Assumes nothing.
use Rattle.std.proofs.Common.{◌≡◌, ℕ, ◌+◌, ◌-◌, ◌<◌, Bool, true, false, cond, Option, None, Some, List, [], ◌∷◌, ◌++◌, length, take, drop, sym, refl, ap, ◌∙◌, inl, inr, true≢false, zero-add, arith}
use Prim.Native.Nat.{compare, Ordering}
use mathlib.Core.Bool.{false≢true}
use Rattle.wire.specs.Lists.{then, is_lt, compare_lists}
use Rattle.wire.specs.Bytes.{Bytes, compare_bytes}
use Rattle.wire.proofs.Lists.{lt_is}
use Rattle.wire.proofs.Orders.{bytes_lawful}
use Rattle.wire.proofs.Parts.{rest_part, size-part}
use Rattle.dots.specs.Names.{Name, Label}
use Rattle.keys.specs.Entry.{prefix}
use Rattle.store.specs.declared.KeyTail.{KeyTail}
use Rattle.store.specs.Cut.{key_length}
use Rattle.store.specs.Place.{lower_than, Passed, LabelPassed, Judged}
use Rattle.store.specs.Front.{tail_of}
use Rattle.store.specs.Pass.{BeforeAll, Passing, LowAfter}
use Rattle.store.proofs.Walk.{end-within, every_later, while_passed}

-- no bytes
pub passed_none : (n : ℕ) (start keys : Bytes) → Passed n start keys 0
passed_none n start keys = record { within = omega arith; placed = λ tail. sym (zero-add _); rest = λ test h. h }

-- one key more
module _ (n : ℕ) (start keys : Bytes) (at len : ℕ) (more : at < length keys) (size : len ≡ key_length n (drop at keys)) where
  read : len ≡ key_length n (take (length keys - at) (drop at keys))
  read = rw rest_part size

  pub passed_on : Passed n start keys at → ((tail : Bytes) → lower_than (start ++ tail) (take len (drop at keys)) ≡ true) → Passed n start keys (at + len)
  passed_on p lower = record {
    within = end-within n keys at len more read;
    placed = λ tail. while_passed n keys at len more read (lower_than (start ++ tail)) true (sym (rw size-part (lower tail))) (p.placed tail) refl;
    rest = λ test h. every_later n keys at len more read test (p.rest test h);
  }

-- ---- by the last key

-- bytes that come before a label come before all that begin with it
then-below : (o p q : Ordering) → (is_lt p ≡ true → is_lt q ≡ true) → is_lt (then o p) ≡ true → is_lt (then o q) ≡ true
then-below Ordering.lt p q on h = refl
then-below Ordering.eq p q on h = on h
then-below Ordering.gt p q on h = h

below-longer : (s l tail : Bytes) → is_lt (compare_bytes s l) ≡ true → is_lt (compare_bytes s (l ++ tail)) ≡ true
unfolding compare_lists
below-longer [] [] tail e = absurd (true≢false (sym e))
below-longer [] (c ∷ l) tail e = refl
below-longer (b ∷ s) [] tail e = absurd (true≢false (sym e))
below-longer (b ∷ s) (c ∷ l) tail e = then-below (compare b c) _ _ (below-longer s l tail) e

-- one key more, with the bytes t from its label on, which come after those of the last
pub next-tells : (name : Name) (label : Label) (keys s t : Bytes) (at len : ℕ) → at < length keys → len ≡ key_length (length name) (drop at keys) → is_lt (compare_bytes s t) ≡ true
    → ((tail : Bytes) → is_lt (compare_bytes t (label ++ tail)) ≡ true → lower_than ((prefix name ++ label) ++ tail) (take len (drop at keys)) ≡ true)
    → (BeforeAll s label → LabelPassed name label keys at) → BeforeAll t label → LabelPassed name label keys (at + len)
next-tells name label keys s t at len more size ordered whole tells below =
    let last : BeforeAll s label = λ tail. ap is_lt (bytes_lawful.chain s t (label ++ tail) (lt_is (compare_bytes s t) ordered) (lt_is (compare_bytes t (label ++ tail)) (below tail))) in
    passed_on (length name) (prefix name ++ label) keys at len more size (tells last) (λ tail. whole tail (below tail))

-- the new reach
pub passed-next : (name : Name) (words : List ℕ) (label : Label) (keys : Bytes) (last : KeyTail) (low r : ℕ) → LowAfter keys label last low r → Passing name words keys last
    → LabelPassed name label keys low → LabelPassed name label keys r
passed-next name words label keys last low r (inl e) p passed = rw e passed
passed-next name words label keys last low r (inr h) p passed = rw h.0 (p.tells label (λ tail. below-longer (tail_of keys last) label tail h.1))

-- ---- what the pass tells

module _ (n : ℕ) (start keys : Bytes) where
  pub judged-bad : (ok : Bool) → false ≡ ok → Judged ok n start keys None
  judged-bad ok e = record { found = e; passed = λ t. absurd (false≢true (e ∙ t)) }

  pub judged_good : (ok : Bool) (k : ℕ) → true ≡ ok → Passed n start keys k → Judged ok n start keys (Some k)
  judged_good ok k e p = record { found = e; passed = λ t. p }

  pub judged-rest : (ok : Bool) (k : ℕ) (r : Option ℕ) → r ≡ cond ok (Some k) None → Passed n start keys k → Judged ok n start keys r
  judged-rest true k r e p = rw e (judged_good true k refl p)
  judged-rest false k r e p = rw e (judged-bad false refl)
