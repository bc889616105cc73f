-- The first words decide, or the bytes in them are the same.
use Rattle.std.proofs.Common.{◌≡◌, ℕ, ◌≤◌, min, ltb, List, length, get_or, take, refl, w8, Fits, rules}
use Rattle.wire.specs.Lists.{is_lt}
use Rattle.search.proofs.CommonStart.{words-decide, longer-start}
use Rattle.wire.specs.Bytes.{compare_bytes, number_at}
use Rattle.search.proofs.lower.Goals as goal

-- what the first words say
module _ (a b : List ℕ) (p : (k : ℕ) → Fits w8 (get_or a k 0)) (q : (k : ℕ) → Fits w8 (get_or b k 0)) (n x y : ℕ) (m : n ≡ min (length a) (length b)) (h : 8 ≤ n)
    (e : x ≡ number_at 8 a 0) (f : y ≡ number_at 8 b 0) where
  differs : (x ≡ y → ⊥) → ltb x y ≡ is_lt (compare_bytes a b)
  differs = words-decide a b 0 refl p q n x y m h e f

  same : x ≡ y → take 8 a ≡ take 8 b
  same = longer-start a b 0 refl p q n x y m h e f

pub returns-then-x-y : goal.returns-then-x-y
returns-then-x-y c = search (rules, differs)

pub lower_words-requires : goal.lower_words-requires
lower_words-requires c = let args = c.args in
    (search rules, same args.a.now args.b.now c.type_inv.a c.type_inv.b _ _ _ c.min-n.ensures c.if-n-lt8.false c.number_at-x.ensures c.number_at-y.ensures c.if-x-y.false)
