use Rattle.std.proofs.Common.{◌≡◌, ℕ, ◌+◌, ◌-◌, ◌<◌, ◌≤◌, min, ltb, List, length, get_or, take, sym, ◌∙◌, arith, w8, Fits, rules, le-ltb, lt-ltb}
use native.Mathlib.Decide.{dec_lt}
use Rattle.wire.specs.Lists.{is_lt}
use Rattle.wire.specs.Bytes.{compare_bytes, number_at}
use Rattle.search.proofs.CommonStart.{words-decide, longer-start, shorter_start, length-decides}
use Rattle.search.proofs.lower_words.Goals as goal

-- the last word begins no later than i, where the bytes before it are still the same
module _ (a b : List ℕ) (p : (k : ℕ) → Fits w8 (get_or a k 0)) (q : (k : ℕ) → Fits w8 (get_or b k 0)) (n i x y : ℕ) (m : n ≡ min (length a) (length b)) (h : 8 ≤ n) (l : n < i + 8)
    (same : take i a ≡ take i b) (e : x ≡ number_at 8 a (n - 8)) (f : y ≡ number_at 8 b (n - 8)) where
  start : take (n - 8) a ≡ take (n - 8) b
  start = shorter_start a b i same (n - 8) (omega arith)

  last-decides : (x ≡ y → ⊥) → ltb x y ≡ is_lt (compare_bytes a b)
  last-decides = words-decide a b (n - 8) start p q n x y m (omega arith) e f

  -- a is the shorter one where b is longer than that
  shorter : ltb n (length b) ≡ ltb (length a) (length b)
  shorter = elim (dec_lt (length a) (length b)) [
    | yes h ↦ lt-ltb n (length b) (omega arith) ∙ sym (lt-ltb (length a) (length b) h)
    | no h ↦ le-ltb n (length b) (omega arith) ∙ sym (le-ltb (length a) (length b) (omega arith))
  ]

  ended : x ≡ y → ltb n (length b) ≡ is_lt (compare_bytes a b)
  ended d =
      let end : n - 8 + 8 ≡ n = omega arith in
      shorter ∙ length-decides a b n (rw end at (longer-start a b (n - 8) start p q n x y m (omega arith) e f d)) m

pub returns-then-x-y : goal.returns-then-x-y
returns-then-x-y c = search (rules, words-decide)

pub loop-i-preserved : goal.loop-i-preserved
loop-i-preserved c = (search rules, longer-start _ _ _ c.loop-i.invariant.1 c.type_inv.a c.type_inv.b _ _ _ c.requires.0.1 c.loop-i-test.true c.number_at-x.ensures c.number_at-y.ensures c.if-x-y.false)

pub returns-then-x-y-2 : goal.returns-then-x-y-2
returns-then-x-y-2 c = search (rules, last-decides)

pub returns : goal.returns
returns c = let left : c.args.n < c.loop-i.i + 8 = omega arith in
    ended _ _ c.type_inv.a c.type_inv.b _ _ _ _ c.requires.0.1 c.requires.0.0 left c.loop-i.invariant.1 c.number_at-x-2.ensures c.number_at-y-2.ensures c.if-x-y-2.false
