-- What the rules of names, dots and contexts say. Assumes nothing.
use mathlib.Core.Path.{◌≡◌, refl, ◌∙◌}
use mathlib.Core.Logic.{◌⊎◌, inl, inr}
use mathlib.Core.Bool.{Bool, true, false, ◌&&◌, ◌||◌}
use mathlib.Core.List.{List, [], ◌∷◌}
use Prim.Native.Nat.{ℕ, zero, suc, ◌≤◌, Ordering}
use native.Mathlib.Omega.{arith}
use lib.Dec.{compare_is_eq, leb, ltb, eqb, eqb-suc-suc}
use lib.ListN.{length}
use borrow.Author.Tests.{leb-true, le-leb, ne_eqb}
use Rattle.wire.specs.Lists.{then, is_lt, all, ascends_from, ascends, Ascending}
use Rattle.std.specs.Ordering.{partial_lt}
use Rattle.std.proofs.Common.{rules}
use Rattle.dots.specs.contracts.DotPartialOrd.TheImpl.{partial_cmp-value}
use Rattle.dots.specs.contracts.DotPartialEq.TheImpl.{eq-value}
use Rattle.wire.specs.Bytes.{zero_at, between}
use Rattle.wire.proofs.Tests.{decided, both, both_left, both_right}
use Rattle.wire.proofs.Lists.{ascends-ascending, ascending-ascends}
use Rattle.wire.proofs.Orders.{is_lt_number, number_less}
use Rattle.dots.specs.declared.Dot.{Dot}
use Rattle.dots.specs.Names.{Label, text_ok, label_most, label_ok, print_low, prints, label_prints}
use Rattle.dots.specs.Dots.{zero_dot, actor_most, max_counter, compare_actors, compare_counters, compare_dots, dot_ok, ascending_dots}
use Rattle.dots.proofs.Orders.{dots}

-- ---- names

-- no byte is 0: the first 0 is past the end
pub nonzero : (s : List ℕ) → eqb (zero_at s) (length s) ≡ all (leb 1) s
unfolding zero_at all
nonzero [] = refl
nonzero (zero ∷ s) = ne_eqb 0 (suc (length s)) (λ e. omega arith)
nonzero (suc b ∷ s) = eqb-suc-suc (zero_at s) (length s) ∙ nonzero s ∙ rw (le-leb 1 (suc b) (omega arith))

-- what prints is not 0
prints-nonzero : (s : List ℕ) → all prints s ≡ true → all (leb 1) s ≡ true
unfolding all
prints-nonzero [] t = refl
prints-nonzero (b ∷ s) t =
    let low : leb print_low b ≡ true = search both in
    rw (le-leb 1 b (omega (arith, leb-true print_low b low)), prints-nonzero s (both_right (prints b) (all prints s) t))

-- a label that prints keeps the rule of labels
pub prints-ok : (label : Label) → label_prints label ≡ true → label_ok label ≡ true
unfolding label_prints
prints-ok label t = both_left (label_ok label) (all prints label) t

-- its length and its bytes in one pass decide
pub prints-is : (label : Label) → label_prints label ≡ (between 1 label_most (length label) && all prints label)
unfolding label_prints text_ok
prints-is label = by_bytes (between 1 label_most (length label)) (all (leb 1) label) (all prints label) (prints-nonzero label)
  where
    by_bytes : (size nonzero print : Bool) → (print ≡ true → nonzero ≡ true) → ((size && nonzero) && print) ≡ (size && print)
    by_bytes true nonzero true h = rw (h refl)
    by_bytes true true false h = refl
    by_bytes true false false h = refl
    by_bytes false nonzero print h = refl

-- ---- dots

pub record Valid (d : Dot) : Type 0 where
  pub actor-low : 1 ≤ d.actor.number
  pub actor_high : d.actor.number ≤ actor_most
  pub counter-low : 1 ≤ d.counter.number
  pub counter_high : d.counter.number ≤ max_counter

pub valid : (d : Dot) → dot_ok d ≡ true → Valid d
unfolding dot_ok
valid d t = record {
  actor-low = leb-true _ _ (search both);
  actor_high = leb-true _ _ (search both);
  counter-low = leb-true _ _ (search both);
  counter_high = leb-true _ _ (search both);
}

-- the order and equality, by actors and counters
pub lower-test : (d e : Dot) → (ltb d.actor.number e.actor.number || (eqb d.actor.number e.actor.number && ltb d.counter.number e.counter.number)) ≡ is_lt (compare_dots d e)
lower-test d e = rw (← is_lt_number d.actor.number e.actor.number, ← is_lt_number d.counter.number e.counter.number) (step (compare_actors d.actor e.actor))
  where
    step : (o : Ordering) → (is_lt o || (compare_is_eq o && is_lt (compare_counters d.counter e.counter))) ≡ is_lt (then o (compare_counters d.counter e.counter))
    step Ordering.lt = refl
    step Ordering.eq = refl
    step Ordering.gt = refl

pub same_test : (d e : Dot) → (eqb d.actor.number e.actor.number && eqb d.counter.number e.counter.number) ≡ compare_is_eq (compare_dots d e)
same_test d e = step (compare_actors d.actor e.actor)
  where
    step : (o : Ordering) → (compare_is_eq o && compare_is_eq (compare_counters d.counter e.counter)) ≡ compare_is_eq (then o (compare_counters d.counter e.counter))
    step Ordering.lt = refl
    step Ordering.eq = refl
    step Ordering.gt = refl

-- `<` of dots in the code is `compare_dots`, and so is `==`
pub lower-is : (d e : Dot) → partial_lt partial_cmp-value.it d e ≡ is_lt (compare_dots d e)
lower-is d e = search rules

pub same-is : (d e : Dot) → eq-value.it d e ≡ compare_is_eq (compare_dots d e)
same-is d e = search rules

-- ---- ascending dots

pub ascending-valid : (ds : List Dot) → ascending_dots ds ≡ true → all dot_ok ds ≡ true
unfolding ascending_dots
ascending-valid ds t = both_left (all dot_ok ds) (ascends compare_dots ds) t

pub ascending_up : (ds : List Dot) → ascending_dots ds ≡ true → Ascending compare_dots ds
unfolding ascending_dots
ascending_up ds t = ascends-ascending compare_dots dots ds (both_right (all dot_ok ds) (ascends compare_dots ds) t)

pub up_ascending : (ds : List Dot) → all dot_ok ds ≡ true → Ascending compare_dots ds → ascending_dots ds ≡ true
unfolding ascending_dots
up_ascending ds ok up = rw (ok, ascending-ascends compare_dots dots ds up)

-- the same, dot by dot, after one
unfoldable pub ascend_after : Dot → List Dot → Bool
ascend_after before [] = true
ascend_after before (d ∷ ds) = dot_ok d && (is_lt (compare_dots before d) && ascend_after d ds)

after_is : (x : Dot) (ds : List Dot) → (all dot_ok ds && ascends_from compare_dots x ds) ≡ ascend_after x ds
unfolding all ascends_from ascend_after
after_is x [] = refl
after_is x (d ∷ ds) = swap (dot_ok d) (all dot_ok ds) (is_lt (compare_dots x d)) (ascends_from compare_dots d ds) (ascend_after d ds) (after_is d ds)
  where
    swap : (a b c e f : Bool) → (b && e) ≡ f → ((a && b) && (c && e)) ≡ (a && (c && f))
    swap true b true e f h = h
    swap true true false e f h = refl
    swap true false false e f h = refl
    swap false b c e f h = refl

-- every valid dot is above the zero dot
above_zero : (d : Dot) → dot_ok d ≡ true → is_lt (compare_dots zero_dot d) ≡ true
above_zero d t = let v = valid d t in let l = v.actor-low in rw (number_less 0 d.actor.number (omega arith))

pub ascending-is : (ds : List Dot) → ascending_dots ds ≡ ascend_after zero_dot ds
unfolding ascending_dots ascends all ascend_after
ascending-is [] = refl
ascending-is (d ∷ ds) = by_first (decided (dot_ok d))
  where
    by_first : (dot_ok d ≡ true) ⊎ (dot_ok d ≡ false) → ((dot_ok d && all dot_ok ds) && ascends_from compare_dots d ds) ≡ (dot_ok d && (is_lt (compare_dots zero_dot d) && ascend_after d ds))
    by_first (inl t) = rw (t, above_zero d t) (after_is d ds)
    by_first (inr f) = rw f
