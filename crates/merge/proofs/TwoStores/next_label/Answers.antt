-- The key that the step hands back is that of the label that comes next; at the end of both it is empty.
use mathlib.Core.Logic.{◌⊎◌}
use mathlib.Core.Path.{◌≡◌, refl}
use Prim.Native.Nat.{ℕ}
use native.Mathlib.Omega.{arith}
use lib.ListN.{length}
use Rattle.std.specs.Borrow.{Bor}
use Rattle.wire.specs.Bytes.{Bytes}
use Rattle.store.specs.Cut.{entries_in}
use Rattle.merge.specs.Step.{Handed}
use Rattle.merge.specs.Sides.{SameSet}
use Rattle.merge.proofs.Heads.{Head, BothEnd, handed-bytes}
use Rattle.merge.proofs.NextLabels.{next-key, ends, heads, none-next, key-long, first-start, second-start, one_next}
use Rattle.merge.proofs.TwoStores.next_label.Goals as goal

-- what was handed back
module _ (n : ℕ) (a b key : Bor Bytes) (set : SameSet n a.now b.now) (h : Handed n a b key) where
  handed : BothEnd (entries_in n a.now) (entries_in n b.now) key.now ⊎ Head set.first.name (entries_in n a.now) (entries_in n b.now) key.now
  handed = next-key n a.now b.now set key.now (handed-bytes n a b key h)

  at_end : length key.now ≡ 0 → BothEnd (entries_in n a.now) (entries_in n b.now) key.now
  at_end z = ends n a.now b.now set key.now handed z

  head : (length key.now ≡ 0 → ⊥) → Head set.first.name (entries_in n a.now) (entries_in n b.now) key.now
  head z = heads n a.now b.now set key.now handed z

pub returns-then-key-eq0 : goal.returns-then-key-eq0
returns-then-key-eq0 c = none-next c.args.self.n c.args.self.a.now c.args.self.b.now c.requires c.lower_key-key.result.now (at_end _ _ _ _ c.requires c.lower_key-key.ensures c.if-key-eq0.true)

pub overflow_sub-closed-2 : goal.overflow_sub-closed-2
overflow_sub-closed-2 c = omega (arith, key-long _ _ _ c.requires _ (head _ _ _ _ c.requires c.lower_key-key.ensures c.if-key-eq0.false))

pub overflow_sub-result : goal.overflow_sub-result
overflow_sub-result c = omega (arith, key-long _ _ _ c.requires _ (head _ _ _ _ c.requires c.lower_key-key.ensures c.if-key-eq0.false))

pub label_run-requires : goal.label_run-requires
label_run-requires c = (c.args.self.short, first-start _ _ _ c.requires _ (head _ _ _ _ c.requires c.lower_key-key.ensures c.if-key-eq0.false))

pub label_run-requires-2 : goal.label_run-requires-2
label_run-requires-2 c = (c.args.self.short, second-start _ _ _ c.requires _ (head _ _ _ _ c.requires c.lower_key-key.ensures c.if-key-eq0.false))

pub returns : goal.returns
returns c = one_next c.args.self.n c.args.self.a.now c.args.self.b.now c.requires _ (head _ _ _ _ c.requires c.lower_key-key.ensures c.if-key-eq0.false) _ refl
    c.label_run.ensures.0 c.label_run.ensures.1 c.label_run-2.ensures.0 c.label_run-2.ensures.1
