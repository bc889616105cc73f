use Rattle.std.proofs.Common.{◌≡◌, ℕ, Bool, true, false, cond, None, Some, arith}
use Rattle.store.proofs.NextKey.{passing-ended}
use Rattle.store.proofs.Pass.judge_rest.Goals as goal

broken : (ok : Bool) (low : ℕ) → ok ≡ false → None ≡ cond ok (Some low) None
broken ok low e = rw e

kept : (ok : Bool) (low : ℕ) → ok ≡ true → Some low ≡ cond ok (Some low) None
kept ok low e = rw e

pub loop-last-init : goal.loop-last-init
loop-last-init c = c.requires

pub loop-last-smaller : goal.loop-last-smaller
loop-last-smaller c = let n = rw c.in_ok-last.was at c.any_key.ensures in omega arith

pub loop-last-preserved : goal.loop-last-preserved
loop-last-preserved c = (rw c.in_ok-last.was at c.any_key.ensures).0

pub returns : goal.returns
returns c = kept _ _ (passing-ended _ _ _ _ c.loop-last.invariant c.loop-last-test.false)
