-- The largest counter is the largest word.
use mathlib.Core.Path.{◌≡◌}
use mathlib.Core.Bool.{◌&&◌, and-true}
use Prim.Native.Nat.{◌≤◌}
use lib.Dec.{leb}
use native.Mathlib.Omega.{arith}
use borrow.Author.Tests.{le-leb}
use Rattle.dots.specs.declared.Dot.{Dot}
use Rattle.dots.specs.Dots.{max_counter, dot_ok, actor_most}
use Rattle.dots.proofs.dot_ok.Goals as goal

tested : (d : Dot) → d.counter.number ≤ max_counter → ((leb 1 d.actor.number && leb d.actor.number actor_most) && leb 1 d.counter.number) ≡ dot_ok d
unfolding dot_ok
tested d h = rw (le-leb d.counter.number max_counter h, and-true)

pub returns : goal.returns
returns c = tested c.args.dot (omega arith)
