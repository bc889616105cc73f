-- The invariant: every key so far is passed, so that the walk goes on in the keys that are left.
use Rattle.store.specs.Cut.{keys_of}
use Rattle.store.proofs.KeyLoops.{Walked}
use Rattle.store.proofs.walk_past.Given as goal

abbrev pub invariant-loop-key : goal.invariant-loop-key
invariant-loop-key g l = Walked l.n l.keys (goal.F-post g l.passes) l.len (keys_of l.key-iterator.n l.key-iterator.rest.now)
