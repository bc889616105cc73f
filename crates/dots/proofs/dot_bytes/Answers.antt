-- The actor, and the bytes of the counter.
use mathlib.Core.Path.{◌≡◌}
use mathlib.Core.List.{List, [], ◌∷◌}
use Prim.Native.Nat.{ℕ}
use lib.ListN.{get_or}
use Rattle.wire.specs.Bytes.{big_endian}
use Rattle.dots.specs.declared.Dot.{Dot}
use Rattle.dots.specs.Wire.{dot_bytes}
use Rattle.dots.proofs.dot_bytes.Goals as goal

nine : (d : Dot) (c : List ℕ) → c ≡ big_endian 8 d.counter.number
    → d.actor.number ∷ get_or c 0 0 ∷ get_or c 1 0 ∷ get_or c 2 0 ∷ get_or c 3 0 ∷ get_or c 4 0 ∷ get_or c 5 0 ∷ get_or c 6 0 ∷ get_or c 7 0 ∷ [] ≡ dot_bytes d
unfolding dot_bytes big_endian
nine d c e = rw e

pub returns : goal.returns
returns c = nine c.args.dot c.number_bytes-c.result c.number_bytes-c.ensures
