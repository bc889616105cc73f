-- The fixed bytes with the actor, then the counter.
use Prim.Native.Nat.{ℕ, ◌+◌, ◌≤◌}
use mathlib.Core.Path.{◌≡◌}
use mathlib.Core.List.{[], ◌∷◌}
use native.Mathlib.Omega.{arith}
use lib.ListN.{length}
use Rattle.wire.specs.Bytes.{Bytes, big_endian, put_at}
use Rattle.wire.proofs.BigEndian.{length-big_endian}
use Rattle.wire.proofs.Fields.{put_next}
use Rattle.keys.specs.declared.KeyKind.TheVariants.{LabelKey}
use Rattle.keys.specs.Parts.{tail_bytes}
use borrow.Author.Rules.{rules}
use Rattle.keys.specs.Key.{suffix_size}
use Rattle.keys.proofs.put_dot.Goals as goal

module _ (at next counter : ℕ) (number : Bytes) (n : next ≡ at + 3) (bytes : number ≡ big_endian 8 counter) where
  eleven : (end : ℕ) → end ≡ next + length number → end ≡ at + suffix_size
  eleven end e = let eight : length number ≡ 8 = rw bytes (length-big_endian 8 counter) in omega arith

  both-put : (s t u : Bytes) (actor : ℕ) → t ≡ put_at s at (0 ∷ actor ∷ 0 ∷ []) → u ≡ put_at t next number → at + suffix_size ≤ length s → u ≡ put_at s at (tail_bytes LabelKey actor counter)
  both-put s t u actor e f fits = rw bytes at (put_next s t u (0 ∷ actor ∷ 0 ∷ []) number at next e n f (omega arith))

pub returns : goal.returns
returns c = (search (rules, eleven), search (rules, both-put))
