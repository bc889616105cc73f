-- By the answer: what is accepted passed every test.
use Rattle.std.specs.Prelude.{Ok}
use Prim.Native.Nat.{ℕ, ◌≤◌}
use mathlib.Core.Path.{◌≡◌, sym, ap, ◌∙◌}
use mathlib.Core.Bool.{true}
use native.Mathlib.Omega.{arith}
use lib.ListN.{length}
use borrow.Author.Tests.{ltb-false}
use Rattle.wire.specs.Bytes.{Bytes, put_at}
use Rattle.wire.proofs.Fields.{put_front}
use Rattle.dots.specs.declared.Answer.TheVariants.{Done}
use Rattle.dots.specs.Answer.{number_of}
use Rattle.dots.proofs.Table.{none-holds}
use Rattle.keys.specs.Key.{Key, key_bytes}
use Rattle.keys.specs.Write.{write_refusals, write_answer, writes, WroteKey}
use borrow.Author.Rules.{rules}
use Rattle.keys.proofs.write_key.Goals as goal

module _ (k : Key) (s : Bytes) (done : write_answer k (length s) ≡ Done) where
  room : length (key_bytes k) ≤ length s
  unfolding write_answer
  room = ltb-false (length s) (length (key_bytes k)) (none-holds (write_refusals k (length s)) (omega arith) (ap number_of done)).1.1.0

  wrote : (t : Bytes) (r : ℕ) → r ≡ length (key_bytes k) → t ≡ put_at s 0 (key_bytes k) → WroteKey k s t (Ok r)
  wrote t r e f =
      let written : writes k (length s) ≡ true = rw done in
      record { answered = sym done; counted = rw written e; bytes = rw written (f ∙ put_front s (key_bytes k)) }

pub put-requires : goal.put-requires
put-requires c = search (rules, room)

pub returns : goal.returns
returns c = search (rules, wrote)
