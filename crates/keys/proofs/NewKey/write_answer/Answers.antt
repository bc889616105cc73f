-- The tests in the order of the table; where the names keep their rules the length does not wrap.
use Prim.Native.Nat.{ℕ, ◌+◌, ◌≤◌, ◌<◌}
use mathlib.Core.Path.{◌≡◌, refl, sym, ap, ◌∙◌}
use Rattle.std.specs.Prelude.{Err}
use mathlib.Core.Bool.{Bool, true, false, not, cond}
use mathlib.Core.List.{[]}
use native.Mathlib.Omega.{arith}
use lib.Dec.{ltb}
use lib.ListN.{length}
use borrow.Author.Tests.{not-false, lt-ltb, le-ltb}
use mir.Syntax.{w64}
use mir.Val.{Fits}
use Rattle.wire.specs.Bytes.{Bytes}
use Rattle.dots.specs.Answer.{Answered}
use Rattle.dots.specs.declared.Answer.TheVariants.{Done, BadName, BadDot, OutputShort}
use Rattle.keys.specs.declared.KeyKind.{KeyKind}
use Rattle.keys.specs.Key.{key_of, has_label, names_ok, key_counter_ok, suffix_size, prefix_fixed}
use Rattle.keys.specs.Write.{write_answer}
use Rattle.keys.specs.Parts.{tail_length}
use Rattle.keys.proofs.Valid.{kept-short}
use Rattle.keys.proofs.Lengths.{length-key}
use borrow.Author.Rules.{rules}
use Rattle.keys.proofs.NewKey.write_answer.Goals as goal

module _ (t : KeyKind) (name label : Bytes) (actor counter room : ℕ) (ok : Bool) (tested : ok ≡ names_ok (key_of t name label actor counter)) where
  bad-name : not ok ≡ true → Answered {A = Unit {0}} (write_answer (key_of t name label actor counter) room) (Err BadName)
  unfolding write_answer
  bad-name h = rw (← tested, h) (refl, refl)

  module _ (passed : not ok ≡ false) (fits : Bool) (tested' : fits ≡ key_counter_ok (key_of t name label actor counter)) where
    bad-dot : not fits ≡ true → Answered {A = Unit {0}} (write_answer (key_of t name label actor counter) room) (Err BadDot)
    unfolding write_answer
    bad-dot h = rw (← tested, passed, ← tested', h) (refl, refl)

    module _ (p : Bytes) (tail : ℕ) (kept : p ≡ cond (has_label t) label []) where
      size_fits : tail ≤ suffix_size → Fits w64 (length name + length p + (prefix_fixed + tail))
      size_fits small = let short = kept-short t name label actor counter (sym tested ∙ not-false ok passed) in let same = ap length kept in record { fits = omega arith }

      module _ (taken : not fits ≡ false) (size : tail ≡ tail_length t) where
        table : write_answer (key_of t name label actor counter) room ≡ cond (ltb room (length name + length p + (prefix_fixed + tail))) OutputShort Done
        unfolding write_answer
        table = rw (← tested, passed, ← tested', taken, length-key, size, kept)

        short : room < length name + length p + (prefix_fixed + tail) → Answered {A = Unit {0}} (write_answer (key_of t name label actor counter) room) (Err OutputShort)
        short h = rw (table, lt-ltb room _ h) (refl, refl)

        done : (room < length name + length p + (prefix_fixed + tail) → ⊥) → write_answer (key_of t name label actor counter) room ≡ Done
        done h = let fits : length name + length p + (prefix_fixed + tail) ≤ room = omega arith in rw (table, le-ltb room (length name + length p + (prefix_fixed + tail)) fits)

pub returns-then-not-names_ok : goal.returns-then-not-names_ok
returns-then-not-names_ok c = search (rules, bad-name)

pub returns-then-not-counter_ok : goal.returns-then-not-counter_ok
returns-then-not-counter_ok c = search (rules, bad-dot)

pub overflow_add-size-3 : goal.overflow_add-size-3
overflow_add-size-3 c = search (rules, size_fits)

pub returns-then-room-size : goal.returns-then-room-size
returns-then-room-size c = search (rules, short)

pub returns : goal.returns
returns c = search (rules, done)
