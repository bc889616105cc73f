-- Actor and 00 as one number, less 1, are below 16 exactly if the actor is one and the 00 stands.
use Rattle.std.proofs.Common.{◌≡◌, ℕ, ◌+◌, ◌*◌, ◌%◌, ◌^◌, ◌<◌, ◌≤◌, Bool, false, eqb, List, get_or, sym, ◌∙◌, arith, w8, Fits, rules, ne_eqb, le-leb}
use mathlib.Core.Bool.{and-false}
use native.Mathlib.Decide.{dec_lt}
use borrow.Author.Tests.{lt-leb}
use Rattle.wire.specs.Bytes.{Bytes, number_at}
use Rattle.dots.specs.Dots.{actor_most, actor_of, dot_of}
use Rattle.clock.specs.Clock.{sees}
use Rattle.store.specs.Pass.{dot_seen}
use Rattle.store.proofs.dot_seen.Goals as goal

module _ (words : List ℕ) (t : Bytes) (known : (k : ℕ) → Fits w8 (get_or t k 0)) (at row pair : ℕ) (is : pair ≡ get_or t (at + 1) 0 * 256 + get_or t at 0) (less : (row + 1) % 2 ^ 64 ≡ pair) where
  no_dot : actor_most ≤ row → row < 2 ^ 64 → false ≡ dot_seen words t at
  unfolding dot_seen
  no_dot h small = sym (elim (dec_lt 0 (get_or t (at + 1) 0)) [
    | yes more ↦ let second : eqb (get_or t (at + 1) 0) 0 ≡ false = ne_eqb (get_or t (at + 1) 0) 0 (λ e. omega arith) in rw (second, and-false)
    | no none ↦ elim (dec_lt 0 (get_or t at 0)) [
      | yes some ↦ rw (lt-leb (get_or t at 0) actor_most (omega arith), and-false)
      | no last ↦ rw (lt-leb 1 (get_or t at 0) (omega arith))
    ]
  ])

  a-dot : (e : ℕ) (r : Bool) → row < actor_most → e ≡ number_at 8 t (at + 2) → r ≡ sees words (dot_of (actor_of (row + 1)) e) → r ≡ dot_seen words t at
  unfolding dot_seen
  a-dot e r h event seen =
      let second : get_or t (at + 1) 0 ≡ 0 = omega (arith, (known at).fits) in
      let first : get_or t at 0 ≡ row + 1 = omega arith in
      seen ∙ sym (rw (second, first, ← event, le-leb 1 (row + 1) (omega arith), le-leb (row + 1) actor_most (omega arith)))

pub returns-then-row : goal.returns-then-row
unfolding dot_seen
returns-then-row c = search (rules, no_dot)

pub returns : goal.returns
unfolding dot_seen
returns c = search (rules, a-dot)
