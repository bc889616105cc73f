-- The comparisons of dots and of entries are orders. Assumes nothing.
use mathlib.Core.Path.{◌≡◌, refl, sym, ap, ◌∙◌}
use Prim.Native.Nat.{ℕ, compare}
use Rattle.wire.specs.Bytes.{compare_bytes}
use Rattle.wire.proofs.Lists.{Lawful}
use Rattle.wire.proofs.Orders.{numbers, lexicographic, bytes_lawful}
use Rattle.dots.specs.Dots.{actor_of, counter_of, compare_actors, compare_counters, compare_dots}
use Rattle.dots.specs.Entries.{compare_entries}

-- an order of what a number is in
module _ {A : Type 0} (number : A → ℕ) (make : ℕ → A) (whole : (x : A) → make (number x) ≡ x) where
  numbered : Lawful (λ (x y : A). compare (number x) (number y))
  numbered = record {
    self = λ x. numbers.self (number x);
    tie = λ x y e. sym (whole x) ∙ ap make (numbers.tie (number x) (number y) e) ∙ whole y;
    turn = λ x y e. numbers.turn (number x) (number y) e;
    chain = λ x y z h k. numbers.chain (number x) (number y) (number z) h k;
  }

pub actors : Lawful compare_actors
actors = numbered (λ a. a.number) actor_of (λ a. refl)

pub counters : Lawful compare_counters
counters = numbered (λ n. n.number) counter_of (λ n. refl)

pub dots : Lawful compare_dots
dots = lexicographic (λ d. d.actor) (λ d. d.counter) (λ d e p q i. record { actor = p i; counter = q i }) compare_actors compare_counters actors counters

pub entries : Lawful compare_entries
entries = lexicographic (λ e. e.label) (λ e. e.dot) (λ e k p q i. record { label = p i; dot = q i }) compare_bytes compare_dots bytes_lawful dots
