-- What the machine asks of a clock. The bases and windows stay behind these names.
use Rattle.std.specs.Prelude.{◌≡◌, ◌↔◌, ◌⊎◌, Bool, List, ℕ, ◌+◌, ◌<◌, T}
use Rattle.wire.specs.Lists.{◌∈◌}
use Rattle.dots.specs.declared.Actor.{Actor}
use Rattle.dots.specs.declared.Dot.{Dot}
use Rattle.dots.specs.Dots.{dot_of}

pub record ClockModel : Type 1 where
  pub Clock : Type 0
  pub zero_clock : Clock
  pub sees : Clock → Dot → Bool
  pub base : Clock → Actor → ℕ
  -- the dots offered are valid, and with them none lies too far above its actor's run (refusals 6 and 10)
  pub fits : Clock → List Dot → Bool
  -- all dots at once: one by one, in a bad order, they may not fit (case W3)
  pub join_all : Clock → List Dot → Clock
  -- an actor whose row is empty: nothing of it is seen
  pub unused : Clock → Actor → Bool

pub record ClockLaws (C : ClockModel) : Type 1 where
  pub WellFormed : C.Clock → Type 0
  pub zero-well : WellFormed C.zero_clock
  pub zero-unseen : (d : Dot) → T (C.sees C.zero_clock d) → ⊥
  pub join-well : (c : C.Clock) (ds : List Dot) → WellFormed c → T (C.fits c ds) → WellFormed (C.join_all c ds)
  pub join-sees : (c : C.Clock) (ds : List Dot) → WellFormed c → T (C.fits c ds)
      → (d : Dot) → T (C.sees (C.join_all c ds) d) ↔ (T (C.sees c d) ⊎ (d ∈ ds))
  -- events 1 to base are seen, and the next is not
  pub run-seen : (c : C.Clock) → WellFormed c → (a : Actor) (n : ℕ) → n < C.base c a → T (C.sees c (dot_of a (n + 1)))
  pub run_ends : (c : C.Clock) → WellFormed c → (a : Actor) → T (C.sees c (dot_of a (C.base c a + 1))) → ⊥
  pub unused-unseen : (c : C.Clock) (a : Actor) → T (C.unused c a) → (n : ℕ) → T (C.sees c (dot_of a n)) → ⊥
  -- a set of seen dots has one form only
  pub one_form : (c c' : C.Clock) → WellFormed c → WellFormed c' → ((d : Dot) → T (C.sees c d) ↔ T (C.sees c' d)) → c ≡ c'
