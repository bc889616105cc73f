-- How two dots compare in std's words, and in those of the specs. Assumes nothing.
use mathlib.Core.Path.{◌≡◌, ap₂}
use Prim.Native.Nat.{ℕ, ◌<◌}
use Rattle.std.specs.declared.cmp.Ordering.{Ordering}
use Rattle.std.specs.declared.cmp.Ordering.TheVariants.{Less, Equal, Greater}
use Rattle.std.specs.Ordering.{nat_cmp, ordering_then, MatchOrdering}
use Rattle.std.specs.Cmp.{ranks}
use Rattle.wire.specs.Lists.{Less as Below}
use Rattle.wire.proofs.Orders.{numbers, number_less}
use Rattle.dots.specs.declared.Dot.{Dot}
use Rattle.dots.specs.Dots.{compare_dots}

abbrev pub Ranked : Dot → Dot → Ordering → Type 0
Ranked d e Less = Below compare_dots d e
Ranked d e Equal = d ≡ e
Ranked d e Greater = Below compare_dots e d

-- by the counters, where the actors are the same
by_counters : (d e : Dot) → d.actor.number ≡ e.actor.number → (o : Ordering) → MatchOrdering o (d.counter.number < e.counter.number) (d.counter.number ≡ e.counter.number) (e.counter.number < d.counter.number)
    → Ranked d e o
by_counters d e q Less h = rw (q, numbers.self e.actor.number) (number_less d.counter.number e.counter.number h)
by_counters d e q Equal h = ap₂ (λ (m n : ℕ). record { actor = record { number = m }; counter = record { number = n } }) q h
by_counters d e q Greater h = rw (q, numbers.self e.actor.number) (number_less e.counter.number d.counter.number h)

by_actors : (d e : Dot) (o p : Ordering) → MatchOrdering o (d.actor.number < e.actor.number) (d.actor.number ≡ e.actor.number) (e.actor.number < d.actor.number)
    → MatchOrdering p (d.counter.number < e.counter.number) (d.counter.number ≡ e.counter.number) (e.counter.number < d.counter.number) → Ranked d e (ordering_then o p)
by_actors d e Less p h k = rw (number_less d.actor.number e.actor.number h)
by_actors d e Equal p h k = by_counters d e h p k
by_actors d e Greater p h k = rw (number_less e.actor.number d.actor.number h)

pub ranked : (d e : Dot) → Ranked d e (ordering_then (nat_cmp d.actor.number e.actor.number) (nat_cmp d.counter.number e.counter.number))
ranked d e = by_actors d e _ _ (ranks d.actor.number e.actor.number) (ranks d.counter.number e.counter.number)
