-- The dots of a label in two stores, one after the other: the lower one comes next, and whether it is kept is told of it alone. Assumes nothing.
use mathlib.Core.Path.{◌≡◌, refl, ap, ◌∙◌, subst}
use mathlib.Core.Bool.{Bool, true, false, ◌||◌}
use mathlib.Core.List.Memᴰ
use mathlib.Core.List.{List, [], ◌∷◌, map}
use Prim.Native.Nat.{Ordering}
use Rattle.std.specs.Prelude.{Option, Some, None}
use Rattle.wire.specs.Lists.{cons_if, then, is_lt, Less, Ascending}
use Rattle.wire.proofs.Tests.{untrue}
use Rattle.wire.proofs.Lists.{lt_is, irreflexive}
use Rattle.wire.proofs.Orders.{bytes_lawful}
use Rattle.dots.specs.declared.Dot.{Dot}
use Rattle.dots.specs.Names.{Label}
use Rattle.dots.specs.Dots.{compare_dots}
use Rattle.dots.specs.Wire.{dots_of}
use Rattle.dots.specs.Entries.{Entry, entry, compare_entries}
use Rattle.dots.proofs.Orders.{dots, entries}
use Rattle.clock.specs.Row.{window_width}
use Rattle.replica.specs.RowClock.{row_clock}
use Rattle.replica.proofs.Walk.{BelowAll, below_all, merged_from, merged-lower, merged-higher, merged-tie}
use Rattle.merge.specs.declared.NextDot.{NextDot}
use Rattle.merge.specs.Sides.{Sides}
use Rattle.merge.specs.Kept.{next_of, next_in, kept_dot, keeps_next}

-- the first of dots
abbrev pub first-of : List Dot → Option Dot
first-of [] = None
first-of (d ∷ ds) = Some d

-- ---- order

not_after : (d e : Dot) → Less compare_dots d e → is_lt (compare_dots e d) ≡ false
not_after d e h = untrue (is_lt (compare_dots e d)) (λ t. irreflexive compare_dots dots d (dots.chain d e d h (lt_is (compare_dots e d) t)))

-- under one label entries compare as their dots
same-order : (l : Label) (d e : Dot) → compare_entries (entry l d) (entry l e) ≡ compare_dots d e
same-order l d e = ap (λ (o : Ordering). then o (compare_dots d e)) (bytes_lawful.self l)

-- ---- which one comes next

pub next-first : (d e : Dot) → Less compare_dots d e → next_of d e ≡ record { dot = d; first = true; second = false }
unfolding next_of
next-first d e h = rw (not_after d e h, h)

pub next-second : (d e : Dot) → Less compare_dots e d → next_of d e ≡ record { dot = e; first = false; second = true }
unfolding next_of
next-second d e h = rw (not_after e d h, h)

pub next_both : (d : Dot) → next_of d d ≡ record { dot = d; first = true; second = true }
unfolding next_of
next_both d = rw (dots.self d)

-- ---- one turn

module _ (l : Label) (s : Sides) where
  abbrev pub merged_dots_from : List Dot → List Dot → List Entry
  merged_dots_from ds es =
      merged_from (row_clock window_width) s.words s.words' (dots_of s.tombstone) (dots_of s.tombstone') (map (entry l) ds) (map (entry l) es)

  -- the dot that comes next is taken off where it is held
  pub record DotTurn (ds es : List Dot) (next : NextDot) : Type 0 where
    pub ds' : List Dot
    pub es' : List Dot
    pub first-is : ds ≡ cons_if next.first next.dot ds'
    pub second_is : es ≡ cons_if next.second next.dot es'
    pub held : (next.first || next.second) ≡ true
    pub merged : merged_dots_from ds es ≡ cons_if (keeps_next s next) (entry l next.dot) (merged_dots_from ds' es')

  by-none : (b : Bool) → b ≡ (b || false)
  by-none true = refl
  by-none false = refl

  abbrev Up : List Dot → Type 0
  Up ds = Ascending compare_entries (map (entry l) ds)

  turn-first : (d : Dot) (ds es : List Dot) → Up (d ∷ ds) → Up es → BelowAll compare_entries (entry l d) (map (entry l) es)
      → DotTurn (d ∷ ds) es (record { dot = d; first = true; second = false })
  unfolding keeps_next kept_dot
  turn-first d ds es up up' low = record {
    ds' = ds;
    es' = es;
    first-is = refl;
    second_is = refl;
    held = refl;
    merged = merged-lower (row_clock window_width) s.words s.words' (dots_of s.tombstone) (dots_of s.tombstone') (entry l d) (map (entry l) ds) (map (entry l) es) up up' low;
  }

  turn-second : (e : Dot) (ds es : List Dot) → Up ds → Up (e ∷ es) → BelowAll compare_entries (entry l e) (map (entry l) ds)
      → DotTurn ds (e ∷ es) (record { dot = e; first = false; second = true })
  unfolding keeps_next kept_dot
  turn-second e ds es up up' low = record {
    ds' = ds;
    es' = es;
    first-is = refl;
    second_is = refl;
    held = refl;
    merged = merged-higher (row_clock window_width) s.words s.words' (dots_of s.tombstone) (dots_of s.tombstone') (entry l e) (map (entry l) ds) (map (entry l) es) up up' low;
  }

  turn-both : (d : Dot) (ds es : List Dot) → Up (d ∷ ds) → Up (d ∷ es) → DotTurn (d ∷ ds) (d ∷ es) (next_of d d)
  unfolding keeps_next kept_dot
  turn-both d ds es up up' = rw (next_both d) (record {
    ds' = ds;
    es' = es;
    first-is = refl;
    second_is = refl;
    held = refl;
    merged = merged-tie (row_clock window_width) s.words s.words' (dots_of s.tombstone) (dots_of s.tombstone') (entry l d) (map (entry l) ds) (map (entry l) es) up up';
  })

  -- the same, or no dot is left
  abbrev pub Turned : List Dot → List Dot → Option NextDot → Type 0
  Turned ds es (Some next) = DotTurn ds es next
  Turned ds es None = (ds ≡ []) × (es ≡ [])

  pub dot-turn : (ds es : List Dot) → Up ds → Up es → Turned ds es (next_in (first-of ds) (first-of es))
  dot-turn [] [] up up' = (refl, refl)
  dot-turn (d ∷ ds) [] up up' = turn-first d ds [] up up' (λ z m. absurd (Memᴰ.not-nil m))
  dot-turn [] (e ∷ es) up up' = turn-second e [] es up up' (λ z m. absurd (Memᴰ.not-nil m))
  dot-turn (d ∷ ds) (e ∷ es) up up' = go (compare_dots e d) refl
    where
      tie : e ≡ d → DotTurn (d ∷ ds) (e ∷ es) (next_of d e)
      tie q = rw q (turn-both d ds es up (subst (λ (x : Dot). Ascending compare_entries (map (entry l) (x ∷ es))) q up'))

      go : (o : Ordering) → compare_dots e d ≡ o → DotTurn (d ∷ ds) (e ∷ es) (next_of d e)
      go Ordering.lt q = rw (next-second d e q) (turn-second e (d ∷ ds) es up up' (below_all compare_entries entries (entry l e) (entry l d) (map (entry l) ds) up (same-order l e d ∙ q)))
      go Ordering.eq q = tie (dots.tie e d q)
      go Ordering.gt q =
          let h = dots.turn e d q in
          rw (next-first d e h) (turn-first d ds (e ∷ es) up up' (below_all compare_entries entries (entry l d) (entry l e) (map (entry l) es) up' (same-order l d e ∙ h)))
