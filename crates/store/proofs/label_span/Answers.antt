-- The keys that begin with what the keys of the label begin with, as it was put.
use Rattle.std.proofs.Common.{◌≡◌, ℕ, ◌+◌, ◌≤◌, true, [], ◌∷◌, length, take, append_assoc, arith, rules}
use Rattle.wire.specs.declared.Span.{Span}
use Rattle.wire.specs.Bytes.{Bytes, put_at}
use Rattle.dots.specs.Names.{Name, Label, name_ok, label_ok, name_most, label_most}
use Rattle.store.specs.Place.{label_start, stretch_start, stretch_end, LabelPassed, PlacePast, IsSpanFrom, IsSpan}
use Rattle.store.proofs.Starts.{name_most_lem, label_most_lem, length_label_start, put-read, put-size, put-room}
use Rattle.keys.specs.Key.{prefix_fixed}
use Rattle.store.proofs.label_span.Goals as goal

fits : (name : Name) (label : Label) → name_ok name ≡ true → label_ok label ≡ true → length name + length label + (prefix_fixed + 1) ≤ name_most + label_most + (prefix_fixed + 1)
fits name label ok ok' = omega (arith, name_most_lem name ok, label_most_lem label ok')

module _ (name : Name) (label : Label) (s t : Bytes) (n : ℕ) (put : t ≡ put_at s 0 (label_start name label)) (count : n ≡ length name + length label + 5) where
  start-read : take n t ≡ label_start name label
  start-read = put-read s t (label_start name label) n (length name + length label + 5) put count (length_label_start name label)

  spanned : (keys : Bytes) (p : Span) → IsSpanFrom (length name) keys (take n t) p → IsSpan name label keys p
  unfolding stretch_start stretch_end
  spanned keys p is =
      let w : IsSpanFrom (length name) keys (label_start name label) p = rw start-read at is in
      (w.0, rw (← w.0, ← w.1), w.2)

  placed-start : (keys : Bytes) (low : ℕ) → LabelPassed name label keys low → PlacePast (length name) keys (take n t) low
  unfolding label_start
  placed-start keys low p = record { within = p.within; placed = rw start-read (rw append_assoc at (p.placed (0 ∷ []))) }

pub put_label_start-len-requires : goal.put_label_start-len-requires
put_label_start-len-requires c = search (rules, fits)

pub slice_bounds-start-end : goal.slice_bounds-start-end
slice_bounds-start-end c = search (rules, put-room, length_label_start)

pub slice_bounds-span_from-end : goal.slice_bounds-span_from-end
slice_bounds-span_from-end c = search (rules, put-size, length_label_start)

pub span_from-requires : goal.span_from-requires
span_from-requires c = (search (rules, name_most_lem), search (rules, placed-start))

pub returns : goal.returns
returns c = search (rules, spanned)
