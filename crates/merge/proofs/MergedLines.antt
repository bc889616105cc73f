-- The line of a label put in its place: its dots first, then what stands before them. Assumes nothing.
use mathlib.Core.Path.{◌≡◌, refl, sym, ap, ap₂, ◌∙◌}
use mathlib.Core.Bool.{true, false}
use mathlib.Core.List.{List, [], ◌∷◌, ◌++◌, map, append_assoc, append-nil}
use Prim.Native.Nat.{ℕ, zero, suc, ◌+◌, ◌-◌, ◌*◌, ◌^◌, ◌≤◌, ◌<◌}
use native.Mathlib.Omega.{arith}
use lib.ListN.{length, take, drop, length-append, length-drop}
use lib.Seq.{take-append-le, take-take, take_at, drop_at, length-take-le}
use borrow.Author.Tests.{eq-eqb, ne_eqb}
use Rattle.wire.specs.Bytes.{Bytes, big_endian, put_at}
use Rattle.wire.proofs.BigEndian.{length-big_endian}
use Rattle.wire.proofs.Parts.{rest_part}
use Rattle.dots.specs.declared.Dot.{Dot}
use Rattle.dots.specs.Names.{Name, Label, label_most}
use Rattle.dots.specs.Wire.{dots_of, dots_bytes, dot_size}
use Rattle.dots.specs.Entries.{Entry, entry, entry_dot, line}
use Rattle.dots.proofs.RoundTrip.{length-dots}
use Rattle.keys.specs.Key.{prefix_fixed}
use Rattle.clock.specs.Row.{window_width}
use Rattle.store.specs.Cut.{end_to_end, store_bytes}
use Rattle.replica.specs.RowClock.{row_clock}
use Rattle.replica.proofs.Walk.{merged_from, merged-none}
use Rattle.listing.specs.Listing.{line_fixed, line_bytes, listing_bytes}
use Rattle.listing.specs.Lines.{label_of, line_if, line_head}
use Rattle.listing.proofs.LineWalks.{length-first, past-prefix}
use Rattle.listing.proofs.PutLines.{put-part}
use Rattle.merge.specs.declared.Spot.{Spot}
use Rattle.merge.specs.Sides.{Sides, merged_keys, merged_key_lines}
use Rattle.merge.specs.Labels.{LabelKeys, SameLabel}
use Rattle.merge.specs.Kept.{put_unless}
use Rattle.merge.specs.Lines.{merged_dots, CanPut, LabelWithin, label_in, DotsPut, LinePut}
use Rattle.merge.proofs.Puts.{unless_nothing, length_unless}
use Rattle.merge.proofs.KeptDots.{keys-entries, label-lines, line-bytes, label-short, dots-low}

-- ---- bytes put before others

pub put-before : (s t u x y : Bytes) (at next : ℕ) → t ≡ put_at s next y → next ≡ at + length x → u ≡ put_at t at x → next ≤ length s → u ≡ put_at s at (x ++ y)
unfolding put_at
put-before s t u x y at next e n f h =
    let front : length (take next s) ≡ next = length-take-le next s h in
    let low : take at t ≡ take at s = ap (take at) e ∙ take-append-le at (take next s) (y ++ drop (next + length y) s) (omega arith) ∙ take-take at next s (omega arith) in
    let high : drop (at + length x) t ≡ y ++ drop (next + length y) s = ap₂ drop (sym n) e ∙ drop_at (take next s) (y ++ drop (next + length y) s) next front in
    let end : next + length y ≡ at + length (x ++ y) = omega (arith, length-append x y) in
    f ∙ ap₂ (λ (p q : Bytes). p ++ (x ++ q)) low high ∙ ap (λ (p : Bytes). take at s ++ p) (sym (append_assoc x y (drop (next + length y) s)) ∙ ap (λ (k : ℕ). (x ++ y) ++ drop k s) end)

-- ---- the label

module _ (n len : ℕ) (k : Name) (l : Label) (named : length k ≡ n) (sized : length l ≡ len) (keys : Bytes) (own : LabelKeys k l keys) where
  -- where there are keys
  some-keys : (d : Dot) (ds : List Dot) → own.dots ≡ d ∷ ds → (n + prefix_fixed + len + 1 ≤ length keys) × (label_of n keys len ≡ l)
  some-keys d ds q =
      let written : keys ≡ store_bytes k (map (entry l) (d ∷ ds)) = own.written ∙ ap (λ (t : List Dot). store_bytes k (map (entry l) t)) q in
      let past = past-prefix n k named (entry l d) (map (entry l) ds) in (
        omega (arith, ap length written, length-first n k named (entry l d) (map (entry l) ds)),
        ap (λ (t : Bytes). take len (drop (n + prefix_fixed) t)) written ∙ ap (take len) past.1 ∙ take_at l (0 ∷ past.0) len sized,
      )

  no_keys : own.dots ≡ [] → length keys ≡ 0
  unfolding store_bytes end_to_end
  no_keys q = ap length (own.written ∙ ap (λ (t : List Dot). store_bytes k (map (entry l) t)) q)

module _ (n : ℕ) (spot : Spot) (s : Sides) (a b : Bytes) (room : ℕ) (can : CanPut n spot s a b room) where
  abbrev keys : SameLabel n spot.len a b
  keys = can.label-keys

  abbrev dots : List Dot
  dots = merged_dots n s a b

  -- a dot is kept, so there are keys
  module _ (some : 0 < length dots) where
    no_dots_lem : keys.first.dots ≡ [] → keys.second.dots ≡ [] → ⊥
    no_dots_lem p q =
        let none : merged_keys n s a b ≡ [] =
        ap₂ (merged_from (row_clock window_width) s.words s.words' (dots_of s.tombstone) (dots_of s.tombstone'))
        (keys-entries keys.name keys.label n keys.named a keys.first ∙ ap (map (entry keys.label)) p)
        (keys-entries keys.name keys.label n keys.named b keys.second ∙ ap (map (entry keys.label)) q)
        ∙ merged-none (row_clock window_width) s.words s.words' (dots_of s.tombstone) (dots_of s.tombstone') in
        let zero : length dots ≡ 0 = ap (λ (es : List Entry). length (map entry_dot es)) none in
        omega arith

    record Found : Type 0 where
      within : LabelWithin n spot.len a b
      is-label : label_in n spot.len a b ≡ keys.label

    found : (ds es : List Dot) → keys.first.dots ≡ ds → keys.second.dots ≡ es → Found
    unfolding label_in
    found (d ∷ ds) es p q =
        let w = some-keys n spot.len keys.name keys.label keys.named keys.sized a keys.first d ds p in
        let h = w.0 in
        record {
          within = record { in_first = λ z. omega arith; in_second = λ z. absurd (omega arith) };
          is-label = rw (ne_eqb (length a) 0 (λ z. omega arith)) w.1;
        }
    found [] (e ∷ es) p q =
        let none = no_keys n spot.len keys.name keys.label keys.named keys.sized a keys.first p in
        let w = some-keys n spot.len keys.name keys.label keys.named keys.sized b keys.second e es q in
        let h = w.0 in
        record {
          within = record { in_first = λ z. absurd (z none); in_second = λ z. omega arith };
          is-label = rw (eq-eqb (length a) 0 none) w.1;
        }
    found [] [] p q = absurd (no_dots_lem p q)

    pub label-within : LabelWithin n spot.len a b
    label-within = (found keys.first.dots keys.second.dots refl refl).within

    pub label_is : label_in n spot.len a b ≡ keys.label
    label_is = (found keys.first.dots keys.second.dots refl refl).is-label

-- ---- the line

head-with : (l : Label) (count : ℕ) (d : Dot) (ds : List Dot) → count ≡ length (d ∷ ds) → line_head l count ++ dots_bytes (d ∷ ds) ≡ listing_bytes (line_if l (d ∷ ds))
unfolding listing_bytes
head-with l count d ds e =
    ap (λ (k : ℕ). line_head l k ++ dots_bytes (d ∷ ds)) e ∙ ap (λ (t : Bytes). length l ∷ t) (append_assoc l (big_endian 2 (length (d ∷ ds))) (dots_bytes (d ∷ ds)))
    ∙ sym (append-nil (line_bytes (line l (d ∷ ds))))

length-head : (l : Label) (count : ℕ) → length (line_head l count) ≡ length l + line_fixed
length-head l count = rw (length-append, length-big_endian) (omega arith)

module _ (n : ℕ) (spot : Spot) (s : Sides) (a b out : Bytes) (can : CanPut n spot s a b (length out)) (out' : Bytes) (count : ℕ) (put : DotsPut n spot s a b out out' count) where
  abbrev bytes : Bytes
  bytes = listing_bytes (merged_key_lines n s a b)

  abbrev kept : List Dot
  kept = merged_dots n s a b

  abbrev from : ℕ
  from = spot.at + spot.len + line_fixed

  pub none-put : count ≡ 0 → LinePut n spot s a b out out' 0
  unfolding listing_bytes dots_bytes
  none-put z = go kept refl
    where
      go : (ds : List Dot) → merged_dots n s a b ≡ ds → LinePut n spot s a b out out' 0
      go [] q =
          let lines : merged_key_lines n s a b ≡ [] = label-lines n spot.len s a b can.label-keys ∙ ap (line_if can.label-keys.label) q in
          let same : out' ≡ out = put.1 ∙ ap (λ (ds : List Dot). put_unless spot.dry out (spot.at + spot.len + line_fixed) (dots_bytes ds)) q ∙ sym (unless_nothing spot.dry out (spot.at + spot.len + line_fixed)) in
          rw lines (refl, same ∙ unless_nothing spot.dry out spot.at)
      go (d ∷ ds) q = absurd (omega (arith, put.0, ap length q))

  module _ (some : count ≡ 0 → ⊥) where
    some-kept : 0 < length kept
    some-kept = go (length kept) refl
      where
        go : (m : ℕ) → length (merged_dots n s a b) ≡ m → 0 < length (merged_dots n s a b)
        go zero e = absurd (some (put.0 ∙ e))
        go (suc m) e = omega arith

    pub size_is : line_fixed + spot.len + dot_size * count ≡ length bytes
    size_is = omega (arith, line-bytes n spot.len s a b can.label-keys some-kept, put.0)

    pub dry_put : spot.dry ≡ true → LinePut n spot s a b out out' (line_fixed + spot.len + dot_size * count)
    dry_put t = (size_is, put.1 ∙ rw t)

    pub within : LabelWithin n spot.len a b
    within = label-within n spot s a b (length out) can some-kept

    pub few : count < 256 ^ 2
    few = omega (arith, dots-low n spot s a b (length out) can, put.0)

    -- room for what stands before the dots
    module _ (wet : spot.dry ≡ false) where
      all_room : spot.at + (line_fixed + spot.len + dot_size * count) ≤ length out
      all_room = omega (arith, can.has_room wet, size_is)

      same_length : length out' ≡ length out
      same_length =
          ap length put.1
          ∙ length_unless spot.dry out (dots_bytes kept) from (λ f. omega (arith, all_room, length-dots kept, put.0))

      pub at-within : spot.at ≤ length out'
      at-within = omega (arith, all_room, same_length)

      module _ (label : Label) (read : label ≡ label_in n spot.len a b) where
        label-long : length label ≡ spot.len
        label-long = ap length (read ∙ label_is n spot s a b (length out) can some-kept) ∙ can.label-keys.sized

        pub head-fits : (length label ≤ label_most) × (count < 256 ^ 2) × (length label + line_fixed ≤ length (take (length out' - spot.at) (drop spot.at out')))
        head-fits = (omega (arith, label-long, label-short n spot s a b (length out) can), few, rw (rest_part, length-drop) (omega (arith, label-long, all_room, same_length)))

        pub wet_put : (part last : Bytes) → part ≡ put_at (take (length out' - spot.at) (drop spot.at out')) 0 (line_head label count)
            → last ≡ take spot.at out' ++ (part ++ drop (length out' - spot.at) (drop spot.at out')) → LinePut n spot s a b out last (line_fixed + spot.len + dot_size * count)
        wet_put part last e f = (size_is, whole ∙ ap (put_at out spot.at) (line-is kept refl) ∙ sym (rw wet))
          where
            dots-put : out' ≡ put_at out (spot.at + spot.len + line_fixed) (dots_bytes (merged_dots n s a b))
            dots-put = put.1 ∙ rw wet

            whole : last ≡ put_at out spot.at (line_head label count ++ dots_bytes (merged_dots n s a b))
            whole =
                put-before out out' last (line_head label count) (dots_bytes (merged_dots n s a b)) spot.at (spot.at + spot.len + line_fixed) dots-put
                (omega (arith, length-head label count, label-long)) (f ∙ put-part out' part (line_head label count) spot.at e) (omega (arith, all_room))

            line-is : (ds : List Dot) → merged_dots n s a b ≡ ds → line_head label count ++ dots_bytes (merged_dots n s a b) ≡ listing_bytes (merged_key_lines n s a b)
            line-is [] q = absurd (omega (arith, some-kept, ap length q))
            line-is (d ∷ ds) q =
                ap₂ (λ (m : Label) (es : List Dot). line_head m count ++ dots_bytes es) (read ∙ label_is n spot s a b (length out) can some-kept) q
                ∙ head-with can.label-keys.label count d ds (put.0 ∙ ap length q)
                ∙ ap (λ (es : List Dot). listing_bytes (line_if can.label-keys.label es)) (sym q)
                ∙ ap listing_bytes (sym (label-lines n spot.len s a b can.label-keys))
