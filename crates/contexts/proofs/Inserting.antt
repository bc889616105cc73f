-- A dot put in its place among the first `count` dots of bytes, in bytes. Assumes nothing.
use mathlib.Core.Path.{◌≡◌, sym, ap, ◌∙◌}
use mathlib.Core.Bool.{Bool, true, false}
use mathlib.Core.List.{List, ◌++◌, append_assoc}
use Prim.Native.Nat.{ℕ, ◌+◌, ◌-◌, ◌*◌, ◌≤◌}
use native.Mathlib.Omega.{arith}
use lib.ListN.{length, take, drop, get_or, length-append, length-drop, take-append-drop}
use lib.Seq.{length-take-le, take-take}
use mir.Val.{Fits}
use mir.Syntax.{w8, w64}
use Rattle.wire.specs.Lists.{member, insert}
use Rattle.wire.specs.Bytes.{AreBytes, part_at, inserted_at}
use Rattle.wire.proofs.Fields.{bytes_take, bytes_drop}
use Rattle.wire.proofs.Parts.{drop-take}
use Rattle.dots.specs.declared.Dot.{Dot}
use Rattle.dots.specs.Dots.{compare_dots, ascending_dots, tombstone_most}
use Rattle.dots.specs.Wire.{dot_bytes, dots_bytes, dots_of, place_of, dot_size, tombstone_size}
use Rattle.dots.proofs.Rules.{ascending_up}
use Rattle.dots.proofs.Loops.{length-dots_of}
use Rattle.dots.proofs.RoundTrip.{length-dot, dots-append, dots-read}
use Rattle.contexts.proofs.Places.{insert-split, insert-once, insert-around}

pub length_insert_new : (d : Dot) (ds : List Dot) → member compare_dots d ds ≡ false → length (insert compare_dots d ds) ≡ length ds + 1
length_insert_new d ds new =
    let whole : length (take (place_of d ds) ds) + length (drop (place_of d ds) ds) ≡ length ds =
    sym (length-append (take (place_of d ds) ds) (drop (place_of d ds) ds)) ∙ ap length (take-append-drop (place_of d ds) ds) in
    rw (insert-split d ds new, length-append) (omega arith)

module _ (s : List ℕ) (count : ℕ) (d : Dot) (size : length s ≡ tombstone_size) (few : count ≤ tombstone_most) where
  front-size : length (take (count * dot_size) s) ≡ count * dot_size
  front-size = length-take-le (count * dot_size) s (omega arith)

  pub front_length_lem : count * dot_size ≡ length (take (count * dot_size) s)
  front_length_lem = sym front-size

  dots-count : length (dots_of (take (count * dot_size) s)) ≡ count
  dots-count = omega (arith, length-dots_of (take (count * dot_size) s), front-size)

  module _ (r : Bool) (held : r ≡ member compare_dots d (dots_of (take (count * dot_size) s))) where
    -- the dot is there
    module _ (yes : r ≡ true) (up : ascending_dots (dots_of (take (count * dot_size) s)) ≡ true) where
      once : insert compare_dots d (dots_of (take (count * dot_size) s)) ≡ dots_of (take (count * dot_size) s)
      once = insert-once d (dots_of (take (count * dot_size) s)) (ascending_up (dots_of (take (count * dot_size) s)) up) (sym held ∙ yes)

      pub held-count : count ≡ length (insert compare_dots d (dots_of (take (count * dot_size) s)))
      held-count = rw once (sym dots-count)

      pub held_bytes : ((i : ℕ) → Fits w8 (get_or s i 0)) → s ≡ dots_bytes (insert compare_dots d (dots_of (take (count * dot_size) s))) ++ drop (count * dot_size) s
      held_bytes small =
          rw (once, dots-read (take (count * dot_size) s) (bytes_take s (count * dot_size) (λ i. (small i).fits)) (rw front-size (omega arith)))
          (sym (take-append-drop (count * dot_size) s))

    -- it is not
    module _ (no : r ≡ false) where
      pub new-count : count + 1 ≡ length (insert compare_dots d (dots_of (take (count * dot_size) s)))
      new-count = rw (length_insert_new d (dots_of (take (count * dot_size) s)) (sym held ∙ no), dots-count)

      pub new-room : (x : List ℕ) (n : ℕ) → x ≡ dot_bytes d → n ≡ length s → length (insert compare_dots d (dots_of (take (count * dot_size) s))) ≤ tombstone_most → count * dot_size + length x ≤ n
      new-room x n e same room = omega (arith, new-count, ap length e ∙ length-dot d)

      module _ (p : ℕ) (low : p * dot_size ≤ length (take (count * dot_size) s)) where
        pub place-fits : Fits w64 (p * dot_size)
        place-fits = omega (arith, low, front-size)

        pub place-within : p * dot_size ≤ count * dot_size
        place-within = omega (arith, low, front-size)

        pub new-bytes : p ≡ place_of d (dots_of (take (count * dot_size) s)) → ((i : ℕ) → Fits w8 (get_or s i 0)) → (x s' : List ℕ) → x ≡ dot_bytes d → s' ≡ inserted_at s (count * dot_size) (p * dot_size) x
            → s' ≡ dots_bytes (insert compare_dots d (dots_of (take (count * dot_size) s))) ++ drop ((count + 1) * dot_size) s
        unfolding inserted_at dots_bytes
        new-bytes placed small x s' e f =
            let front : List ℕ = take (count * dot_size) s in
            let bytes : AreBytes front = bytes_take s (count * dot_size) (λ i. (small i).fits) in
            let first : dots_bytes (dots_of (take (p * dot_size) front)) ≡ take (p * dot_size) s =
            dots-read (take (p * dot_size) front) (bytes_take front (p * dot_size) bytes) (rw (length-take-le (p * dot_size) front low) (omega arith))
            ∙ take-take (p * dot_size) (count * dot_size) s place-within in
            let rest : dots_bytes (dots_of (drop (p * dot_size) front)) ≡ part_at s (p * dot_size) (count * dot_size - p * dot_size) =
            dots-read (drop (p * dot_size) front) (bytes_drop front (p * dot_size) bytes) (rw (length-drop, front-size) (omega (arith, place-within)))
            ∙ drop-take (p * dot_size) (count * dot_size) s in
            let end : count * dot_size + length (dot_bytes d) ≡ (count + 1) * dot_size = rw length-dot (omega arith) in
            f ∙ rw (e, insert-around d front p low placed (sym held ∙ no), dots-append, first, rest, end, append_assoc, append_assoc)
