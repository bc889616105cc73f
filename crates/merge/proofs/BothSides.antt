-- Two tombstones end to end, with one table of slots. Assumes nothing.
use mathlib.Core.Path.{◌≡◌, sym, ap, ap₂, ◌∙◌, subst}
use mathlib.Core.Bool.{true}
use mathlib.Core.List.Memᴰ
use mathlib.Core.List.{List, ◌++◌}
use Prim.Native.Nat.{ℕ, ◌+◌, ◌*◌, ◌≤◌}
use native.Mathlib.Omega.{arith}
use lib.ListN.{length, take, drop, length-append}
use lib.Seq.{take_at, drop_at}
use Rattle.wire.specs.Lists.{◌∈◌, member}
use Rattle.wire.specs.Bytes.{Bytes, put_at}
use Rattle.wire.proofs.Tests.{pass, holds}
use Rattle.wire.proofs.Lists.{member-sound, member-complete}
use Rattle.wire.proofs.Fields.{put_next, put_front}
use Rattle.dots.specs.declared.Dot.{Dot}
use Rattle.dots.specs.Dots.{compare_dots, ascending_dots}
use Rattle.dots.specs.Wire.{dots_of, dot_size}
use Rattle.dots.proofs.Orders.{dots as dots_order}
use Rattle.contexts.proofs.Places.{dots-around}
use Rattle.slots.specs.Slots.{Slotted}
use Rattle.merge.specs.Kept.{sides_of, EndToEnd}

-- fewer dots
fewer_slotted : (ds es : List Dot) (slots : Bytes) → ((d : Dot) → d ∈ ds → d ∈ es) → Slotted es slots → Slotted ds slots
fewer_slotted ds es slots among k = record {
  sized = k.sized;
  each_set = λ d m. k.each_set d (holds (member compare_dots d es) (member-complete compare_dots dots_order es (among d (member-sound compare_dots dots_order ds (pass m)))));
}

-- the slots of two tombstones that are set together
pub record BothSlotted (dead dead' : Bytes) (slots : Bytes) : Type 0 where
  pub first_slotted : Slotted (dots_of dead) slots
  pub second_slotted : Slotted (dots_of dead') slots

pub both_slotted : (dead : Bytes) (split : ℕ) (slots : Bytes) → EndToEnd dead split → Slotted (dots_of dead) slots → BothSlotted (take split dead) (drop split dead) slots
both_slotted dead split slots e k =
    let ds : List Dot = dots_of (take split dead) in
    let es : List Dot = dots_of (drop split dead) in
    let w = e.within in
    let around : dots_of dead ≡ ds ++ es = rw e.splits (dots-around dead e.count (omega (arith, e.splits))) in
    record {
      first_slotted = fewer_slotted ds (dots_of dead) slots (λ d m. subst (λ (x : List Dot). d ∈ x) (sym around) (Memᴰ.append_left es m)) k;
      second_slotted = fewer_slotted es (dots_of dead) slots (λ d m. subst (λ (x : List Dot). d ∈ x) (sym around) (Memᴰ.append_right ds m)) k;
    }

-- two tombstones put into a buffer, the second after the first
module _ (first second : Bytes) (count count' : ℕ) (sized : length first ≡ count * dot_size) (sized' : length second ≡ count' * dot_size) (zeros dead dead' : Bytes) (split end : ℕ)
    (room : count * dot_size + count' * dot_size ≤ length zeros) (put : dead ≡ put_at zeros 0 first) (next : split ≡ 0 + count * dot_size) (put' : dead' ≡ put_at dead split second)
    (last : end ≡ split + count' * dot_size) where
  whole : take end dead' ≡ first ++ second
  whole =
      ap (take end) (put_next zeros dead dead' first second 0 split put (omega arith) put' (omega arith) ∙ put_front zeros (first ++ second))
      ∙ take_at (first ++ second) (drop (length (first ++ second)) zeros) end (omega (arith, length-append first second))

  front : take split (take end dead') ≡ first
  front = ap (take split) whole ∙ take_at first second split (omega arith)

  rest : drop split (take end dead') ≡ second
  rest = ap (drop split) whole ∙ drop_at first second split (omega arith)

  pub sides_are : (here there : List ℕ) → sides_of (take end dead') split here there ≡ record { tombstone = first; words = here; tombstone' = second; words' = there }
  sides_are here there = ap₂ (λ (x y : Bytes). record { tombstone = x; words = here; tombstone' = y; words' = there }) front rest

  pub end_to_end_lem : ascending_dots (dots_of first) ≡ true → ascending_dots (dots_of second) ≡ true → EndToEnd (take end dead') split
  end_to_end_lem f g = record {
    count = count;
    splits = omega arith;
    within = omega (arith, ap length whole, length-append first second);
    first-ascends = rw front f;
    second-ascends = rw rest g;
  }
