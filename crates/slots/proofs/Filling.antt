-- The slots of a list's dots, set one after the other. Assumes nothing.
use mathlib.Core.Path.{◌≡◌, refl, sym, ap, ◌∙◌}
use mathlib.Core.Logic.{◌⊎◌, inl, inr}
use mathlib.Core.Bool.{Bool, true, false, ◌||◌, false≢true}
use mathlib.Core.List.{List, [], ◌∷◌}
use Prim.Native.Nat.{ℕ, ◌<◌}
use native.Mathlib.Omega.{arith}
use lib.Dec.{eqb, compare_is_eq}
use lib.ListN.{length, set, replicate, length-set, length-replicate, get_or-replicate}
use lib.Seq.{get_or-set_same, get_or-set_other}
use borrow.Author.Tests.{eqb-true, eq-eqb}
use Rattle.wire.specs.Lists.{member}
use Rattle.wire.specs.Bytes.{Bytes, byte_at}
use Rattle.wire.proofs.Tests.{decided, untrue, pass}
use Rattle.wire.proofs.Lists.{tie-is}
use Rattle.dots.specs.declared.Dot.{Dot}
use Rattle.dots.specs.Dots.{compare_dots}
use Rattle.dots.proofs.Orders.{dots}
use Rattle.slots.specs.Slots.{slot_of, Slotted, slot_count}

pub slot_below : (d : Dot) → slot_of d < slot_count
unfolding slot_of
slot_below d = omega arith

-- with all slots set every list is slotted
pub all_slotted : (ds : List Dot) → Slotted ds (replicate slot_count 1)
all_slotted ds = record { sized = length-replicate {A = ℕ} slot_count 1; each_set = λ d m. get_or-replicate {A = ℕ} slot_count (slot_of d) 1 0 (slot_below d) }

-- each dot has its slot set, or is left
pub record Filled (ds left : List Dot) (slots : Bytes) : Type 0 where
  pub sized : length slots ≡ slot_count
  pub each_set : (d : Dot) → member compare_dots d ds ≡ true → (byte_at slots (slot_of d) ≡ 1) ⊎ (member compare_dots d left ≡ true)

pub fill_start : (ds left : List Dot) (slots : Bytes) → length slots ≡ slot_count → ds ≡ left → Filled ds left slots
fill_start ds left slots n e = record { sized = n; each_set = λ d m. inr (ap (member compare_dots d) (sym e) ∙ m) }

-- a slot that is set stays so
stays-set : (slots : Bytes) (at j : ℕ) → at < length slots → byte_at slots j ≡ 1 → byte_at (set slots at 1) j ≡ 1
stays-set slots at j h e = go (decided (eqb j at))
  where
    go : (eqb j at ≡ true) ⊎ (eqb j at ≡ false) → byte_at (set slots at 1) j ≡ 1
    go (inl t) = rw (eqb-true j at t) (get_or-set_same slots at 1 0 h)
    go (inr f) = get_or-set_other slots at j 1 0 (λ q. false≢true (sym f ∙ eq-eqb j at q)) ∙ e

module _ (ds left : List Dot) (slots : Bytes) (inv : Filled ds left slots) where
  -- one dot more
  pub fill_turn : (d : Dot) (more : List Dot) (at : ℕ) → left ≡ d ∷ more → at ≡ slot_of d → Filled ds more (set slots at 1)
  unfolding member
  fill_turn d more at e f = record { sized = length-set slots at 1 ∙ inv.sized; each_set = λ x m. go x (inv.each_set x m) }
    where
      inside : at < length slots
      inside = omega (arith, inv.sized, slot_below d)

      now-set : (x : Dot) → x ≡ d → byte_at (set slots at 1) (slot_of x) ≡ 1
      now-set x q = let same : slot_of x ≡ at = ap slot_of q ∙ sym f in rw same (get_or-set_same slots at 1 0 inside)

      first_or_left : (x : Dot) (b : Bool) → compare_is_eq (compare_dots x d) ≡ b → (b || member compare_dots x more) ≡ true → (byte_at (set slots at 1) (slot_of x) ≡ 1) ⊎ (member compare_dots x more ≡ true)
      first_or_left x true t m = inl (now-set x (dots.tie x d (tie-is (compare_dots x d) (pass t))))
      first_or_left x false t m = inr m

      go : (x : Dot) → (byte_at slots (slot_of x) ≡ 1) ⊎ (member compare_dots x left ≡ true) → (byte_at (set slots at 1) (slot_of x) ≡ 1) ⊎ (member compare_dots x more ≡ true)
      go x (inl q) = inl (stays-set slots at (slot_of x) inside q)
      go x (inr m) = first_or_left x (compare_is_eq (compare_dots x d)) refl (rw e at m)

  pub fill_end : left ≡ [] → Slotted ds slots
  unfolding member
  fill_end e = record { sized = inv.sized; each_set = λ d m. go d (inv.each_set d m) }
    where
      go : (d : Dot) → (byte_at slots (slot_of d) ≡ 1) ⊎ (member compare_dots d left ≡ true) → byte_at slots (slot_of d) ≡ 1
      go d (inl q) = q
      go d (inr m) = absurd (false≢true (rw e at m))

-- a dot whose slot is not set is not in the list
pub not_slotted : (ds : List Dot) (slots : Bytes) (d : Dot) (at : ℕ) → Slotted ds slots → at ≡ slot_of d → byte_at slots at ≡ 0 → false ≡ member compare_dots d ds
not_slotted ds slots d at s e z = sym (untrue (member compare_dots d ds) (λ m. omega (arith, s.each_set d m, ap (byte_at slots) e)))
