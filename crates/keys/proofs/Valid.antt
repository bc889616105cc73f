-- Keys that keep the rules, and what the rules say of their fields. Assumes nothing.
use mathlib.Core.Path.{◌≡◌, refl, sym, ap, subst}
use mathlib.Core.Bool.{true, cond}
use mathlib.Core.List.{[]}
use Prim.Native.Nat.{ℕ, ◌^◌, ◌≤◌, ◌<◌}
use native.Mathlib.Omega.{arith}
use lib.Dec.{leb}
use lib.ListN.{length}
use borrow.Author.Tests.{leb-true}
use Rattle.wire.specs.Lists.{all}
use Rattle.wire.proofs.Tests.{both}
use Rattle.dots.specs.Names.{Name, Label, name_most, label_most, text_ok, name_ok, label_ok}
use Rattle.dots.specs.Dots.{counter_ok, max_counter}
use Rattle.keys.specs.declared.KeyKind.{KeyKind}
use Rattle.keys.specs.declared.KeyKind.TheVariants.{ClockKey, TombstoneKey, LabelKey, EndKey}
use Rattle.keys.specs.Key.{Key, key_of, has_label, has_actor, names_ok, key_counter_ok}
use Rattle.keys.proofs.Texts.{text_nonzero}

-- the fields keep their rules, and those that the type lacks are empty or 0
pub record ValidKey (k : Key) : Type 0 where
  pub whole : k ≡ key_of k.kind k.name k.label k.actor k.counter
  pub names : names_ok k ≡ true
  pub counted : key_counter_ok k ≡ true

-- a key that `key_of` makes lacks what its type lacks
pub made-valid : (kind : KeyKind) (name : Name) (label : Label) (actor counter : ℕ) → names_ok (key_of kind name label actor counter) ≡ true → key_counter_ok (key_of kind name label actor counter) ≡ true
    → ValidKey (key_of kind name label actor counter)
made-valid kind name label actor counter names counted = record { whole = lacks kind; names = names; counted = counted }
  where
    lacks : (t : KeyKind) → key_of t name label actor counter ≡ key_of t name (cond (has_label t) label []) (cond (has_actor t) actor 0) (cond (has_label t) counter 0)
    lacks ClockKey = refl
    lacks TombstoneKey = refl
    lacks LabelKey = refl
    lacks EndKey = refl

-- names and labels are short
pub kept-short : (t : KeyKind) (name : Name) (label : Label) (actor counter : ℕ) → names_ok (key_of t name label actor counter) ≡ true → (length name ≤ name_most) × (length (cond (has_label t) label []) ≤ label_most)
unfolding names_ok text_ok
kept-short t name label actor counter ok = (leb-true (length name) name_most (search both), by_kind t (search both))
  where
    by_kind : (u : KeyKind) → cond (has_label u) (label_ok (cond (has_label u) label [])) true ≡ true → length (cond (has_label u) label []) ≤ label_most
    by_kind ClockKey h = omega arith
    by_kind TombstoneKey h = omega arith
    by_kind LabelKey h = leb-true (length label) label_most (search both)
    by_kind EndKey h = omega arith

module _ (k : Key) (valid : ValidKey k) where
  -- what the type has of a field is the field
  pub label_kept : cond (has_label k.kind) k.label [] ≡ k.label
  label_kept = sym (ap (λ (j : Key). j.label) valid.whole)

  pub actor-kept : cond (has_actor k.kind) k.actor 0 ≡ k.actor
  actor-kept = sym (ap (λ (j : Key). j.actor) valid.whole)

  pub counter-kept : cond (has_label k.kind) k.counter 0 ≡ k.counter
  counter-kept = sym (ap (λ (j : Key). j.counter) valid.whole)

  pub name-ok : name_ok k.name ≡ true
  unfolding names_ok
  name-ok = let names : names_ok k ≡ true = valid.names in search both

  pub name-nonzero : all (leb 1) k.name ≡ true
  name-nonzero = text_nonzero name_most k.name name-ok

  pub names-short : (length k.name ≤ name_most) × (length k.label ≤ label_most)
  names-short =
      let short = kept-short k.kind k.name k.label k.actor k.counter (subst (λ (j : Key). names_ok j ≡ true) valid.whole valid.names) in
      (short.0, rw label_kept at short.1)

  pub label-nonzero : all (leb 1) k.label ≡ true
  unfolding names_ok all
  label-nonzero = let names : names_ok k ≡ true = valid.names in rw (← label_kept) (by_kind k.kind (search both))
    where
      by_kind : (t : KeyKind) → cond (has_label t) (label_ok k.label) true ≡ true → all (leb 1) (cond (has_label t) k.label []) ≡ true
      by_kind ClockKey ok = refl
      by_kind TombstoneKey ok = refl
      by_kind LabelKey ok = text_nonzero label_most k.label ok
      by_kind EndKey ok = refl

  pub counter-fits : k.counter < 256 ^ 8
  unfolding key_counter_ok
  counter-fits = rw (← counter-kept) (by_kind k.kind valid.counted)
    where
      by_kind : (t : KeyKind) → cond (has_label t) (counter_ok k.counter) true ≡ true → cond (has_label t) k.counter 0 < 256 ^ 8
      by_kind ClockKey ok = omega arith
      by_kind TombstoneKey ok = omega arith
      by_kind LabelKey ok = omega (arith, leb-true k.counter max_counter (search both))
      by_kind EndKey ok = omega arith
