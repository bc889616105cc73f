-- In ascending keys `place_in` is a key's place: every key before it is lower, and none from it on is. Assumes nothing.
use Rattle.std.proofs.Common.{◌≡◌, ℕ, ◌+◌, Bool, true, false, cond, not, ◌⊎◌, List, [], ◌∷◌, length, sym, refl, ap, ◌∙◌, inl, inr, true≢false, length-append}
use mathlib.Core.List.Memᴰ
use Prim.Native.Nat.{Ordering}
use Rattle.wire.specs.Lists.{◌∈◌, all, is_lt, Less, Ascending, ascends}
use Rattle.wire.specs.Bytes.{Bytes, compare_bytes}
use Rattle.wire.proofs.Tests.{both, untrue}
use Rattle.wire.proofs.Lists.{Lawful, lt_is, irreflexive, ascends-ascending, member-all}
use Rattle.wire.proofs.Orders.{bytes_lawful}
use Rattle.dots.specs.Names.{Name}
use Rattle.store.specs.Cut.{end_to_end, keys_of}
use Rattle.store.specs.Valid.{used_ok}
use Rattle.store.specs.Place.{length_while, lower_than, place_in, Placed}

-- what comes after is not lower
pub not_lower : {A : Type 0} (compare : A → A → Ordering) (order : Lawful compare) (x y : A) → Less compare x y → is_lt (compare y x) ≡ false
not_lower compare order x y h = untrue (is_lt (compare y x)) (λ t. irreflexive compare order x (order.chain x y x h (lt_is (compare y x) t)))

-- ---- the place of a key

module _ (key : Bytes) where
  -- from a key on that is not lower, none is
  none-lower : (k : Bytes) (ks : List Bytes) → Ascending compare_bytes (k ∷ ks) → lower_than key k ≡ false → all (λ (l : Bytes). not (lower_than key l)) (k ∷ ks) ≡ true
  none-lower k ks up f = member-all (λ (l : Bytes). not (lower_than key l)) (k ∷ ks) (λ l m. ap not (not_lower_at l (Memᴰ.cases_cons m)))
    where
      not_lower_at : (l : Bytes) → (l ≡ k) ⊎ (l ∈ ks) → lower_than key l ≡ false
      not_lower_at l (inl e) = rw e f
      not_lower_at l (inr m) = untrue (lower_than key l) (λ t. true≢false (sym (ap is_lt (bytes_lawful.chain k l key (up.0 l m) (lt_is (compare_bytes l key) t))) ∙ f))

  placed_in : (ks : List Bytes) → Ascending compare_bytes ks → Placed key ks (place_in key ks)
  unfolding length_while end_to_end all
  placed_in [] up = record { before = []; after = []; whole = refl; at = refl; lower = refl; others = refl }
  placed_in (k ∷ ks) up = by-test (placed_in ks up.1) (lower_than key k) refl
    where
      by-test : Placed key ks (place_in key ks) → (b : Bool) → lower_than key k ≡ b → Placed key (k ∷ ks) (cond (lower_than key k) (length k + place_in key ks) 0)
      by-test p true e = rw e (record {
        before = k ∷ p.before;
        after = p.after;
        whole = ap (λ (t : List Bytes). k ∷ t) p.whole;
        at = length-append k (end_to_end p.before) ∙ ap (λ (n : ℕ). length k + n) p.at;
        lower = rw e p.lower;
        others = p.others;
      })
      by-test p false e = rw e (record { before = []; after = k ∷ ks; whole = refl; at = refl; lower = refl; others = none-lower k ks up e })

  pub placed : (ks : List Bytes) → ascends compare_bytes ks ≡ true → Placed key ks (place_in key ks)
  placed ks up = placed_in ks (ascends-ascending compare_bytes bytes_lawful ks up)

-- "In an undamaged store every key before the place is lower in plain byte order, and none from it on is."
pub place_law : (name : Name) (words : List ℕ) (used : Bytes) → used_ok name words used ≡ true → (key : Bytes) → Placed key (keys_of (length name) used) (place_in key (keys_of (length name) used))
unfolding used_ok
place_law name words used ok key = placed key (keys_of (length name) used) (search both)
