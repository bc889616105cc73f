-- The merge of two sides, label by label: what it keeps of the lowest label, then what it keeps of the others. Assumes nothing.
use mathlib.Core.Path.{◌≡◌, refl, sym, ap, ◌∙◌, subst}
use mathlib.Core.Logic.{◌⊎◌, inl, inr, ⊎_elim, ⊎_map}
use mathlib.Core.List.Memᴰ
use mathlib.Core.List.{List, [], ◌∷◌, ◌++◌}
use Prim.Native.Nat.{Ordering}
use Rattle.wire.specs.Lists.{◌∈◌, keep, then, Less, Ascending}
use Rattle.wire.specs.Bytes.{compare_bytes}
use Rattle.wire.proofs.Lists.{member-append, keep-member, member-keep, irreflexive, ascending-keep, ascending_unique}
use Rattle.wire.proofs.Orders.{bytes_lawful}
use Rattle.dots.specs.declared.Dot.{Dot}
use Rattle.dots.specs.Names.{Label}
use Rattle.dots.specs.Dots.{compare_dots}
use Rattle.dots.specs.Entries.{Entry, compare_entries, lines_of}
use Rattle.dots.proofs.Orders.{entries}
use Rattle.dots.proofs.Lines.{lines-append}
use Rattle.listing.proofs.LineWalks.{up_rest}
use Rattle.replica.specs.Clock.{ClockModel}
use Rattle.replica.proofs.Merges.{Beside, merged-member, merged-ascends}
use Rattle.replica.proofs.Walk.{live_key, side_of, merged_from}

-- ---- ascending lists end to end

module _ {A : Type 0} (compare : A → A → Ordering) where
  up_front : (xs ys : List A) → Ascending compare (xs ++ ys) → Ascending compare xs
  up_front [] ys up = tt
  up_front (x ∷ xs) ys up = (λ z m. up.0 z (Memᴰ.append_left ys m), up_front xs ys up.1)

  up_both : (xs ys : List A) → Ascending compare xs → Ascending compare ys → ((x y : A) → x ∈ xs → y ∈ ys → Less compare x y) → Ascending compare (xs ++ ys)
  up_both [] ys up up' low = up'
  up_both (x ∷ xs) ys up up' low =
      (λ z m. ⊎_elim (up.0 z) (low x z (Memᴰ.head refl)) (member-append.0 m), up_both xs ys up.1 up' (λ a b m. low a b (Memᴰ.tail m)))

-- ---- one side beside the other

-- entries of a label, and of higher ones
abbrev pub OfLabel : Label → List Entry → Type 0
OfLabel l es = (e : Entry) → e ∈ es → e.label ≡ l

abbrev pub AboveLabel : Label → List Entry → Type 0
AboveLabel l es = (e : Entry) → e ∈ es → Less compare_bytes l e.label

pub apart : {l : Label} {es fs : List Entry} → OfLabel l es → AboveLabel l fs → (e : Entry) → e ∈ es → e ∈ fs → ⊥
apart {l} here later e m k = irreflexive compare_bytes bytes_lawful l (subst (Less compare_bytes l) (here e m) (later e k))

-- what is kept is stored by either
module _ (C : ClockModel) (v w : C.Clock) (dead dead' : List Dot) (xs ys : List Entry) where
  kept-stored : (e : Entry) → e ∈ merged_from C v w dead dead' xs ys → (e ∈ xs) ⊎ (e ∈ ys)
  kept-stored e m = ⊎_map (λ b. (keep-member (live_key dead) xs b.0).0) (λ b. (keep-member (live_key dead') ys b.0).0) ((merged-member C (side_of C v dead xs) (side_of C w dead' ys) e).0 m)

  pub merged-label : (l : Label) → OfLabel l xs → OfLabel l ys → OfLabel l (merged_from C v w dead dead' xs ys)
  merged-label l here here' e m = ⊎_elim (here e) (here' e) (kept-stored e m)

  merged-above : (l : Label) → AboveLabel l xs → AboveLabel l ys → AboveLabel l (merged_from C v w dead dead' xs ys)
  merged-above l later later' e m = ⊎_elim (later e) (later' e) (kept-stored e m)

module _ (C : ClockModel) (l : Label) (v w : C.Clock) (dead dead' : List Dot) (xs xs' ys ys' : List Entry)
    (here : OfLabel l xs) (here' : OfLabel l ys) (later : AboveLabel l xs') (later' : AboveLabel l ys') where
  beside_split : (e : Entry) → Beside C (side_of C v dead (xs ++ xs')) (side_of C w dead' (ys ++ ys')) e
      → Beside C (side_of C v dead xs) (side_of C w dead' ys) e ⊎ Beside C (side_of C v dead xs') (side_of C w dead' ys') e
  beside_split e b =
      let k = keep-member (live_key dead) (xs ++ xs') b.0 in
      ⊎_map (λ m. (member-keep (live_key dead) xs m k.1, ⊎_map (first m) (λ u. u) b.1)) (λ m. (member-keep (live_key dead) xs' m k.1, ⊎_map (rest m) (λ u. u) b.1)) (member-append.0 k.0)
    where
      first : e ∈ xs → e ∈ keep (live_key dead') (ys ++ ys') → e ∈ keep (live_key dead') ys
      first m k =
          let j = keep-member (live_key dead') (ys ++ ys') k in
          member-keep (live_key dead') ys (⊎_elim (λ i. i) (λ i. absurd (apart here later' e m i)) (member-append.0 j.0)) j.1

      rest : e ∈ xs' → e ∈ keep (live_key dead') (ys ++ ys') → e ∈ keep (live_key dead') ys'
      rest m k =
          let j = keep-member (live_key dead') (ys ++ ys') k in
          member-keep (live_key dead') ys' (⊎_elim (λ i. absurd (apart here' later e i m)) (λ i. i) (member-append.0 j.0)) j.1

-- one that lists more
live-front : (dead : List Dot) (xs ys : List Entry) (e : Entry) → e ∈ keep (live_key dead) xs → e ∈ keep (live_key dead) (xs ++ ys)
live-front dead xs ys e m = let k = keep-member (live_key dead) xs m in member-keep (live_key dead) (xs ++ ys) (Memᴰ.append_left ys k.0) k.1

live-rest : (dead : List Dot) (xs ys : List Entry) (e : Entry) → e ∈ keep (live_key dead) ys → e ∈ keep (live_key dead) (xs ++ ys)
live-rest dead xs ys e m = let k = keep-member (live_key dead) ys m in member-keep (live_key dead) (xs ++ ys) (Memᴰ.append_right xs k.0) k.1

-- ---- label by label

module _ (C : ClockModel) (l : Label) (v w : C.Clock) (dead dead' : List Dot) (xs xs' ys ys' : List Entry)
    (here : OfLabel l xs) (here' : OfLabel l ys) (later : AboveLabel l xs') (later' : AboveLabel l ys') (up : Ascending compare_entries (ys ++ ys')) where
  abbrev whole : List Entry
  whole = merged_from C v w dead dead' (xs ++ xs') (ys ++ ys')

  abbrev front : List Entry
  front = merged_from C v w dead dead' xs ys

  abbrev rest : List Entry
  rest = merged_from C v w dead dead' xs' ys'

  ascends : (zs zs' : List Entry) → Ascending compare_entries zs' → Ascending compare_entries (merged_from C v w dead dead' zs zs')
  ascends zs zs' u = merged-ascends C (side_of C v dead zs) (side_of C w dead' zs') (ascending-keep compare_entries entries (live_key dead') zs' u)

  pub merged-split : whole ≡ front ++ rest
  merged-split =
      ascending_unique compare_entries entries whole (front ++ rest) (ascends (xs ++ xs') (ys ++ ys') up)
      (up_both compare_entries front rest (ascends xs ys (up_front compare_entries ys ys' up)) (ascends xs' ys' (up_rest ys ys' up)) lower) to from
    where
      lower : (x y : Entry) → x ∈ merged_from C v w dead dead' xs ys → y ∈ merged_from C v w dead dead' xs' ys' → Less compare_entries x y
      lower x y m k =
          let same = merged-label C v w dead dead' xs ys l here here' x m in
          let above = merged-above C v w dead dead' xs' ys' l later later' y k in
          ap (λ o. then o (compare_dots x.dot y.dot)) (ap (λ (a : Label). compare_bytes a y.label) same ∙ above)

      to : (e : Entry) → e ∈ merged_from C v w dead dead' (xs ++ xs') (ys ++ ys') → e ∈ merged_from C v w dead dead' xs ys ++ merged_from C v w dead dead' xs' ys'
      to e m =
          member-append.1
          (⊎_elim
          (λ b. ⊎_map (λ c. (merged-member C (side_of C v dead xs) (side_of C w dead' ys) e).1 (inl c)) (λ c. (merged-member C (side_of C v dead xs') (side_of C w dead' ys') e).1 (inl c))
          (beside_split C l v w dead dead' xs xs' ys ys' here here' later later' e b))
          (λ b. ⊎_map (λ c. (merged-member C (side_of C v dead xs) (side_of C w dead' ys) e).1 (inr c)) (λ c. (merged-member C (side_of C v dead xs') (side_of C w dead' ys') e).1 (inr c))
          (beside_split C l w v dead' dead ys ys' xs xs' here' here later' later e b))
          ((merged-member C (side_of C v dead (xs ++ xs')) (side_of C w dead' (ys ++ ys')) e).0 m))

      from : (e : Entry) → e ∈ merged_from C v w dead dead' xs ys ++ merged_from C v w dead dead' xs' ys' → e ∈ merged_from C v w dead dead' (xs ++ xs') (ys ++ ys')
      from e m =
          (merged-member C (side_of C v dead (xs ++ xs')) (side_of C w dead' (ys ++ ys')) e).1
          (⊎_elim
          (λ k. ⊎_map (λ b. (live-front dead xs xs' e b.0, ⊎_map (live-front dead' ys ys' e) (λ u. u) b.1)) (λ b. (live-front dead' ys ys' e b.0, ⊎_map (live-front dead xs xs' e) (λ u. u) b.1))
          ((merged-member C (side_of C v dead xs) (side_of C w dead' ys) e).0 k))
          (λ k. ⊎_map (λ b. (live-rest dead xs xs' e b.0, ⊎_map (live-rest dead' ys ys' e) (λ u. u) b.1)) (λ b. (live-rest dead' ys ys' e b.0, ⊎_map (live-rest dead xs xs' e) (λ u. u) b.1))
          ((merged-member C (side_of C v dead xs') (side_of C w dead' ys') e).0 k))
          (member-append.0 m))

  -- so the lines of both
  pub merged_lines_split : lines_of whole ≡ lines_of front ++ lines_of rest
  merged_lines_split =
      ap lines_of merged-split
      ∙ lines-append front rest
      (λ e k m n q.
      let above = merged-above C v w dead dead' xs' ys' l later later' k n in
      irreflexive compare_bytes bytes_lawful l (subst (Less compare_bytes l) (sym q ∙ merged-label C v w dead dead' xs ys l here here' e m) above))
