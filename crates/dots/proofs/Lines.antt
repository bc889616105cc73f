-- Lines of a listing: their labels, their entries, their order. Assumes nothing.
use mathlib.Core.Path.{◌≡◌, refl, sym, ◌∙◌, ap, subst}
use mathlib.Core.Logic.{◌↔◌, ◌⊎◌, inl, inr, ⊎_map}
use mathlib.Core.Bool.{Bool, true, false}
use mathlib.Core.List.Memᴰ
use mathlib.Core.List.{List, [], ◌∷◌, ◌++◌, map, flat_map}
use lib.Dec.{compare_is_eq}
use Rattle.wire.specs.Lists.{◌∈◌, Less, Ascending}
use Rattle.wire.specs.Bytes.{compare_bytes}
use Rattle.wire.proofs.Tests.{pass, fail}
use Rattle.wire.proofs.Lists.{tie-is, member_cons}
use Rattle.wire.proofs.Orders.{then_lt, bytes_lawful}
use Rattle.dots.specs.declared.Dot.{Dot}
use Rattle.dots.specs.Names.{Label}
use Rattle.dots.specs.Dots.{compare_dots}
use Rattle.dots.specs.Entries.{Entry, entry, Line, compare_entries, prepend_to, prepend, lines_of, line_labels, entries_of}

prepend-label : (l : Label) (e : Entry) (rs : List Line) → (l ∈ line_labels (prepend e rs)) ↔ ((l ≡ e.label) ⊎ (l ∈ line_labels rs))
unfolding prepend
prepend-label l e [] = (Memᴰ.cases_cons, member_cons)
prepend-label l e (r ∷ rs) = step (compare_is_eq (compare_bytes e.label r.label)) refl
  where
    one_line : e.label ≡ r.label → (l ≡ e.label) ⊎ (l ∈ line_labels (r ∷ rs)) → l ∈ line_labels (r ∷ rs)
    one_line q (inl p) = Memᴰ.head (p ∙ q)
    one_line q (inr m) = m

    step : (b : Bool) → compare_is_eq (compare_bytes e.label r.label) ≡ b
        → (l ∈ line_labels (prepend_to b e r rs)) ↔ ((l ≡ e.label) ⊎ (l ∈ line_labels (r ∷ rs)))
    step true q = (inr, one_line (bytes_lawful.tie e.label r.label (tie-is (compare_bytes e.label r.label) (pass q))))
    step false q = (Memᴰ.cases_cons, member_cons)

pub label_of_line : (l : Label) (es : List Entry) → l ∈ line_labels (lines_of es) → (e : Entry) × (e ∈ es) × (l ≡ e.label)
unfolding lines_of
label_of_line l [] m = absurd (Memᴰ.not-nil m)
label_of_line l (e ∷ es) m = step (label_of_line l es) ((prepend-label l e (lines_of es)).0 m)
  where
    step : (l ∈ line_labels (lines_of es) → (k : Entry) × (k ∈ es) × (l ≡ k.label)) → (l ≡ e.label) ⊎ (l ∈ line_labels (lines_of es)) → (k : Entry) × (k ∈ e ∷ es) × (l ≡ k.label)
    step below (inl q) = (e, Memᴰ.head refl, q)
    step below (inr m') = let w = below m' in (w.0, Memᴰ.tail w.1, w.2)

pub line_of_label : (es : List Entry) (e : Entry) → e ∈ es → e.label ∈ line_labels (lines_of es)
unfolding lines_of
line_of_label [] e m = absurd (Memᴰ.not-nil m)
line_of_label (k ∷ es) e m = (prepend-label e.label k (lines_of es)).1 (⊎_map (ap (λ (x : Entry). x.label)) (line_of_label es e) (Memᴰ.cases_cons m))

entries-prepend : (e : Entry) (rs : List Line) → entries_of (prepend e rs) ≡ e ∷ entries_of rs
unfolding prepend flat_map
entries-prepend e [] = refl
entries-prepend e (r ∷ rs) = step (compare_is_eq (compare_bytes e.label r.label)) refl
  where
    step : (b : Bool) → compare_is_eq (compare_bytes e.label r.label) ≡ b
        → entries_of (prepend_to b e r rs) ≡ e ∷ entries_of (r ∷ rs)
    step true q = ap (λ l. entry l e.dot ∷ entries_of (r ∷ rs)) (sym (bytes_lawful.tie e.label r.label (tie-is (compare_bytes e.label r.label) (pass q))))
    step false q = refl

pub entries-lines : (es : List Entry) → entries_of (lines_of es) ≡ es
unfolding lines_of flat_map
entries-lines [] = refl
entries-lines (e ∷ es) = entries-prepend e (lines_of es) ∙ ap (λ ks. e ∷ ks) (entries-lines es)

prepend-ascends : (e : Entry) (rs : List Line) → Ascending compare_bytes (line_labels rs)
    → ((l : Label) → l ∈ line_labels rs → Less compare_bytes e.label l ⊎ (e.label ≡ l)) → Ascending compare_bytes (line_labels (prepend e rs))
unfolding prepend
prepend-ascends e [] up low = (λ l m. absurd (Memᴰ.not-nil m), tt)
prepend-ascends e (r ∷ rs) up low = step (compare_is_eq (compare_bytes e.label r.label)) refl
  where
    first : compare_is_eq (compare_bytes e.label r.label) ≡ false → Less compare_bytes e.label r.label ⊎ (e.label ≡ r.label) → Less compare_bytes e.label r.label
    first q (inl h) = h
    first q (inr p) = absurd (fail q (pass (ap compare_is_eq (ap (compare_bytes e.label) (sym p) ∙ bytes_lawful.self e.label))))

    all : Less compare_bytes e.label r.label → (l : Label) → (l ≡ r.label) ⊎ (l ∈ line_labels rs) → Less compare_bytes e.label l
    all h l (inl p) = ap (compare_bytes e.label) p ∙ h
    all h l (inr m) = bytes_lawful.chain e.label r.label l h (up.0 l m)

    step : (b : Bool) → compare_is_eq (compare_bytes e.label r.label) ≡ b
        → Ascending compare_bytes (line_labels (prepend_to b e r rs))
    step true q = up
    step false q = (λ l m. all (first q (low r.label (Memᴰ.head refl))) l (Memᴰ.cases_cons m), up)

pub lines-ascend : (es : List Entry) → Ascending compare_entries es → Ascending compare_bytes (line_labels (lines_of es))
unfolding lines_of
lines-ascend [] up = tt
lines-ascend (e ∷ es) up = prepend-ascends e (lines_of es) (lines-ascend es up.1) low
  where
    low : (l : Label) → l ∈ line_labels (lines_of es) → Less compare_bytes e.label l ⊎ (e.label ≡ l)
    low l m =
        let w = label_of_line l es m in
        ⊎_map (λ h. ap (compare_bytes e.label) w.2 ∙ h) (λ h. bytes_lawful.tie e.label w.0.label h.0 ∙ sym w.2)
        (then_lt (compare_bytes e.label w.0.label) (compare_dots e.dot w.0.dot) (up.0 w.0 w.1))

abbrev Filled : Line → Type 0
Filled r = (d : Dot) × (d ∈ r.dots)

prepend-filled : (e : Entry) (rs : List Line) → ((k : Line) → k ∈ rs → Filled k) → (r : Line) → r ∈ prepend e rs → Filled r
unfolding prepend
prepend-filled e [] below r m = subst Filled (sym (Memᴰ.eq_of_singleton m)) (e.dot, Memᴰ.head refl)
prepend-filled e (t ∷ ts) below r m = step (compare_is_eq (compare_bytes e.label t.label)) m
  where
    -- a row whose first dot is the entry's, or a later one
    front : {ds : List Dot} {l : Label} {us : List Line} → ((k : Line) → k ∈ us → Filled k) → (r ≡ record { label = l; dots = e.dot ∷ ds }) ⊎ (r ∈ us) → Filled r
    front other (inl q) = subst Filled (sym q) (e.dot, Memᴰ.head refl)
    front other (inr k) = other r k

    step : (b : Bool) → r ∈ prepend_to b e t ts → Filled r
    step true k = front (λ u n. below u (Memᴰ.tail n)) (Memᴰ.cases_cons k)
    step false k = front below (Memᴰ.cases_cons k)

pub lines-filled : (es : List Entry) (r : Line) → r ∈ lines_of es → Filled r
unfolding lines_of
lines-filled [] r m = absurd (Memᴰ.not-nil m)
lines-filled (e ∷ es) r m = prepend-filled e (lines_of es) (lines-filled es) r m

pub lines_of_label : (l : Label) (d : Dot) (ds : List Dot) → lines_of (map (entry l) (d ∷ ds)) ≡ record { label = l; dots = d ∷ ds } ∷ []
unfolding lines_of prepend
lines_of_label l d [] = refl
lines_of_label l d (c ∷ cs) = rw (lines_of_label l c cs, ap compare_is_eq (bytes_lawful.self l))

-- an entry of another label than all lines
pub new_line : (e : Entry) (rs : List Line) → (e.label ∈ line_labels rs → ⊥) → prepend e rs ≡ record { label = e.label; dots = e.dot ∷ [] } ∷ rs
unfolding prepend
new_line e [] n = refl
new_line e (r ∷ rs) n = by-test (compare_is_eq (compare_bytes e.label r.label)) refl
  where
    by-test : (b : Bool) → compare_is_eq (compare_bytes e.label r.label) ≡ b → prepend_to b e r rs ≡ record { label = e.label; dots = e.dot ∷ [] } ∷ r ∷ rs
    by-test true q = absurd (n (Memᴰ.head (bytes_lawful.tie e.label r.label (tie-is (compare_bytes e.label r.label) (pass q)))))
    by-test false q = refl

pub lines-append : (es ks : List Entry) → ((e k : Entry) → e ∈ es → k ∈ ks → e.label ≡ k.label → ⊥) → lines_of (es ++ ks) ≡ lines_of es ++ lines_of ks
unfolding lines_of prepend
lines-append [] ks apart = refl
lines-append (e ∷ es) ks apart = ap (prepend e) (lines-append es ks (λ x k m. apart x k (Memᴰ.tail m))) ∙ split (lines_of es)
  where
    into_line : (b : Bool) (r : Line) (rs us : List Line) → prepend_to b e r (rs ++ us) ≡ prepend_to b e r rs ++ us
    into_line true r rs us = refl
    into_line false r rs us = refl

    split : (rs : List Line) → prepend e (rs ++ lines_of ks) ≡ prepend e rs ++ lines_of ks
    split [] = new_line e (lines_of ks) (λ m. let w = label_of_line e.label ks m in apart e w.0 (Memᴰ.head refl) w.1 w.2)
    split (r ∷ rs) = into_line (compare_is_eq (compare_bytes e.label r.label)) r rs (lines_of ks)
