-- Pages of lines that ascend by label: what a page means, and that pages joined are all the lines. Assumes nothing.
use Prim.Native.Nat.{ℕ, ◌+◌, ◌-◌, ◌≤◌, ◌<◌}
use mathlib.Core.Path.{◌≡◌, refl, sym, ap, ◌∙◌, subst}
use mathlib.Core.Logic.{◌↔◌}
use mathlib.Core.Bool.{Bool, true, false, not, cond, ◌||◌}
use mathlib.Core.List.Memᴰ
use mathlib.Core.List.{List, [], ◌∷◌, ◌++◌, cons≢nil, head-eq_of_cons-eq, tail-eq_of_cons-eq}
use native.Mathlib.Omega.{arith}
use lib.Dec.{T, leb, ltb}
use lib.ListN.{length, length-append}
use borrow.Author.Tests.{leb-true, leb-false, ltb-false, le-ltb}
use Rattle.wire.specs.Lists.{◌∈◌, cons_if, keep, compare_lists, Less, Ascending}
use Rattle.wire.specs.Bytes.{compare_bytes}
use Rattle.wire.proofs.Tests.{untrue, holds, T_both}
use Rattle.wire.proofs.Lists.{lt_is, keep-member, keep_all, irreflexive}
use Rattle.wire.proofs.Orders.{bytes_lawful}
use Rattle.dots.specs.Names.{Label}
use Rattle.dots.specs.Entries.{Line, line_labels}
use Rattle.replica.specs.Page.{is_after, lines_after, last_label, fitting, sizes, first_fits, page_after, page_fits, page_more, next_start, PageMeans, joined_pages, reach_end, PagesJoin}

abbrev Up : List Line → Type 0
Up ls = Ascending compare_bytes (line_labels ls)

-- ---- what comes after the last label of a page is what follows it

all_after : (start : Label) (ls : List Line) → ((l : Line) → l ∈ ls → Less compare_bytes start l.label) → lines_after start ls ≡ ls
all_after start ls low = keep_all (λ (l : Line). is_after start l.label) ls (λ l m. rw (low l m))

after_first : (start : Label) (l : Line) (rest ls : List Line) → Up ls → lines_after start ls ≡ l ∷ rest → lines_after l.label ls ≡ rest
unfolding keep
after_first start l rest [] up e = absurd (cons≢nil (sym e))
after_first start l rest (k ∷ ls) up e = by (is_after start k.label) refl e (after_first start l rest ls up.1)
  where
    above : (x : Line) → x ∈ ls → Less compare_bytes k.label x.label
    above x m = up.0 x.label (Memᴰ.map (λ (y : Line). y.label) m)

    by : (b : Bool) → is_after start k.label ≡ b → cons_if b k (lines_after start ls) ≡ l ∷ rest → (lines_after start ls ≡ l ∷ rest → lines_after l.label ls ≡ rest)
        → cons_if (is_after l.label k.label) k (lines_after l.label ls) ≡ rest
    by true f c below =
        let others : lines_after k.label ls ≡ ls = all_after k.label ls above in
        let all : lines_after start ls ≡ ls = all_after start ls (λ x m. bytes_lawful.chain start k.label x.label (lt_is _ f) (above x m)) in
        subst (λ (x : Line). cons_if (is_after x.label k.label) k (lines_after x.label ls) ≡ rest) (head-eq_of_cons-eq c)
        (rw (bytes_lawful.self k.label) (others ∙ sym all ∙ tail-eq_of_cons-eq c))
    by false f c below =
        let here : l ∈ ls = (keep-member (λ (x : Line). is_after start x.label) ls (subst (λ xs. l ∈ xs) (sym c) (Memᴰ.head refl))).0 in
        let not_after : is_after l.label k.label ≡ false =
        untrue _ (λ t. irreflexive compare_bytes bytes_lawful k.label (bytes_lawful.chain k.label l.label k.label (above l here) (lt_is _ t))) in
        rw not_after (below c)

after_last : (ls : List Line) → Up ls → (start : Label) (xs ys : List Line) → lines_after start ls ≡ xs ++ ys → lines_after (last_label start xs) ls ≡ ys
unfolding last_label
after_last ls up start [] ys e = e
after_last ls up start (x ∷ xs) ys e = after_last ls up x.label xs ys (after_first start x (xs ++ ys) ls up e)

-- ---- as many as fit

module _ (size : Line → ℕ) where
  -- those that do not
  left : ℕ → List Line → List Line
  left room [] = []
  left room (l ∷ ls) =
      let further = left (room - size l) ls in
      cond (leb (size l) room) further (l ∷ ls)

  cut-here : (room : ℕ) (ls : List Line) → ls ≡ fitting size room ls ++ left room ls
  unfolding fitting left
  cut-here room [] = refl
  cut-here room (l ∷ ls) = by (leb (size l) room) (cut-here (room - size l) ls)
    where
      by : (b : Bool) → ls ≡ fitting size (room - size l) ls ++ left (room - size l) ls
          → l ∷ ls ≡ cond b (l ∷ fitting size (room - size l) ls) [] ++ cond b (left (room - size l) ls) (l ∷ ls)
      by true ih = ap (λ zs. l ∷ zs) ih
      by false ih = refl

  within : (room : ℕ) (ls : List Line) → sizes size (fitting size room ls) ≤ room
  unfolding fitting sizes
  within room [] = omega arith
  within room (l ∷ ls) = by (leb (size l) room) refl (within (room - size l) ls)
    where
      by : (b : Bool) → leb (size l) room ≡ b → sizes size (fitting size (room - size l) ls) ≤ room - size l → sizes size (cond b (l ∷ fitting size (room - size l) ls) []) ≤ room
      by true e ih = let h = leb-true (size l) room e in omega arith
      by false e ih = omega arith

  full : (room : ℕ) (ls : List Line) (l : Line) (rest : List Line) → left room ls ≡ l ∷ rest → room < sizes size (fitting size room ls) + size l
  unfolding fitting sizes left
  full room [] l rest e = absurd (cons≢nil (sym e))
  full room (k ∷ ls) l rest e = by (leb (size k) room) refl e (full (room - size k) ls l rest)
    where
      by : (b : Bool) → leb (size k) room ≡ b → cond b (left (room - size k) ls) (k ∷ ls) ≡ l ∷ rest
          → (left (room - size k) ls ≡ l ∷ rest → room - size k < sizes size (fitting size (room - size k) ls) + size l)
          → room < sizes size (cond b (k ∷ fitting size (room - size k) ls) []) + size l
      by true q f ih = let h = ih f in let g = leb-true (size k) room q in omega arith
      by false q f ih = let h = leb-false (size k) room q in let g = ap size (head-eq_of_cons-eq f) in omega arith

  starts : (room : ℕ) (ls : List Line) → T (first_fits size room ls) → (ls ≡ [] → ⊥) → fitting size room ls ≡ [] → ⊥
  unfolding fitting first_fits
  starts room [] t some e = some refl
  starts room (l ∷ ls) t some e = cons≢nil (sym (ap (λ (b : Bool). cond b (l ∷ fitting size (room - size l) ls) []) (holds (leb (size l) room) t)) ∙ e)

  none_left : (xs ys : List Line) → (ltb (length xs) (length (xs ++ ys)) ≡ false) ↔ (ys ≡ [])
  none_left xs ys = (
    λ f. let e = ltb-false (length xs) (length (xs ++ ys)) f in let g = length-append xs ys in empty ys (omega arith),
    λ e. le-ltb (length xs) (length (xs ++ ys)) (let g = length-append xs ys in let z = ap length e in omega arith),
  )
    where
      empty : (zs : List Line) → length zs ≡ 0 → zs ≡ []
      empty [] e = refl
      empty (z ∷ zs) e = absurd (omega arith)

  -- ---- pages of a listing

  module _ (ls : List Line) (up : Up ls) where
    pub page-means : (start : Label) (room : ℕ) → PageMeans size ls start room
    page-means start room = record {
      parts = cut ∙ ap (λ zs. page ++ zs) (sym rest-is);
      has_room = within room after;
      no_more = λ l rest e. full room after l rest (sym rest-is ∙ e);
      some-line = starts room after;
      ended_is = subst (λ zs. (ltb (length page) (length zs) ≡ false) ↔ (lines_after (next_start size ls start room) ls ≡ [])) (sym cut)
          (subst (λ zs. (ltb (length page) (length (page ++ left room after)) ≡ false) ↔ (zs ≡ [])) (sym rest-is) (none_left page (left room after)));
    }
      where
        after : List Line
        after = lines_after start ls

        page : List Line
        page = fitting size room after

        cut : after ≡ page ++ left room after
        cut = cut-here room after

        rest-is : lines_after (next_start size ls start room) ls ≡ left room after
        rest-is = after_last ls up start page (left room after) cut

    pages_after : (start : Label) (rooms : List ℕ) → T (reach_end size ls start rooms) → joined_pages size ls start rooms ≡ lines_after start ls
    unfolding reach_end joined_pages
    pages_after start [] t = absurd t
    pages_after start (room ∷ rooms) t =
        let further = (T_both (page_fits size ls start room) _ t).1 in
        ap (λ zs. page_after size ls start room ++ zs) (by (page_more size ls start room) refl further (pages_after next rooms)) ∙ sym (page-means start room).parts
      where
        next : Label
        next = next_start size ls start room

        by : (b : Bool) → page_more size ls start room ≡ b → T (not b || reach_end size ls next rooms)
            → (T (reach_end size ls next rooms) → joined_pages size ls next rooms ≡ lines_after next ls)
            → cond b (joined_pages size ls next rooms) [] ≡ lines_after next ls
        by true e u ih = ih u
        by false e u ih = sym ((page-means start room).ended_is.0 e)

    -- where no label is empty
    pub pages_join : ((l : Line) → l ∈ ls → l.label ≡ [] → ⊥) → PagesJoin size ls
    unfolding compare_lists
    pages_join filled rooms t = pages_after [] rooms t ∙ all_after [] ls (λ l m. front l.label (filled l m))
      where
        front : (l : Label) → (l ≡ [] → ⊥) → Less compare_bytes [] l
        front [] n = absurd (n refl)
        front (b ∷ bs) n = refl
