-- A test of labels: the lines of the entries that pass it are the lines that pass it. Assumes nothing.
use mathlib.Core.Path.{◌≡◌, refl, ap, ◌∙◌, subst}
use mathlib.Core.Bool.{Bool, true, false, cond}
use mathlib.Core.List.Memᴰ
use mathlib.Core.List.{List, [], ◌∷◌}
use lib.Dec.{compare_is_eq}
use Rattle.wire.specs.Lists.{◌∈◌, cons_if, keep, Less, Ascending}
use Rattle.wire.specs.Bytes.{compare_bytes}
use Rattle.wire.proofs.Tests.{pass}
use Rattle.wire.proofs.Lists.{tie-is, keep-member, irreflexive}
use Rattle.wire.proofs.Orders.{bytes_lawful}
use Rattle.dots.specs.Names.{Label}
use Rattle.dots.specs.Entries.{Entry, compare_entries, Line, line, prepend_to, prepend, lines_of, line_labels}
use Rattle.dots.proofs.Lines.{lines-ascend, new_line}

module _ (test : Label → Bool) where
  abbrev passing : List Line → List Line
  passing ls = keep (λ (l : Line). test l.label) ls

  -- an entry in front of lines
  with-entry : (e : Entry) (ls : List Line) → Ascending compare_bytes (line_labels (prepend e ls)) → cond (test e.label) (prepend e (passing ls)) (passing ls) ≡ passing (prepend e ls)
  unfolding prepend keep
  with-entry e [] up = by (test e.label)
    where
      by : (b : Bool) → cond b (prepend e []) [] ≡ cons_if b (line e.label (e.dot ∷ [])) []
      by true = refl
      by false = refl
  with-entry e (l ∷ ls) up = step (compare_is_eq (compare_bytes e.label l.label)) refl up
    where
      step : (same : Bool) → compare_is_eq (compare_bytes e.label l.label) ≡ same → Ascending compare_bytes (line_labels (prepend_to same e l ls))
          → cond (test e.label) (prepend e (passing (l ∷ ls))) (passing (l ∷ ls)) ≡ passing (prepend_to same e l ls)
      step true q first = rw (ap test (bytes_lawful.tie e.label l.label (tie-is (compare_bytes e.label l.label) (pass q)))) (by (test l.label))
        where
          by : (b : Bool) → cond b (prepend e (cons_if b l (passing ls))) (cons_if b l (passing ls)) ≡ cons_if b (line l.label (e.dot ∷ l.dots)) (passing ls)
          by true = rw q
          by false = refl
      step false q first = by (test e.label)
        where
          apart : e.label ∈ line_labels (passing (l ∷ ls)) → ⊥
          apart m =
              let w = Memᴰ.of_map (λ (k : Line). k.label) (passing (l ∷ ls)) m in
              let k = (keep-member (λ (x : Line). test x.label) (l ∷ ls) w.1).0 in
              irreflexive compare_bytes bytes_lawful e.label (subst (Less compare_bytes e.label) w.2 (first.0 w.0.label (Memᴰ.map (λ (x : Line). x.label) k)))

          by : (b : Bool) → cond b (prepend e (passing (l ∷ ls))) (passing (l ∷ ls)) ≡ cons_if b (line e.label (e.dot ∷ [])) (passing (l ∷ ls))
          by true = new_line e (passing (l ∷ ls)) apart
          by false = refl

  pub lines_matching : (es : List Entry) → Ascending compare_entries es → lines_of (keep (λ (e : Entry). test e.label) es) ≡ keep (λ (l : Line). test l.label) (lines_of es)
  unfolding lines_of keep
  lines_matching [] up = refl
  lines_matching (e ∷ es) up = by (test e.label) (lines_matching es up.1) ∙ with-entry e (lines_of es) (lines-ascend (e ∷ es) up)
    where
      kept : List Entry
      kept = keep (λ (x : Entry). test x.label) es

      by : (b : Bool) → lines_of kept ≡ passing (lines_of es) → lines_of (cons_if b e kept) ≡ cond b (prepend e (passing (lines_of es))) (passing (lines_of es))
      by true ih = ap (prepend e) ih
      by false ih = ih
