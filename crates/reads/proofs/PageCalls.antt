-- A page: its refusals, and what it gives of the lines put out. Assumes nothing.
use Prim.Native.Nat.{ℕ, ◌-◌}
use mathlib.Core.Path.{◌≡◌, refl, sym, ◌∙◌}
use mathlib.Core.Bool.{Bool, true, false, not, cond, ◌&&◌, true≢false}
use mathlib.Core.List.{List, [], ◌∷◌}
use native.Mathlib.Omega.{arith}
use lib.Dec.{ltb, eqb}
use lib.ListN.{length, take, drop, length-drop}
use borrow.Author.Tests.{lt-ltb, ne_eqb}
use Rattle.wire.specs.Bytes.{Bytes}
use Rattle.wire.proofs.Fields.{put_front}
use Rattle.wire.proofs.Parts.{rest_part}
use Rattle.dots.specs.Answer.{number_of, first_of}
use Rattle.dots.specs.declared.Answer.{Answer}
use Rattle.dots.specs.declared.Answer.TheVariants.{Done, Damaged, BadName, OutputShort}
use Rattle.dots.specs.Entries.{Line}
use Rattle.std.specs.Prelude.{Result, Ok}
use Rattle.steps.specs.Tests.{passed}
use Rattle.steps.proofs.Passed.{passed-is}
use Rattle.listing.specs.declared.LinesPut.{LinesPut}
use Rattle.listing.specs.Listing.{line_size, listing_bytes, PutsLines, wanted_lines, PutsWanted}
use Rattle.replica.specs.Machine.{listing}
use Rattle.replica.specs.Page.{fitting, first_fits, more_than_fit, lines_after}
use Rattle.calls.specs.declared.State.{State}
use Rattle.calls.specs.State.{clock_model, name_of, used_part, view, Sized}
use Rattle.calls.specs.Damage.{damaged}
use Rattle.calls.specs.Refusals.{bad_start}
use Rattle.calls.specs.Calls.{refused, lines_put, page_result, more_follow}
use Rattle.calls.specs.Promise.{Pages, PagesAfter}
use Rattle.reads.specs.Reads.{Readable, lines_in, put_answer, paged_of, page_start}
use Rattle.reads.proofs.ReadCalls.{readable}
use Rattle.reads.proofs.PageStarts.{start-stored, start-lines}

-- ---- refusals 1 and 5

module _ (st : State) (store start : Bytes) (damage bad : Bool) (d : damage ≡ damaged st store) (b : bad ≡ bad_start start) where
  pub may-page : (q : Result Unit Answer) (u : Unit {0}) → q ≡ passed (first_of ((damage, Damaged) ∷ (bad, BadName) ∷ [])) → q ≡ Ok u → (damaged st store ≡ false) × (bad_start start ≡ false)
  may-page q u a z = by_tests damage bad d b (passed-is (first_of ((damage, Damaged) ∷ (bad, BadName) ∷ [])) u (sym z ∙ a))
    where
      by_tests : (p q : Bool) → p ≡ damaged st store → q ≡ bad_start start → number_of (cond p Damaged (cond q BadName Done)) ≡ 0 → (damaged st store ≡ false) × (bad_start start ≡ false)
      by_tests false false e f z = (sym e, sym f)
      by_tests false true e f z = let none : ⊥ = omega arith in absurd none
      by_tests true q e f z = let none : ⊥ = omega arith in absurd none

  pub no_page : (answer : Answer) → answer ≡ first_of ((damage, Damaged) ∷ (bad, BadName) ∷ []) → (out : Bytes) → (answer ≡ Done → ⊥) → PagesAfter st store start out out (record { answer = answer; written = 0; labels = 0; more = false })
  unfolding page_result more_follow
  no_page answer a out z = by_tests damage bad d b a
    where
      by_tests : (p q : Bool) → p ≡ damaged st store → q ≡ bad_start start → answer ≡ cond p Damaged (cond q BadName Done)
          → PagesAfter st store start out out (record { answer = answer; written = 0; labels = 0; more = false })
      by_tests true q e f g = rw (← e) (record { answered = g; written_is = refl; labels_are = refl; more-is = refl; out-is = refl })
      by_tests false true e f g = rw (← e, ← f) (record { answered = g; written_is = refl; labels_are = refl; more-is = refl; out-is = refl })
      by_tests false false e f g = absurd (z g)

-- ---- lines put out

module _ (room : ℕ) where
  -- the first of them does not fit: none is put
  none-fits : (ls : List Line) → first_fits line_size room ls ≡ false → (fitting line_size room ls ≡ []) × (ltb 0 (length ls) ≡ true)
  unfolding fitting first_fits
  none-fits [] f = absurd (true≢false f)
  none-fits (l ∷ ls) f = (rw f, lt-ltb 0 (length (l ∷ ls)) (omega arith))

  -- the first fits: one is put, if there is one
  some_fit : (ls : List Line) → first_fits line_size room ls ≡ true
      → ((more_than_fit line_size room ls && eqb (length (fitting line_size room ls)) 0) ≡ false) × ((more_than_fit line_size room ls && ltb 0 (length (fitting line_size room ls))) ≡ more_than_fit line_size room ls)
  unfolding fitting first_fits
  some_fit [] t = (refl, refl)
  some_fit (l ∷ ls) t =
      let put : List Line = l ∷ fitting line_size (room - line_size l) ls in
      rw t (go (ltb (length put) (length (l ∷ ls))) (eqb (length put) 0) (ltb 0 (length put)) (ne_eqb (length put) 0 (λ e. omega arith)) (lt-ltb 0 (length put) (omega arith)))
    where
      go : (p q r : Bool) → q ≡ false → r ≡ true → ((p && q) ≡ false) × ((p && r) ≡ p)
      go true q r e f = (e, f)
      go false q r e f = (refl, refl)

-- as many as fit are put, or none and the answer is 13
module _ (st : State) (store out out' : Bytes) (ls : List Line) (put : LinesPut) where
  pages_or_short : (fits : Bool) → first_fits line_size (length out) ls ≡ fits → PutsWanted false ls out out' put
      → Pages (cond (eqb (number_of (cond (not fits) OutputShort Done)) 0) (lines_put st store out (fitting line_size (length out) ls)) (refused st store out (cond (not fits) OutputShort Done)))
      (eqb (number_of (cond (not fits) OutputShort Done)) 0 && more_than_fit line_size (length out) ls) out' (paged_of put)
  unfolding put_answer paged_of wanted_lines listing_bytes
  pages_or_short false e p =
      let none = none-fits (length out) ls e in
      let w : PutsLines ls [] out out' put = rw none.0 at p in
      let more : put.more ≡ true = w.more-is ∙ none.1 in
      record {
        answered = rw (more, w.labels_are);
        written_is = w.bytes_are;
        labels_are = w.labels_are;
        more-is = rw (more, w.labels_are);
        out-is = w.out-is ∙ put_front out [];
      }
  pages_or_short true e p =
      let some = some_fit (length out) ls e in
      record {
        answered = rw (p.more-is, p.labels_are, some.0);
        written_is = p.bytes_are;
        labels_are = p.labels_are;
        more-is = rw (p.more-is, p.labels_are) some.1;
        out-is = p.out-is ∙ put_front out (listing_bytes (fitting line_size (length out) ls));
      }

-- the keys past the starting label
module _ (st : State) (store start keys : Bytes) (k : keys ≡ drop (page_start (name_of st) start (used_part st store)) (used_part st store)) where
  pub page-readable : Sized st → damaged st store ≡ false → bad_start start ≡ false → Readable st.name.len keys st.tombstone.bytes st.tombstone.count
  page-readable sized f ok =
      readable st store keys sized f (rw k (start-stored st store start sized f ok)) (rw (k, length-drop) (omega arith))

pub past-start : (st : State) (store start : Bytes) (from : ℕ) → from ≡ page_start (name_of st) start (used_part st store)
    → take (length (used_part st store) - from) (drop from (used_part st store)) ≡ drop (page_start (name_of st) start (used_part st store)) (used_part st store)
past-start st store start from e = rest_part (used_part st store) from ∙ rw e

pub page-given : (st : State) (store start out out' keys : Bytes) (put : LinesPut) → Sized st → damaged st store ≡ false → bad_start start ≡ false
    → keys ≡ drop (page_start (name_of st) start (used_part st store)) (used_part st store)
    → PutsWanted false (lines_in st.name.len keys st.tombstone.bytes st.tombstone.count) out out' put
    → PagesAfter st store start out out' (paged_of put)
unfolding page_result more_follow
page-given st store start out out' keys put sized f ok k p =
    let ls : List Line = lines_after start (listing clock_model (view st store)) in
    let is : lines_in st.name.len keys st.tombstone.bytes st.tombstone.count ≡ ls = rw k (start-lines st store start sized f ok) in
    rw (f, ok) (pages_or_short st store out out' ls put (first_fits line_size (length out) ls) refl (rw is at p))
