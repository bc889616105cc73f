-- Pages in bytes: what an accepted page gives, and that pages joined are the listing. Assumes nothing.
use Prim.Native.Nat.{ℕ, ◌≤◌}
use mathlib.Core.Path.{◌≡◌, refl, sym, ap, ◌∙◌, subst}
use mathlib.Core.Logic.{◌↔◌}
use mathlib.Core.Bool.{Bool, true, false, not, cond, ◌||◌, false≢true}
use mathlib.Core.List.Memᴰ
use mathlib.Core.List.{List, [], ◌∷◌, map}
use native.Mathlib.Omega.{arith}
use lib.Dec.{T, eqb, eqb→eq}
use lib.ListN.{length, length-append}
use borrow.Author.Rules.{rules}
use borrow.Author.Tests.{eq-eqb, not-false}
use Rattle.wire.specs.Lists.{◌∈◌, Ascending}
use Rattle.wire.specs.Bytes.{Bytes, compare_bytes}
use Rattle.wire.proofs.Tests.{both, pass, T_both, T_and}
use Rattle.wire.proofs.Lists.{keep-member, all-member, ascending-keep}
use Rattle.dots.specs.Answer.{number_of, Refusals, first_of}
use Rattle.dots.specs.Names.{Label, label_ok, text_ok}
use Rattle.dots.specs.Entries.{compare_entries, Line, line_labels}
use Rattle.dots.proofs.Table.{none-holds}
use Rattle.dots.proofs.Orders.{entries}
use Rattle.dots.proofs.Lines.{label_of_line, lines-ascend}
use Rattle.keys.specs.Entry.{entry_ok}
use Rattle.listing.specs.Listing.{line_size, listing_bytes}
use Rattle.listing.proofs.Listings.{listing-append}
use Rattle.replica.specs.Machine.{live, live_keys, listing}
use Rattle.replica.specs.Page.{lines_after, page_fits, page_more, PageMeans, joined_pages, reach_end}
use Rattle.replica.proofs.Pages.{page-means, pages_join}
use Rattle.calls.specs.declared.State.{State}
use Rattle.calls.specs.State.{clock_model, view}
use Rattle.calls.specs.Calls.{page_lines, page_refusals, page_done, page_result, more_follow}
use Rattle.calls.specs.Sequence.{output}
use Rattle.calls.specs.Pages.{listing_lines, PageAccepted, start_after, joined_bytes, joined_labels, reaches_end, PageClaims}
use Rattle.calls.proofs.Decided.{decided-done}
use Rattle.calls.proofs.Clauses.{Undamaged, undamaged, entries_of_lem, view-rules}
use Rattle.calls.proofs.Instance.{lines-put}

module _ (st : State) (store : Bytes) where
  abbrev ls : List Line
  ls = listing_lines st store

  -- ---- one page

  pub record PageGives (start out : Bytes) : Type 0 where
    pub output-is : output (page_result st store start out) ≡ listing_bytes (page_lines st store start out)
    pub labels_are : (page_result st store start out).labels ≡ length (page_lines st store start out)
    pub more-is : more_follow st store start out ≡ page_more line_size ls start (length out)
    pub fits : T (page_fits line_size ls start (length out))
    pub whole : Undamaged st store

  pub page_gives : (start out : Bytes) → PageAccepted st store start out → PageGives start out
  unfolding page_result more_follow
  page_gives start out acc =
      let rs : Refusals = page_refusals st store start out in
      let none = (decided-done st store out rs (page_done st store start out) refl acc).1 in
      let passed = none-holds rs (search rules) none in
      let fits : page_fits line_size ls start (length out) ≡ true = not-false _ passed.1.1.0 in
      let put = lines-put st store out rs (page_lines st store start out) acc in
      record {
        output-is = put.0;
        labels_are = put.1;
        more-is = rw (eq-eqb (number_of (first_of rs)) 0 none);
        fits = pass fits;
        whole = undamaged st store passed.0;
      }

  -- ---- the lines of an undamaged state

  module _ (u : Undamaged st store) where
    lines_up : Ascending compare_bytes (line_labels ls)
    unfolding listing view
    lines_up =
        lines-ascend (live_keys clock_model (view st store))
        (ascending-keep compare_entries entries (live clock_model (view st store)) (view st store).keys (entries_of_lem st store u).ascend)

    no_empty_label : (l : Line) → l ∈ ls → l.label ≡ [] → ⊥
    unfolding listing view entry_ok text_ok
    no_empty_label l m e =
        let w = label_of_line l.label (live_keys clock_model (view st store)) (Memᴰ.map (λ (x : Line). x.label) m) in
        let stored = (keep-member (live clock_model (view st store)) (view st store).keys w.1).0 in
        let ok = all-member entry_ok (view st store).keys (view-rules st store u).keys w.0 stored in
        let label : label_ok w.0.label ≡ true = search both in
        false≢true (ap label_ok (sym e ∙ w.2) ∙ label)

  page-is : (start out : Bytes) → PageAccepted st store start out → PageMeans line_size ls start (length out)
  page-is start out acc = page-means line_size ls (lines_up (page_gives start out acc).whole) start (length out)

  -- ---- pages joined are the bytes and the number of the lines joined

  record Joined (start : Label) (outs : List Bytes) : Type 0 where
    bytes_are : joined_bytes st store start outs ≡ listing_bytes (joined_pages line_size ls start (map length outs))
    labels_are : joined_labels st store start outs ≡ length (joined_pages line_size ls start (map length outs))
    reaches : T (reach_end line_size ls start (map length outs))
    whole : Undamaged st store

  pages_joined : (start : Label) (outs : List Bytes) → T (reaches_end st store start outs) → Joined start outs
  unfolding reaches_end joined_bytes joined_labels joined_pages reach_end listing_bytes
  pages_joined start [] t = absurd t
  pages_joined start (out ∷ outs) t =
      let parts = T_both (eqb (number_of (page_result st store start out).answer) 0) (not (more_follow st store start out) || reaches_end st store next outs) t in
      let g = page_gives start out (eqb→eq (number_of (page_result st store start out).answer) 0 parts.0) in
      let further = subst (λ b. T (not b || reaches_end st store next outs)) g.more-is parts.1 in
      let rest = by (page_more line_size ls start (length out)) further (pages_joined next outs) in
      record {
        bytes_are = rw (g.output-is, g.more-is, rest.0) (sym (listing-append (page_lines st store start out) _));
        labels_are = rw (g.labels_are, g.more-is, rest.1) (sym (length-append (page_lines st store start out) _));
        reaches = T_and (page_fits line_size ls start (length out)) _ g.fits rest.2;
        whole = g.whole;
      }
    where
      next : Label
      next = start_after st store start out

      lines : List Line
      lines = joined_pages line_size ls next (map length outs)

      by : (b : Bool) → T (not b || reaches_end st store next outs) → (T (reaches_end st store next outs) → Joined next outs)
          → (cond b (joined_bytes st store next outs) [] ≡ listing_bytes (cond b lines []))
          × (cond b (joined_labels st store next outs) 0 ≡ length (cond b lines []))
          × T (not b || reach_end line_size ls next (map length outs))
      by true u below = let k = below u in (k.bytes_are, k.labels_are, k.reaches)
      by false u below = (refl, refl, tt)

pub page_claims : PageClaims
page_claims = record {
  some-label = λ st store start out acc some.
      let g = page_gives st store start out acc in
      at_least (page_lines st store start out) ((page-is st store start out acc).some-line g.fits some) g.labels_are;
  ended_is = λ st store start out acc.
      subst (λ b. (b ≡ false) ↔ (lines_after (start_after st store start out) (listing_lines st store) ≡ []))
      (sym (page_gives st store start out acc).more-is) (page-is st store start out acc).ended_is;
  joined_are = λ st store outs t.
      let j = pages_joined st store [] outs t in
      let all = pages_join line_size (listing_lines st store) (lines_up st store j.whole) (no_empty_label st store j.whole) (map length outs) j.reaches in
      (j.bytes_are ∙ ap listing_bytes all, j.labels_are ∙ ap length all);
}
  where
    at_least : {n : ℕ} (ls : List Line) → (ls ≡ [] → ⊥) → n ≡ length ls → 1 ≤ n
    at_least [] some e = absurd (some refl)
    at_least (l ∷ ls) some e = omega (arith, e)
