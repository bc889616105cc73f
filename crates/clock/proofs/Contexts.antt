-- A context offered to the clock, without or with one more dot: what the tests and the joins of the code come to. Assumes nothing.
use Rattle.std.proofs.Common.{◌≡◌, ℕ, ◌-◌, ◌*◌, ◌≤◌, true, List, [], ◌∷◌, ◌++◌, length, take, drop, sym, ap, ◌∙◌, inl, ⊎_elim}
use mathlib.Core.List.Memᴰ
use Rattle.wire.specs.Lists.{◌∈◌, insert, sort, Ascending}
use Rattle.wire.proofs.Parts.{rest_part}
use Rattle.wire.proofs.Lists.{member_cons, all-member, member-all, insert-member, member-insert, ascending-insert, insert_all-member, member-insert_all, ascending-insert_all, ascending_unique}
use Rattle.dots.specs.declared.Dot.{Dot}
use Rattle.dots.specs.Dots.{compare_dots, dot_ok}
use Rattle.dots.specs.Wire.{dots_of, place_of, dot_size}
use Rattle.dots.proofs.Orders.{dots}
use Rattle.dots.proofs.Rules.{ascending-valid, ascending_up, up_ascending}
use Rattle.contexts.proofs.Places.{insert-around}
use Rattle.clock.specs.Row.{well_formed}
use Rattle.clock.specs.Clock.{join_each, join_all, near, clock_words}
use Rattle.clock.specs.Reach.{Reach, reach_start, reach_each, Ready, Offer, OfferWith}
use Rattle.clock.proofs.Rows.{forms}
use Rattle.clock.proofs.Clocks.{zero-formed, rows-well, ready, near-unseen}
use Rattle.clock.proofs.Reaching.{reach_is_near, sorted_same}

pub start-formed : (W : ℕ) (x : Reach) → x ≡ reach_start → well_formed W x.row ≡ true
start-formed W x e = ap (λ (y : Reach). well_formed W y.row) e ∙ forms (zero-formed W)

-- ---- ascending dots

module _ (W : ℕ) (w : 1 ≤ W) (words : List ℕ) (ds : List Dot) (o : Offer W words ds) where
  pub offer-near : (reach_each W words reach_start ds).ok ≡ near W words ds
  offer-near = reach_is_near W words w ds o.rows (ascending-valid ds o.ascends) (ascending_up ds o.ascends)

  pub offer-ready : length words ≡ clock_words → near W words ds ≡ true → Ready W words ds
  offer-ready size n = ready W w words ds (rows-well W words o.rows) (ascending-valid ds o.ascends) (ascending_up ds o.ascends) size n

  pub offer-joined : join_each W words ds ≡ join_all W words ds
  unfolding join_all
  offer-joined = ap (join_each W words) (sym (sorted_same ds (ascending_up ds o.ascends)))

-- ---- a context and one dot more, which stands between the dots before its place and those from it on

module _ (W : ℕ) (words context : List ℕ) (d : Dot) (o : OfferWith W words context d) where
  abbrev pub with_dot : List Dot
  with_dot = insert compare_dots d (dots_of context)

  ok-with : (e : Dot) → e ∈ with_dot → dot_ok e ≡ true
  ok-with e m = ⊎_elim (λ q. ap dot_ok q ∙ o.ok) (λ k. all-member dot_ok (dots_of context) (ascending-valid (dots_of context) o.ascends) e k) (insert-member compare_dots dots d (dots_of context) m)

  up_with : Ascending compare_dots with_dot
  up_with = ascending-insert compare_dots dots d (dots_of context) (ascending_up (dots_of context) o.ascends)

  pub with-offer : Offer W words with_dot
  with-offer = record { rows = o.rows; ascends = up_ascending with_dot (member-all dot_ok with_dot ok-with) up_with }

  to-with : (e : Dot) → e ∈ d ∷ dots_of context → e ∈ with_dot
  to-with e m = member-insert compare_dots dots d (dots_of context) (Memᴰ.cases_cons m)

  from-with : (e : Dot) → e ∈ with_dot → e ∈ d ∷ dots_of context
  from-with e m = member_cons (insert-member compare_dots dots d (dots_of context) m)

  pub with-near : near W words with_dot ≡ near W words (d ∷ dots_of context)
  with-near = near-unseen W words with_dot (d ∷ dots_of context) o.rows (λ e u. from-with e) (λ e u. to-with e)

  pub with_sorted : with_dot ≡ sort compare_dots (d ∷ dots_of context)
  with_sorted =
      ascending_unique compare_dots dots with_dot (sort compare_dots (d ∷ dots_of context)) up_with (ascending-insert_all compare_dots dots (d ∷ dots_of context) [] tt)
      (λ e m. member-insert_all compare_dots dots (d ∷ dots_of context) [] (inl (from-with e m)))
      (λ e m. to-with e (⊎_elim (λ k. k) (λ k. absurd (Memᴰ.not-nil k)) (insert_all-member compare_dots dots (d ∷ dots_of context) [] m)))

  pub with-joined : join_each W words with_dot ≡ join_all W words (d ∷ dots_of context)
  unfolding join_all
  with-joined = ap (join_each W words) with_sorted

  -- as the code cuts the context at the dot's place p
  pub with-around : (p : ℕ) → p * dot_size ≤ length context → p ≡ place_of d (dots_of context)
      → with_dot ≡ dots_of (take (p * dot_size) context) ++ (d ∷ dots_of (take (length context - p * dot_size) (drop (p * dot_size) context)))
  with-around p low placed = insert-around d context p low placed o.new ∙ ap (λ (s : List ℕ). dots_of (take (p * dot_size) context) ++ (d ∷ dots_of s)) (sym (rest_part context (p * dot_size)))
