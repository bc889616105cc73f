-- The tombstone's bytes with more dots put in: its dots, and zeros past them. Assumes nothing.
use mathlib.Core.Path.{◌≡◌, refl, sym, ap, ◌∙◌, subst}
use mathlib.Core.Logic.{⊎_elim}
use mathlib.Core.Bool.{Bool, true, false, cond, ◌&&◌}
use mathlib.Core.List.{List, [], ◌∷◌, ◌++◌}
use Prim.Native.Nat.{ℕ, suc, ◌+◌, ◌-◌, ◌*◌, ◌≤◌, Ordering}
use native.Mathlib.Nat.{le_trans}
use native.Mathlib.Omega.{arith}
use lib.ListN.{length, take, drop, replicate, length-append, length-replicate}
use lib.Seq.{drop-append-add}
use Rattle.wire.specs.Lists.{cons_if, all, keep, insert, insert_all, place}
use Rattle.wire.proofs.Tests.{both_left, both_right}
use Rattle.wire.proofs.Lists.{all-member, member-all, insert-member, ascending-insert}
use Rattle.wire.proofs.Fields.{drop-zeros}
use Rattle.dots.specs.declared.Dot.{Dot}
use Rattle.dots.specs.Dots.{compare_dots, dot_ok, ascending_dots, tombstone_most}
use Rattle.dots.specs.Wire.{dots_bytes, dots_of, dot_size, tombstone_size}
use Rattle.dots.proofs.Orders.{dots}
use Rattle.dots.proofs.Rules.{ascending-valid, ascending_up, up_ascending}
use Rattle.dots.proofs.Loops.{left, length-dots_at}
use Rattle.dots.proofs.RoundTrip.{length-dots}
use Rattle.clock.specs.Clock.{sees}
use Rattle.contexts.proofs.Places.{dots-front}
use Rattle.calls.specs.declared.Tombstone.{Tombstone}
use Rattle.calls.specs.Effect.{padded, tombstone_of}
use Rattle.steps.specs.Tests.{Padded, with_dot, with_seen}
use Rattle.calls.proofs.Reading.{tombstone-read}

-- padded bytes of a list of dots, and as many, are its tombstone
pub tombstone-made : (bytes : List ℕ) (count : ℕ) (ds : List Dot) → Padded bytes count → dots_of (take (count * dot_size) bytes) ≡ ds → ◌≡◌ {A = Tombstone} (record { bytes = bytes; count = count }) (tombstone_of ds)
tombstone-made bytes count ds p e =
    let size = p.tomb.size in
    let few = p.tomb.few in
    let many : count ≡ length ds = sym (ap length (sym e) ∙ ap length (dots-front bytes count (omega arith)) ∙ length-dots_at count bytes 0) in
    let same : bytes ≡ padded tombstone_size (dots_bytes ds) = p.zeros ∙ ap (λ (l : List Dot). padded tombstone_size (dots_bytes l)) e in
    λ i. record { bytes = same i; count = many i }

-- ---- dots at the front of the bytes, and zeros

module _ (ds : List Dot) (ok : ascending_dots ds ≡ true) (few : length ds ≤ tombstone_most) where
  pub padded-dots : dots_of (take (length ds * dot_size) (padded tombstone_size (dots_bytes ds))) ≡ ds
  padded-dots = tombstone-read ds (ascending-valid ds ok)

  pub padded-holds : Padded (padded tombstone_size (dots_bytes ds)) (length ds)
  padded-holds =
      let bytes = length-dots ds in
      record {
        tomb = record {
          size = length-append (dots_bytes ds) (replicate (tombstone_size - length (dots_bytes ds)) 0) ∙ (let z : length (replicate {A = ℕ} (tombstone_size - length (dots_bytes ds)) 0) ≡ tombstone_size - length (dots_bytes ds) = length-replicate (tombstone_size - length (dots_bytes ds)) 0 in omega arith);
          few = few;
          ascends = rw padded-dots ok;
        };
        zeros = rw padded-dots;
      }

-- ascending dots with one more
pub insert-ok : (d : Dot) (ds : List Dot) → dot_ok d ≡ true → ascending_dots ds ≡ true → ascending_dots (insert compare_dots d ds) ≡ true
insert-ok d ds ok up =
    up_ascending (insert compare_dots d ds)
    (member-all dot_ok (insert compare_dots d ds) (λ e m. ⊎_elim (λ q. ap dot_ok q ∙ ok) (λ k. all-member dot_ok ds (ascending-valid ds up) e k) (insert-member compare_dots dots d ds m)))
    (ascending-insert compare_dots dots d ds (ascending_up ds up))

-- what inserting a dot leaves of the padded bytes
insert-longer : (d : Dot) (ds : List Dot) → length ds ≤ length (insert compare_dots d ds)
unfolding insert
insert-longer d [] = omega arith
insert-longer d (x ∷ ds) = by (compare_dots d x) (insert-longer d ds)
  where
    by : (o : Ordering) → length ds ≤ length (insert compare_dots d ds) → suc (length ds) ≤ length (place o d x ds (insert compare_dots d ds))
    by Ordering.lt h = omega arith
    by Ordering.eq h = omega arith
    by Ordering.gt h = omega arith

module _ (bytes : List ℕ) (count : ℕ) (d : Dot) (p : Padded bytes count) (ok : dot_ok d ≡ true)
    (room : length (insert compare_dots d (dots_of (take (count * dot_size) bytes))) ≤ tombstone_most) where
  abbrev before : List Dot
  before = dots_of (take (count * dot_size) bytes)

  abbrev after : List Dot
  after = insert compare_dots d (dots_of (take (count * dot_size) bytes))

  inserted-bytes : (r : ℕ) (bytes' : List ℕ) → r ≡ length after → bytes' ≡ dots_bytes after ++ drop (r * dot_size) bytes → bytes' ≡ padded tombstone_size (dots_bytes after)
  inserted-bytes r bytes' e f =
      let longer = insert-longer d before in
      let old = length-dots before in
      let new = length-dots after in
      let past : r * dot_size ≡ length (dots_bytes before) + (r * dot_size - length (dots_bytes before)) = omega arith in
      let left_over : tombstone_size - length (dots_bytes before) - (r * dot_size - length (dots_bytes before)) ≡ tombstone_size - length (dots_bytes after) = omega arith in
      let rest : drop (r * dot_size) bytes ≡ replicate (tombstone_size - length (dots_bytes after)) 0 =
      ap (drop (r * dot_size)) p.zeros ∙ ap (λ (k : ℕ). drop k (padded tombstone_size (dots_bytes before))) past
      ∙ drop-append-add (dots_bytes before) (replicate (tombstone_size - length (dots_bytes before)) 0) (r * dot_size - length (dots_bytes before))
      ∙ drop-zeros (r * dot_size - length (dots_bytes before)) (tombstone_size - length (dots_bytes before))
      ∙ ap (λ (k : ℕ). replicate k 0) left_over in
      f ∙ ap (λ (t : List ℕ). dots_bytes after ++ t) rest

  pub inserted : (r : ℕ) (bytes' : List ℕ) → r ≡ length after → bytes' ≡ dots_bytes after ++ drop (r * dot_size) bytes
      → Padded bytes' r × (dots_of (take (r * dot_size) bytes') ≡ after)
  inserted r bytes' e f =
      let same = inserted-bytes r bytes' e f in
      let up = insert-ok d before ok p.tomb.ascends in
      (rw (same, e) (padded-holds after up room), rw (same, e) (padded-dots after up room))

-- ---- a loop over a context

insert_all-longer : (xs ys : List Dot) → length ys ≤ length (insert_all compare_dots xs ys)
unfolding insert_all
insert_all-longer [] ys = omega arith
insert_all-longer (x ∷ xs) ys = le_trans (insert-longer x ys) (insert_all-longer xs (insert compare_dots x ys))

module _ (words : List ℕ) (left more ds final : List Dot) (d : Dot) (e : left ≡ d ∷ more) (inv : with_seen words left ds ≡ final) where
  pub tombstone-next : with_seen words more (with_dot words d ds) ≡ final
  unfolding keep insert_all
  tombstone-next = by (sees words d) refl
    where
      whole : insert_all compare_dots (cons_if (sees words d) d (keep (sees words) more)) ds ≡ final
      whole = ap (λ (l : List Dot). insert_all compare_dots (keep (sees words) l) ds) (sym e) ∙ inv

      by : (b : Bool) → sees words d ≡ b → insert_all compare_dots (keep (sees words) more) (cond (sees words d) (insert compare_dots d ds) ds) ≡ final
      by true q = rw q (rw q at whole)
      by false q = rw q (rw q at whole)

  -- what is put in meanwhile is no more than what all of it is in the end
  pub tombstone-room : length final ≤ tombstone_most → length (with_dot words d ds) ≤ tombstone_most
  tombstone-room few = le_trans (insert_all-longer (keep (sees words) more) (with_dot words d ds)) (subst (λ (l : List Dot). length l ≤ tombstone_most) (sym tombstone-next) few)

pub tombstone-end : (words : List ℕ) (left ds final : List Dot) → left ≡ [] → with_seen words left ds ≡ final → ds ≡ final
unfolding keep insert_all
tombstone-end words left ds final e inv = rw e at inv

-- the dots that are left keep their rule
module _ (left more : List Dot) (d : Dot) (e : left ≡ d ∷ more) (ok : all dot_ok left ≡ true) where
  whole-valid : (dot_ok d && all dot_ok more) ≡ true
  unfolding all
  whole-valid = rw e at ok

  pub first-valid : dot_ok d ≡ true
  first-valid = both_left (dot_ok d) (all dot_ok more) whole-valid

  pub rest-valid : all dot_ok more ≡ true
  rest-valid = both_right (dot_ok d) (all dot_ok more) whole-valid
