-- The rule's listing: it means what document 01 says, and depends only on which messages there are. Assumes nothing.
use mathlib.Core.Path.{◌≡◌}
use mathlib.Core.Logic.{◌↔◌, ◌⊎◌, inl, inr, ⊎_elim, ⊎_map}
use mathlib.Core.List.Memᴰ
use mathlib.Core.List.{List, [], ◌++◌, flat_map}
use lib.Dec.{not_T}
use Rattle.wire.specs.Lists.{◌∈◌, SameMembers, keep, member, Ascending}
use Rattle.dots.specs.declared.Dot.{Dot}
use Rattle.dots.specs.Dots.{compare_dots}
use Rattle.dots.specs.Entries.{Entry, entry, compare_entries}
use Rattle.dots.specs.Message.{Message, context_of, pairs_of}
use Rattle.wire.proofs.Lists.{member-append, keep-member, member-keep, flat_map_member, member_flat_map, flat_map_mono, member-sound, not_member, insert_all-member, member-insert_all, ascending-insert_all, ascending_unique}
use Rattle.dots.proofs.Orders.{dots, entries}
use Rattle.dots.proofs.Lines.{entries-lines, lines-ascend, lines-filled}
use Rattle.replica.specs.Rule.{pairs, removed, Paired, kept, live_pairs, rule_listing, IsListing, OneLabelPerDot}

-- of two lists' elements together
pub flat_map_append : {A B : Type 0} (f : A → List B) (xs ys : List A) {y : B} → (y ∈ flat_map f (xs ++ ys)) ↔ ((y ∈ flat_map f xs) ⊎ (y ∈ flat_map f ys))
flat_map_append f xs ys = (
  λ k. let w = flat_map_member f (xs ++ ys) k in ⊎_map (λ m. member_flat_map f xs m w.2) (λ m. member_flat_map f ys m w.2) (member-append.0 w.1),
  ⊎_elim (flat_map_mono f (λ x. Memᴰ.append_left ys) _) (flat_map_mono f (λ x. Memᴰ.append_right xs) _),
)

-- a pair is live exactly if it is not removed
pub live_pair : (ms : List Message) (e : Entry) → e ∈ pairs ms → (e.dot ∈ removed ms → ⊥) → e ∈ live_pairs ms
live_pair ms e p n =
    member-insert_all compare_entries entries (keep (kept ms) (pairs ms)) []
    (inl (member-keep (kept ms) (pairs ms) p (not_T (member compare_dots e.dot (removed ms)) (λ t. n (member-sound compare_dots dots (removed ms) t)))))

pub pair_live : (ms : List Message) (e : Entry) → e ∈ live_pairs ms → (e ∈ pairs ms) × (e.dot ∈ removed ms → ⊥)
pair_live ms e m = step (insert_all-member compare_entries entries (keep (kept ms) (pairs ms)) [] m)
  where
    step : (e ∈ keep (kept ms) (pairs ms)) ⊎ (e ∈ []) → (e ∈ pairs ms) × (e.dot ∈ removed ms → ⊥)
    step (inl k) = let w = keep-member (kept ms) (pairs ms) k in (w.0, not_member compare_dots dots (removed ms) w.1)
    step (inr k) = absurd (Memᴰ.not-nil k)

-- ascending entries that are just the pairs not removed are the live pairs
pub live_pairs_are : (ms : List Message) (es : List Entry) → Ascending compare_entries es
    → ((e : Entry) → e ∈ es → (e ∈ pairs ms) × (e.dot ∈ removed ms → ⊥)) → ((e : Entry) → e ∈ pairs ms → (e.dot ∈ removed ms → ⊥) → e ∈ es) → es ≡ live_pairs ms
live_pairs_are ms es up sound complete =
    ascending_unique compare_entries entries es (live_pairs ms) up (ascending-insert_all compare_entries entries (keep (kept ms) (pairs ms)) [] tt)
    (λ e m. let w = sound e m in live_pair ms e w.0 w.1)
    (λ e m. let w = pair_live ms e m in complete e w.0 w.1)

-- what holds of the pairs of more messages holds of those of fewer
pub fewer : {ms ms' : List Message} → ((m : Message) → m ∈ ms → m ∈ ms') → OneLabelPerDot (pairs ms') → OneLabelPerDot (pairs ms)
fewer {ms} {ms'} sub single d l l' p q = single d l l' (flat_map_mono pairs_of sub _ p) (flat_map_mono pairs_of sub _ q)

module _ {ms ms' : List Message} (same : SameMembers ms ms') where
  pub same-pairs : SameMembers (pairs ms) (pairs ms')
  same-pairs e = (flat_map_mono pairs_of (λ m. (same m).0) e, flat_map_mono pairs_of (λ m. (same m).1) e)

  pub same-removed : SameMembers (removed ms) (removed ms')
  same-removed d = (flat_map_mono context_of (λ m. (same m).0) d, flat_map_mono context_of (λ m. (same m).1) d)

  pub same-named : (d : Dot) → (Paired ms d ⊎ (d ∈ removed ms)) ↔ (Paired ms' d ⊎ (d ∈ removed ms'))
  same-named d = (
    ⊎_map (λ p. (p.0, (same-pairs (entry p.0 d)).0 p.1)) (same-removed d).0,
    ⊎_map (λ p. (p.0, (same-pairs (entry p.0 d)).1 p.1)) (same-removed d).1,
  )

  pub same_live : live_pairs ms ≡ live_pairs ms'
  same_live =
      live_pairs_are ms' (live_pairs ms) (ascending-insert_all compare_entries entries (keep (kept ms) (pairs ms)) [] tt)
      (λ e m. let w = pair_live ms e m in ((same-pairs e).0 w.0, λ r. w.1 ((same-removed e.dot).1 r)))
      (λ e p n. live_pair ms e ((same-pairs e).1 p) (λ r. n ((same-removed e.dot).0 r)))

-- `lines_of` holds the entries, in order
pub is-listing : (ms : List Message) → IsListing ms (rule_listing ms)
unfolding rule_listing
is-listing ms = record {
  just_live = entries-lines (live_pairs ms);
  labels-ascend = lines-ascend (live_pairs ms) (ascending-insert_all compare_entries entries (keep (kept ms) (pairs ms)) [] tt);
  some-dot = lines-filled (live_pairs ms);
}
