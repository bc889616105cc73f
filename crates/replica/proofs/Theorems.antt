-- Demand 3, proved: `follows_the_rule`, `replicas_agree` and `two_racks`.
use mathlib.Core.Path.{◌≡◌, refl, sym, ◌∙◌, ap, subst}
use mathlib.Core.Logic.{◌↔◌, ◌⊎◌, inl, inr, ⊎_elim, ⊎_map}
use mathlib.Core.Bool.{Bool, true, false, cond}
use mathlib.Core.List.Memᴰ
use mathlib.Core.List.{List, [], ◌∷◌, ◌++◌}
use lib.Dec.{T, not_T, compare_is_eq, eqb, eqb→eq}
use Rattle.wire.specs.Lists.{◌∈◌, SameMembers, any, member}
use Rattle.wire.specs.Bytes.{compare_bytes}
use Rattle.dots.specs.declared.Dot.{Dot}
use Rattle.dots.specs.Names.{Label}
use Rattle.dots.specs.Dots.{compare_dots}
use Rattle.dots.specs.Entries.{Entry, compare_entries, lines_of, line_labels}
use Rattle.dots.specs.Message.{Message}
use Rattle.wire.proofs.Tests.{pass, fail}
use Rattle.wire.proofs.Lists.{tie-is, member-append, keep-member, member-keep, any-member, any_found, member-sound, not_member, ascending-keep}
use Rattle.wire.proofs.Orders.{bytes_lawful}
use Rattle.dots.proofs.Orders.{dots, entries}
use Rattle.dots.proofs.Lines.{label_of_line, line_of_label}
use Rattle.replica.specs.Clock.{ClockModel, ClockLaws}
use Rattle.replica.specs.Machine.{messages_of, State, live, live_keys, compacted, listing, found, effect, Controller}
use Rattle.replica.specs.Rule.{History, no_history, noted, history_from, history_of, pairs, removed, live_pairs, rule_listing, OneLabelPerDot}
use Rattle.replica.specs.Demand3.{accepts, run, events, traffic, Compacts, Life, end_of, account_of, accepted, traffic_of, FollowsTheRule, ReplicasAgree}
use Rattle.replica.specs.Read.{read_of, TwoRacks}
use Rattle.replica.proofs.Invariant.{Invariant, at-start, next-dot, call_keeps}
use Rattle.replica.proofs.Listings.{fewer, is-listing, live_pairs_are, same-named, same_live}
use Rattle.replica.proofs.Merges.{Represents, merged-represents}

-- lookup says yes exactly if the listing has the label, in any state
module _ (C : ClockModel) (s : State C) where
  pub found-label : (l : Label) → T (found C s l) ↔ (l ∈ line_labels (lines_of (live_keys C s)))
  unfolding found
  found-label l = (to, from)
    where
      test : Entry → Bool
      test e = compare_is_eq (compare_bytes l e.label)

      to : T (any test (live_keys C s)) → l ∈ line_labels (lines_of (live_keys C s))
      to t =
          let w = any_found test (live_keys C s) t in
          let q = bytes_lawful.tie l w.0.label (tie-is (compare_bytes l w.0.label) w.2) in
          Memᴰ.cast q (line_of_label (live_keys C s) w.0 w.1)

      from : l ∈ line_labels (lines_of (live_keys C s)) → T (any test (live_keys C s))
      from k =
          let w = label_of_line l (live_keys C s) k in
          any-member test (live_keys C s) w.1 (pass (ap compare_is_eq (ap (compare_bytes l) (sym w.2) ∙ bytes_lawful.self l)))

-- what an invariant says of a state
module _ (C : ClockModel) (L : ClockLaws C) {s : State C} {h : History} (inv : Invariant C L s h) where
  -- a live key was added and not removed
  pub live-sound : (e : Entry) → e ∈ live_keys C s → (e ∈ pairs h.messages) × (e.dot ∈ removed h.messages → ⊥)
  live-sound e k =
      let w = keep-member (live C s) s.keys k in
      (inv.key_paired e w.0, λ r. not_member compare_dots dots s.tombstone w.1 (inv.dead-tombstoned e w.0 r))

  -- with the proviso, every pair not removed is live
  pub live-keys : OneLabelPerDot (pairs h.messages) → live_keys C s ≡ live_pairs h.messages
  live-keys single = live_pairs_are h.messages (live_keys C s) (ascending-keep compare_entries entries (live C s) s.keys inv.keys-ascend) live-sound complete
    where
      complete : (e : Entry) → e ∈ pairs h.messages → (e.dot ∈ removed h.messages → ⊥) → e ∈ live_keys C s
      complete e p n =
          member-keep (live C s) s.keys (inv.live-stored single e p n)
          (not_T (member compare_dots e.dot s.tombstone) (λ t. n (inv.tombstoned-removed e.dot (member-sound compare_dots dots s.tombstone t))))

-- two states that stand for the same messages have the same live keys and the same clock
module _ (C : ClockModel) (L : ClockLaws C) {s t : State C} {h k : History} (inv : Invariant C L s h) (inv' : Invariant C L t k)
    (same : SameMembers h.messages k.messages) where
  pub equal_live_keys : OneLabelPerDot (pairs h.messages) → OneLabelPerDot (pairs k.messages) → live_keys C s ≡ live_keys C t
  equal_live_keys one two = live-keys C L inv one ∙ same_live same ∙ sym (live-keys C L inv' two)

  pub equal_clocks : s.clock ≡ t.clock
  equal_clocks = L.one_form s.clock t.clock inv.well inv'.well
      (λ d. (λ u. inv'.named-seen d ((same-named same d).0 (inv.seen-named d u)), λ u. inv.named-seen d ((same-named same d).1 (inv'.seen-named d u))))

module _ (C : ClockModel) (L : ClockLaws C) (K : Controller C) where
  -- the history after a call
  abbrev after : K.Held → History → K.Input → History
  after x h i = cond (accepts C K x i) (noted h (K.call_of i)) h

  step_keeps : {x : K.Held} {h : History} → Invariant C L (K.view x) h → (i : K.Input) → Invariant C L (K.view (K.step x i)) (after x h i)
  step_keeps {x} {h} inv i = by_answer (accepts C K x i) refl
    where
      by_answer : (b : Bool) → accepts C K x i ≡ b → Invariant C L (K.view (K.step x i)) (cond b (noted h (K.call_of i)) h)
      by_answer true e =
          let done = eqb→eq (K.answer x i) 0 (pass e) in
          rw (K.does x i done) (call_keeps C L inv (K.call_of i) (K.guarded x i done))
      by_answer false e = rw (K.refuses x i (λ z. fail e (subst (λ n. T (eqb n 0)) (sym z) tt))) inv

  run_keeps : {x : K.Held} {h : History} → Invariant C L (K.view x) h → (is : List K.Input)
      → Invariant C L (K.view (run C K x is)) (history_from h (events C K x is))
  unfolding run events history_from
  run_keeps inv [] = inv
  run_keeps {x = x} {h = h} inv (i ∷ is) = run_keeps {x = K.step x i} {h = after x h i} (step_keeps inv i) is

  -- the rule's messages are those taken in or written
  step-messages : {x : K.Held} {h : History} → Invariant C L (K.view x) h → (i : K.Input) (m : Message)
      → (m ∈ (after x h i).messages) ↔ ((m ∈ cond (accepts C K x i) (K.message x i) []) ⊎ (m ∈ h.messages))
  step-messages {x} {h} inv i m = by_answer (accepts C K x i) refl
    where
      by_answer : (b : Bool) → accepts C K x i ≡ b → (m ∈ (cond b (noted h (K.call_of i)) h).messages) ↔ ((m ∈ cond b (K.message x i) []) ⊎ (m ∈ h.messages))
      by_answer true e =
          let done = eqb→eq (K.answer x i) 0 (pass e) in
          rw (K.exchanges x i done, ap (λ (d : Dot). messages_of d (K.call_of i)) (next-dot C L inv)) member-append
      by_answer false e = (inr, ⊎_elim (λ k. absurd (Memᴰ.not-nil k)) (λ k. k))

  run-messages : {x : K.Held} {h : History} → Invariant C L (K.view x) h → (is : List K.Input)
      → (m : Message) → (m ∈ (history_from h (events C K x is)).messages) ↔ ((m ∈ traffic C K x is) ⊎ (m ∈ h.messages))
  unfolding events history_from traffic
  run-messages inv [] m = (inr, ⊎_elim (λ k. absurd (Memᴰ.not-nil k)) (λ k. k))
  run-messages {x = x} {h = h} inv (i ∷ is) m = regroup member-append (run-messages {x = K.step x i} {h = after x h i} (step_keeps inv i) is m) (step-messages inv i m)
    where
      regroup : {Now Later Both Old Mid New : Type 0} → Both ↔ (Now ⊎ Later) → New ↔ (Later ⊎ Mid) → Mid ↔ (Now ⊎ Old) → New ↔ (Both ⊎ Old)
      regroup f g k = (
        λ n. ⊎_elim (λ later. inl (f.1 (inr later))) (λ mid. ⊎_map (λ now. f.1 (inl now)) (λ old. old) (k.0 mid)) (g.0 n),
        ⊎_elim (λ b. ⊎_elim (λ now. g.1 (inr (k.1 (inl now)))) (λ later. g.1 (inl later)) (f.0 b)) (λ old. g.1 (inr (k.1 (inr old)))),
      )

  compaction_does : {x : K.Held} {i : K.Input} → Compacts C K x i → K.view (K.step x i) ≡ compacted C (K.view x)
  unfolding effect
  compaction_does {x} {i} c = K.does x i c.done ∙ ap (effect C (K.view x)) c.call-is

  compaction_empties : {x : K.Held} {i : K.Input} → Compacts C K x i → (K.view (K.step x i)).tombstone ≡ []
  unfolding compacted
  compaction_empties z = ap (λ (s : State C). s.tombstone) (compaction_does z)

  -- ---- of every life, whatever labels share a dot

  begins : (c : Life C K) → Invariant C L (K.view c.start) (no_history c.actor)
  begins c = rw c.fresh (at-start C L c.actor)

  pub life_keeps : (c : Life C K) → Invariant C L (K.view (end_of C K c)) (history_of (account_of C K c))
  life_keeps c = run_keeps (begins c) c.calls

  -- the rule's messages are the traffic
  pub traffic-is : (c : Life C K) → SameMembers (accepted C K c) (traffic_of C K c)
  traffic-is c m =
      let f = run-messages (begins c) c.calls m in
      (λ k. ⊎_elim (λ t. t) (λ n. absurd (Memᴰ.not-nil n)) (f.0 k), λ t. f.1 (inl t))

  -- ---- the claims

  pub follows_the_rule : FollowsTheRule C K
  unfolding listing rule_listing compacted
  follows_the_rule c = record {
    clock-is = λ d. (inv.seen-named d, inv.named-seen d);
    rule_means = is-listing (accepted C K c);
    compaction_empties = λ i z. compaction_empties z;
    lists = λ single. record {
      listing-is = ap lines_of (live-keys C L inv single);
      lookup-is = λ l. rw (← (live-keys C L inv single)) (found-label C (K.view (end_of C K c)) l);
      compaction_is = λ i z. ap (λ (s : State C). s.keys) (compaction_does z) ∙ live-keys C L inv single;
    };
  }
    where
      inv : Invariant C L (K.view (end_of C K c)) (history_of (account_of C K c))
      inv = life_keeps c

  pub replicas_agree : ReplicasAgree C K
  unfolding listing compacted
  replicas_agree c d same = record {
    same-clock = λ i j y z. ap (λ (s : State C). s.clock) (compaction_does y) ∙ equal_clocks C L inv inv' alike ∙ sym (ap (λ (s : State C). s.clock) (compaction_does z));
    same-tombstone = λ i j y z. compaction_empties y ∙ sym (compaction_empties z);
    lists = λ single. record {
      same-listing = ap lines_of (keys single);
      same_keys = λ i j y z. ap (λ (s : State C). s.keys) (compaction_does y) ∙ keys single ∙ sym (ap (λ (s : State C). s.keys) (compaction_does z));
    };
  }
    where
      inv : Invariant C L (K.view (end_of C K c)) (history_of (account_of C K c))
      inv = life_keeps c

      inv' : Invariant C L (K.view (end_of C K d)) (history_of (account_of C K d))
      inv' = life_keeps d

      alike : SameMembers (accepted C K c) (accepted C K d)
      alike m =
          let here = traffic-is c m in
          let there = traffic-is d m in
          (λ k. there.1 ((same m).0 (here.0 k)), λ k. here.1 ((same m).1 (there.0 k)))

      keys : OneLabelPerDot (pairs (accepted C K c ++ accepted C K d)) → live_keys C (K.view (end_of C K c)) ≡ live_keys C (K.view (end_of C K d))
      keys single = equal_live_keys C L inv inv' alike (fewer (λ m. Memᴰ.append_left (accepted C K d)) single) (fewer (λ m. Memᴰ.append_right (accepted C K c)) single)

  -- a controller's read stands for what it accepted
  represents : (c : Life C K) → OneLabelPerDot (pairs (accepted C K c)) → Represents C (accepted C K c) (read_of C (K.view (end_of C K c)))
  represents c single = let inv = life_keeps c in record { clock-is = λ d. (inv.seen-named d, inv.named-seen d); listed-is = live-keys C L inv single }

  pub two_racks : TwoRacks C K
  unfolding rule_listing
  two_racks c d single =
      let one = represents c (fewer (λ m. Memᴰ.append_left (accepted C K d)) single) in
      let two = represents d (fewer (λ m. Memᴰ.append_right (accepted C K c)) single) in
      ap lines_of (merged-represents C one two single)
