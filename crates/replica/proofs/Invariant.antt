-- The invariant that ties a controller's state to the rule's two sets, and that every accepted call keeps it.
use mathlib.Core.Path.{◌≡◌, refl, sym, ◌∙◌, ap, subst}
use mathlib.Core.Logic.{◌⊎◌, inl, inr, ⊎_elim, ⊎_map}
use mathlib.Core.Bool.{Bool, true, false, not, cond}
use mathlib.Core.List.Memᴰ
use mathlib.Core.List.{List, [], ◌∷◌, ◌++◌, map, flat_map}
use Prim.Native.Nat.{ℕ, ◌+◌, ◌≤◌, ◌<◌}
use native.Mathlib.Omega.{arith}
use lib.Dec.{T, T_not, compare_is_eq, leb, leb→le, ltb, ltb→lt, nltb→le}
use Rattle.wire.specs.Lists.{◌∈◌, keep, any, member, Ascending}
use Rattle.dots.specs.declared.Actor.{Actor}
use Rattle.dots.specs.declared.Dot.{Dot}
use Rattle.dots.specs.Names.{Label}
use Rattle.dots.specs.Dots.{Context, dot_of, compare_actors, compare_dots}
use Rattle.dots.specs.Entries.{Entry, entry, entry_dot, compare_entries}
use Rattle.dots.specs.Message.{Message, add, remove, context_of, pairs_of}
use Rattle.wire.proofs.Tests.{decide, pass, T_both, T_and}
use Rattle.wire.proofs.Lists.{tie-is, keep-member, member-keep, any-member, not_member, insert_all-member, member-insert_all, ascending-insert_all}
use Rattle.dots.proofs.Orders.{actors, dots, entries}
use Rattle.replica.specs.Clock.{ClockModel, ClockLaws}
use Rattle.replica.specs.Machine.{Call, own_add, own_remove, take_in, reads, compact, hand_off, messages_of, State, set_up, seen, unseen, own_base, next_dot, if_unseen, joining, apply, compacted, handed_off, effect, above_own_base, may_apply, may_add, allowed}
use Rattle.replica.specs.Rule.{History, no_history, adds_of, next_own, note_actor, note_own_add, noted, pairs, removed, Paired, OneLabelPerDot}
use Rattle.replica.specs.Shrinking.{shrunk, Shrinks}
use Rattle.replica.proofs.Listings.{fewer}
use Rattle.replica.proofs.Shrinking.{compaction_shrinks}

-- one own add more counts for its actor
pub adds-more : {t : Bool} (a b : Actor) (bs : List Actor) → compare_is_eq (compare_actors a b) ≡ t → adds_of a (b ∷ bs) ≡ adds_of a bs + cond t 1 0
unfolding adds_of
adds-more a b bs e = ap (λ (t : Bool). adds_of a bs + cond t 1 0) e

module _ (C : ClockModel) (L : ClockLaws C) where
  pub record Invariant (s : State C) (h : History) : Type 0 where
    pub actor-is : s.actor ≡ h.actor
    pub well : L.WellFormed s.clock
    pub tombstone-ascends : Ascending compare_dots s.tombstone
    pub keys-ascend : Ascending compare_entries s.keys
    -- the clock sees just the dots in either set
    pub seen-named : (d : Dot) → T (seen C s d) → Paired h.messages d ⊎ (d ∈ removed h.messages)
    pub named-seen : (d : Dot) → Paired h.messages d ⊎ (d ∈ removed h.messages) → T (seen C s d)
    -- the keys are pairs, and a pair that is not removed has its key: this field alone needs the proviso
    pub key_paired : (e : Entry) → e ∈ s.keys → e ∈ pairs h.messages
    pub live-stored : OneLabelPerDot (pairs h.messages) → (e : Entry) → e ∈ pairs h.messages → (e.dot ∈ removed h.messages → ⊥) → e ∈ s.keys
    -- a removed key is in the tombstone, and what is there is removed
    pub dead-tombstoned : (e : Entry) → e ∈ s.keys → e.dot ∈ removed h.messages → e.dot ∈ s.tombstone
    pub tombstoned-removed : (d : Dot) → d ∈ s.tombstone → d ∈ removed h.messages
    -- of every actor the clock sees as many events as it has own adds, and of the actor now no more
    pub own-seen : (b : Actor) (n : ℕ) → n < adds_of b h.own_adds → T (seen C s (dot_of b (n + 1)))
    pub own-bounded : (n : ℕ) → T (seen C s (dot_of s.actor n)) → n ≤ adds_of s.actor h.own_adds

  pub at-start : (a : Actor) → Invariant (set_up C a) (no_history a)
  unfolding flat_map adds_of
  at-start a = record {
    actor-is = refl;
    well = L.zero-well;
    tombstone-ascends = tt;
    keys-ascend = tt;
    seen-named = λ d t. absurd (L.zero-unseen d t);
    named-seen = λ d. ⊎_elim (λ p. absurd (Memᴰ.not-nil p.1)) (λ m. absurd (Memᴰ.not-nil m));
    key_paired = λ e m. m;
    live-stored = λ single e m n. m;
    dead-tombstoned = λ e m n. n;
    tombstoned-removed = λ d m. m;
    own-seen = λ b n k. absurd (omega arith);
    own-bounded = λ n t. absurd (L.zero-unseen (dot_of a n) t);
  }

  -- the own base is the number of own adds of the actor now
  pub own-base : {s : State C} {h : History} → Invariant s h → own_base C s ≡ adds_of s.actor h.own_adds
  own-base {s} {h} inv = omega (arith, not_less, not_more)
    where
      b : ℕ
      b = own_base C s

      n : ℕ
      n = adds_of s.actor h.own_adds

      not_less : b < n → ⊥
      not_less k = L.run_ends s.clock inv.well s.actor (inv.own-seen s.actor b k)

      not_more : n < b → ⊥
      not_more k = let r = inv.own-bounded (n + 1) (L.run-seen s.clock inv.well s.actor n k) in omega arith

  pub next-dot : {s : State C} {h : History} → Invariant s h → next_dot C s ≡ next_own h
  next-dot {s} {h} inv = ap (λ n. dot_of s.actor (n + 1)) (own-base inv) ∙ ap (λ b. dot_of b (adds_of b h.own_adds + 1)) inv.actor-is

  -- what a message, the entries stored for it and the own adds with it must meet
  record Absorbable (s : State C) (h : History) (m : Message) (fresh : List Entry) (adds : List Actor) : Type 0 where
    fits : T (C.fits s.clock (joining C s fresh (context_of m)))
    fresh_paired : (e : Entry) → e ∈ fresh → e ∈ pairs_of m
    paired_fresh : (e : Entry) → e ∈ pairs_of m → (e ∈ fresh) ⊎ T (seen C s e.dot)
    fresh-unseen : (e : Entry) → e ∈ fresh → T (seen C s e.dot) → ⊥
    -- refusal 6
    not_own_context : (e : Entry) → e ∈ pairs_of m → e.dot ∈ context_of m → ⊥
    -- refusal 8, and an own add's dot
    own-kept : adds_of s.actor h.own_adds ≤ adds_of s.actor adds
    own-reached : (b : Actor) (n : ℕ) → n < adds_of b adds → (n < adds_of b h.own_adds) ⊎ ((l : Label) × (entry l (dot_of b (n + 1)) ∈ fresh))
    own-offered : (n : ℕ) → dot_of s.actor n ∈ joining C s fresh (context_of m) → n ≤ adds_of s.actor adds

  module _ {s : State C} {h : History} (inv : Invariant s h) {m : Message} {fresh : List Entry} {adds : List Actor}
      (ok : Absorbable s h m fresh adds) where
    abbrev ms : List Message
    ms = h.messages

    abbrev after : State C
    after = apply C s fresh (context_of m)

    joined : List Dot
    joined = joining C s fresh (context_of m)

    after-sees : (d : Dot) → T (seen C s d) ⊎ (d ∈ joined) → T (seen C after d)
    unfolding apply joined
    after-sees d = (L.join-sees s.clock joined inv.well ok.fits d).1

    sees-after : (d : Dot) → T (seen C after d) → T (seen C s d) ⊎ (d ∈ joined)
    unfolding apply joined
    sees-after d = (L.join-sees s.clock joined inv.well ok.fits d).0

    fresh-joined : {l : Label} {d : Dot} → entry l d ∈ fresh → d ∈ joined
    unfolding joined
    fresh-joined k = Memᴰ.append_left (keep (unseen C s) (context_of m)) (Memᴰ.map entry_dot k)

    -- each dot of the context is seen afterwards
    context-seen : (d : Dot) → d ∈ context_of m → T (seen C after d)
    unfolding joined
    context-seen d k = after-sees d (⊎_map (λ t. t) (λ t. Memᴰ.append_right (map entry_dot fresh) (member-keep (unseen C s) (context_of m) k t)) (decide (seen C s d)))

    joined-named : (d : Dot) → d ∈ joined → Paired (m ∷ ms) d ⊎ (d ∈ removed (m ∷ ms))
    unfolding joined flat_map
    joined-named d k = ⊎_map of_fresh of_context (Memᴰ.append_cases (map entry_dot fresh) k)
      where
        of_fresh : d ∈ map entry_dot fresh → Paired (m ∷ ms) d
        of_fresh k' =
            let w = Memᴰ.of_map entry_dot fresh k' in
            (w.0.label, Memᴰ.append_left (pairs ms) (Memᴰ.cast (ap (entry w.0.label) (sym w.2)) (ok.fresh_paired w.0 w.1)))

        of_context : d ∈ keep (unseen C s) (context_of m) → d ∈ removed (m ∷ ms)
        of_context k' = Memᴰ.append_left (removed ms) (keep-member (unseen C s) (context_of m) k').0

    older : (d : Dot) → Paired ms d ⊎ (d ∈ removed ms) → Paired (m ∷ ms) d ⊎ (d ∈ removed (m ∷ ms))
    unfolding flat_map
    older d = ⊎_map (λ p. (p.0, Memᴰ.append_right (pairs_of m) p.1)) (Memᴰ.append_right (context_of m))

    after_seen_named : (d : Dot) → T (seen C after d) → Paired (m ∷ ms) d ⊎ (d ∈ removed (m ∷ ms))
    after_seen_named d t = ⊎_elim (λ k. older d (inv.seen-named d k)) (joined-named d) (sees-after d t)

    after_named_seen : (d : Dot) → Paired (m ∷ ms) d ⊎ (d ∈ removed (m ∷ ms)) → T (seen C after d)
    unfolding flat_map
    after_named_seen d (inl p) = ⊎_elim (λ k. after-sees d (new (ok.paired_fresh (entry p.0 d) k))) (λ k. after-sees d (inl (inv.named-seen d (inl (p.0, k))))) (Memᴰ.append_cases (pairs_of m) p.1)
      where
        new : (entry p.0 d ∈ fresh) ⊎ T (seen C s d) → T (seen C s d) ⊎ (d ∈ joined)
        new (inl k) = inr (fresh-joined k)
        new (inr t) = inl t
    after_named_seen d (inr k) = ⊎_elim (context-seen d) (λ k'. after-sees d (inl (inv.named-seen d (inr k')))) (Memᴰ.append_cases (context_of m) k)

    after_key_paired : (e : Entry) → e ∈ after.keys → e ∈ pairs (m ∷ ms)
    unfolding apply flat_map
    after_key_paired e k =
        ⊎_elim (λ f. Memᴰ.append_left (pairs ms) (ok.fresh_paired e f)) (λ o. Memᴰ.append_right (pairs_of m) (inv.key_paired e o))
        (insert_all-member compare_entries entries fresh s.keys k)

    after_live_stored : OneLabelPerDot (pairs (m ∷ ms)) → (e : Entry) → e ∈ pairs (m ∷ ms) → (e.dot ∈ removed (m ∷ ms) → ⊥) → e ∈ after.keys
    unfolding apply flat_map
    after_live_stored single e k live = member-insert_all compare_entries entries fresh s.keys (by_age (Memᴰ.append_cases (pairs_of m) k))
      where
        stored : e ∈ pairs ms → e ∈ s.keys
        stored o = inv.live-stored (fewer {ms = ms} {ms' = m ∷ ms} (λ x. Memᴰ.tail) single) e o (λ r. live (Memᴰ.append_right (context_of m) r))

        -- an add already seen: its dot has a pair, which by `single` is this one
        repeated : Paired ms e.dot ⊎ (e.dot ∈ removed ms) → e ∈ s.keys
        repeated (inl p) = stored (Memᴰ.cast (ap (λ l. entry l e.dot) (single e.dot e.label p.0 k (Memᴰ.append_right (pairs_of m) p.1))) p.1)
        repeated (inr r) = absurd (live (Memᴰ.append_right (context_of m) r))

        by_age : (e ∈ pairs_of m) ⊎ (e ∈ pairs ms) → (e ∈ fresh) ⊎ (e ∈ s.keys)
        by_age (inl n) = ⊎_map (λ f. f) (λ t. repeated (inv.seen-named e.dot t)) (ok.paired_fresh e n)
        by_age (inr o) = inr (stored o)

    after_dead_buried : (e : Entry) → e ∈ after.keys → e.dot ∈ removed (m ∷ ms) → e.dot ∈ after.tombstone
    unfolding apply flat_map
    after_dead_buried e k r = member-insert_all compare_dots dots (keep (seen C s) (context_of m)) s.tombstone (by_age (insert_all-member compare_entries entries fresh s.keys k) (Memᴰ.append_cases (context_of m) r))
      where
        by_age : (e ∈ fresh) ⊎ (e ∈ s.keys) → (e.dot ∈ context_of m) ⊎ (e.dot ∈ removed ms) → (e.dot ∈ keep (seen C s) (context_of m)) ⊎ (e.dot ∈ s.tombstone)
        by_age (inl f) (inl c) = absurd (ok.not_own_context e (ok.fresh_paired e f) c)
        by_age (inl f) (inr o) = absurd (ok.fresh-unseen e f (inv.named-seen e.dot (inr o)))
        by_age (inr g) (inl c) = inl (member-keep (seen C s) (context_of m) c (inv.named-seen e.dot (inl (e.label, inv.key_paired e g))))
        by_age (inr g) (inr o) = inr (inv.dead-tombstoned e g o)

    after_buried_removed : (d : Dot) → d ∈ after.tombstone → d ∈ removed (m ∷ ms)
    unfolding apply flat_map
    after_buried_removed d k =
        ⊎_elim (λ c. Memᴰ.append_left (removed ms) (keep-member (seen C s) (context_of m) c).0) (λ o. Memᴰ.append_right (context_of m) (inv.tombstoned-removed d o))
        (insert_all-member compare_dots dots (keep (seen C s) (context_of m)) s.tombstone k)

    after_own_seen : (b : Actor) (n : ℕ) → n < adds_of b adds → T (seen C after (dot_of b (n + 1)))
    after_own_seen b n k = after-sees (dot_of b (n + 1)) (⊎_map (inv.own-seen b n) (λ p. fresh-joined p.1) (ok.own-reached b n k))

    after_own_bounded : (n : ℕ) → T (seen C after (dot_of s.actor n)) → n ≤ adds_of s.actor adds
    unfolding joined
    after_own_bounded n t = ⊎_elim (λ k. let b = inv.own-bounded n k in let g = ok.own-kept in omega arith) (ok.own-offered n) (sees-after (dot_of s.actor n) t)

    applied : Invariant (apply C s fresh (context_of m)) (record { actor = h.actor; own_adds = adds; messages = m ∷ h.messages })
    unfolding apply
    applied = record {
      actor-is = inv.actor-is;
      well = L.join-well s.clock (joining C s fresh (context_of m)) inv.well ok.fits;
      tombstone-ascends = ascending-insert_all compare_dots dots (keep (seen C s) (context_of m)) s.tombstone inv.tombstone-ascends;
      keys-ascend = ascending-insert_all compare_entries entries fresh s.keys inv.keys-ascend;
      seen-named = after_seen_named;
      named-seen = after_named_seen;
      key_paired = after_key_paired;
      live-stored = after_live_stored;
      dead-tombstoned = after_dead_buried;
      tombstoned-removed = after_buried_removed;
      own-seen = after_own_seen;
      own-bounded = after_own_bounded;
    }

  pub shrinking_keeps : {s : State C} {h : History} {keys : List Entry} {tombstone : List Dot} → Invariant s h → Shrinks C s keys tombstone
      → Invariant (shrunk C s keys tombstone) h
  shrinking_keeps inv less = record {
    actor-is = inv.actor-is;
    well = inv.well;
    tombstone-ascends = less.tombstone-ascends inv.tombstone-ascends;
    keys-ascend = less.keys-ascend inv.keys-ascend;
    seen-named = inv.seen-named;
    named-seen = inv.named-seen;
    key_paired = λ e k. inv.key_paired e (less.key-old e k);
    live-stored = λ single e p live. ⊎_elim (λ k. k) (λ b. absurd (live (inv.tombstoned-removed e.dot b))) (less.dropped-tombstoned e (inv.live-stored single e p live));
    dead-tombstoned = λ e k r. less.kept-tombstoned e k (inv.dead-tombstoned e (less.key-old e k) r);
    tombstoned-removed = λ d k. inv.tombstoned-removed d (less.dot-old d k);
    own-seen = inv.own-seen;
    own-bounded = inv.own-bounded;
  }

  compaction_keeps : {s : State C} {h : History} → Invariant s h → Invariant (compacted C s) h
  unfolding compacted
  compaction_keeps {s = s} inv = shrinking_keeps inv (compaction_shrinks C s)

  -- another actor goes on, of which nothing was seen; so it has no own adds in the history either
  hand_off_keeps : {s : State C} {h : History} → Invariant s h → (b : Actor) → T (C.unused s.clock b)
      → Invariant (handed_off C s b) (record { actor = b; own_adds = h.own_adds; messages = h.messages })
  unfolding handed_off
  hand_off_keeps {s} inv b empty = record {
    actor-is = refl;
    well = inv.well;
    tombstone-ascends = inv.tombstone-ascends;
    keys-ascend = inv.keys-ascend;
    seen-named = inv.seen-named;
    named-seen = inv.named-seen;
    key_paired = inv.key_paired;
    live-stored = inv.live-stored;
    dead-tombstoned = inv.dead-tombstoned;
    tombstoned-removed = inv.tombstoned-removed;
    own-seen = inv.own-seen;
    own-bounded = λ n t. absurd (L.unused-unseen s.clock b empty n t);
  }

  module _ {s : State C} {h : History} (inv : Invariant s h) where
    -- refusal 8
    own_limit : (ds : List Dot) → T (not (any (above_own_base C s) ds)) → (n : ℕ) → dot_of s.actor n ∈ ds → n ≤ adds_of s.actor h.own_adds
    own_limit ds ok n k = ⊎_elim (λ t. let b = own-base inv in let r = leb→le n (own_base C s) t in omega arith) above (decide (leb n (own_base C s)))
      where
        above : T (not (leb n (own_base C s))) → n ≤ adds_of s.actor h.own_adds
        above t = absurd (T_not (any (above_own_base C s) ds) ok
            (any-member (above_own_base C s) ds k (T_and (compare_is_eq (compare_actors s.actor s.actor)) (not (leb n (own_base C s))) (pass (ap compare_is_eq (actors.self s.actor))) t)))

    -- a message that is not an own add's: the entries stored are its unseen pairs
    taken : (m : Message) (fresh : List Entry) (offered : List Dot)
        → T (may_apply C s fresh offered (context_of m))
        → ((e : Entry) → e ∈ fresh → (e ∈ pairs_of m) × (e.dot ∈ offered) × T (unseen C s e.dot))
        → ((e : Entry) → e ∈ pairs_of m → (e ∈ fresh) ⊎ T (seen C s e.dot))
        → ((e : Entry) → e ∈ pairs_of m → e.dot ∈ context_of m → ⊥)
        → Absorbable s h m fresh h.own_adds
    taken m fresh offered may new old apart = record {
      fits = checked.0;
      fresh_paired = λ e k. (new e k).0;
      paired_fresh = old;
      fresh-unseen = λ e k. T_not (seen C s e.dot) (new e k).2;
      not_own_context = apart;
      own-kept = omega arith;
      own-reached = λ b n k. inl k;
      own-offered = λ n k. own_limit (offered ++ context_of m) checked.1 n (all-offered n (Memᴰ.append_cases (map entry_dot fresh) k));
    }
      where
        checked : T (C.fits s.clock (joining C s fresh (context_of m))) × T (not (any (above_own_base C s) (offered ++ context_of m)))
        checked = T_both (C.fits s.clock (joining C s fresh (context_of m))) (not (any (above_own_base C s) (offered ++ context_of m))) may

        all-offered : (n : ℕ) → (dot_of s.actor n ∈ map entry_dot fresh) ⊎ (dot_of s.actor n ∈ keep (unseen C s) (context_of m)) → dot_of s.actor n ∈ offered ++ context_of m
        all-offered n (inl k) = let w = Memᴰ.of_map entry_dot fresh k in Memᴰ.append_left (context_of m) (Memᴰ.cast (sym w.2) (new w.0 w.1).1)
        all-offered n (inr k) = Memᴰ.append_right offered (keep-member (unseen C s) (context_of m) k).0

    removal : (context : Context) → T (may_apply C s [] [] context) → Absorbable s h (remove context) [] h.own_adds
    removal context may = taken (remove context) [] [] may (λ e k. absurd (Memᴰ.not-nil k)) (λ e k. absurd (Memᴰ.not-nil k)) (λ e k. absurd (Memᴰ.not-nil k))

    addition : (l : Label) (d : Dot) (context : Context) → T (may_add C s (if_unseen C s l d) d (d ∷ []) context) → Absorbable s h (add l d context) (if_unseen C s l d) h.own_adds
    addition l d context may = taken (add l d context) (if_unseen C s l d) (d ∷ []) checked.0 (λ e. new e (seen C s d) refl) (λ e k. old e (Memᴰ.eq_of_singleton k) (seen C s d) refl) apart
      where
        checked : T (may_apply C s (if_unseen C s l d) (d ∷ []) context) × T (not (member compare_dots d context))
        checked = T_both (may_apply C s (if_unseen C s l d) (d ∷ []) context) (not (member compare_dots d context)) may

        new : (e : Entry) (b : Bool) → seen C s d ≡ b → e ∈ cond b [] (entry l d ∷ []) → (e ∈ entry l d ∷ []) × (e.dot ∈ d ∷ []) × T (unseen C s e.dot)
        new e true p k = absurd (Memᴰ.not-nil k)
        new e false p k =
            let q = Memᴰ.eq_of_singleton k in
            (k, Memᴰ.head (ap entry_dot q), pass (ap (λ (x : Entry). unseen C s x.dot) q ∙ ap not p))

        old : (e : Entry) → e ≡ entry l d → (b : Bool) → seen C s d ≡ b → (e ∈ cond b [] (entry l d ∷ [])) ⊎ T (seen C s e.dot)
        old e q true p = inr (pass (ap (λ (x : Entry). seen C s x.dot) q ∙ p))
        old e q false p = inl (Memᴰ.head q)

        apart : (e : Entry) → e ∈ entry l d ∷ [] → e.dot ∈ context → ⊥
        apart e k c = not_member compare_dots dots context checked.1 (Memᴰ.cast (ap entry_dot (sym (Memᴰ.eq_of_singleton k))) c)

    own-addition : (l : Label) (context : Context) → T (may_add C s (entry l (next_dot C s) ∷ []) (next_dot C s) [] context)
        → Absorbable s h (add l (next_dot C s) context) (entry l (next_dot C s) ∷ []) (h.actor ∷ h.own_adds)
    own-addition l context may = record {
      fits = (T_both (C.fits s.clock (joining C s fresh context)) (not (any (above_own_base C s) context)) checked.0).0;
      fresh_paired = λ e k. k;
      paired_fresh = λ e k. inl k;
      fresh-unseen = λ e k t. L.run_ends s.clock inv.well s.actor (subst (λ (d : Dot). T (seen C s d)) (is-next k) t);
      not_own_context = λ e k c. not_member compare_dots dots context checked.1 (Memᴰ.cast (sym (is-next k)) c);
      own-kept = let g = one_more in omega arith;
      own-reached = reached;
      own-offered = λ n k. offered n (Memᴰ.append_cases (map entry_dot fresh) k);
    }
      where
        fresh : List Entry
        fresh = entry l (next_dot C s) ∷ []

        checked : T (may_apply C s fresh [] context) × T (not (member compare_dots (next_dot C s) context))
        checked = T_both (may_apply C s fresh [] context) (not (member compare_dots (next_dot C s) context)) may

        is-next : {e : Entry} → e ∈ entry l (next_dot C s) ∷ [] → e.dot ≡ next_dot C s
        is-next k = ap entry_dot (Memᴰ.eq_of_singleton k)

        one_more : adds_of s.actor (h.actor ∷ h.own_adds) ≡ adds_of s.actor h.own_adds + 1
        one_more = adds-more s.actor h.actor h.own_adds (ap compare_is_eq (ap (compare_actors s.actor) (sym inv.actor-is) ∙ actors.self s.actor))

        -- of the own actor the next dot, of any other what there was
        reached : (b : Actor) (n : ℕ) → n < adds_of b (h.actor ∷ h.own_adds) → (n < adds_of b h.own_adds) ⊎ ((l' : Label) × (entry l' (dot_of b (n + 1)) ∈ fresh))
        reached b n k = by (compare_is_eq (compare_actors b h.actor)) refl (decide (ltb n (adds_of b h.own_adds)))
          where
            next : compare_is_eq (compare_actors b h.actor) ≡ true → T (not (ltb n (adds_of b h.own_adds))) → entry l (dot_of b (n + 1)) ≡ entry l (next_dot C s)
            next e t =
                let own : b ≡ s.actor = actors.tie b h.actor (tie-is (compare_actors b h.actor) (pass e)) ∙ sym inv.actor-is in
                let r = nltb→le n (adds_of b h.own_adds) t in
                let g = adds-more b h.actor h.own_adds e in
                let q = ap (λ (x : Actor). adds_of x h.own_adds) own in
                let o = own-base inv in
                let p : n ≡ own_base C s = omega arith in
                λ i. entry l (dot_of (own i) (p i + 1))

            by : (same : Bool) → compare_is_eq (compare_actors b h.actor) ≡ same → T (ltb n (adds_of b h.own_adds)) ⊎ T (not (ltb n (adds_of b h.own_adds)))
                → (n < adds_of b h.own_adds) ⊎ ((l' : Label) × (entry l' (dot_of b (n + 1)) ∈ fresh))
            by same e (inl t) = inl (ltb→lt n (adds_of b h.own_adds) t)
            by true e (inr t) = inr (l, Memᴰ.head (next e t))
            by false e (inr t) = let g = adds-more b h.actor h.own_adds e in inl (omega arith)

        offered : (n : ℕ) → (dot_of s.actor n ∈ map entry_dot fresh) ⊎ (dot_of s.actor n ∈ keep (unseen C s) context) → n ≤ adds_of s.actor (h.actor ∷ h.own_adds)
        offered n (inl k) = let q = ap (λ (d : Dot). d.counter.number) (Memᴰ.eq_of_singleton k) in let b = own-base inv in let g = one_more in omega arith
        offered n (inr k) =
            let ok = (T_both (C.fits s.clock (joining C s fresh context)) (not (any (above_own_base C s) context)) checked.0).1 in
            let r = own_limit context ok n (keep-member (unseen C s) context k).0 in
            let g = one_more in
            omega arith

    -- every accepted call keeps the invariant
    pub call_keeps : (c : Call) → T (allowed C s c) → Invariant (effect C s c) (noted h c)
    unfolding effect allowed messages_of note_actor note_own_add
    call_keeps (own_add l context) may =
        subst (λ (d : Dot). Invariant (apply C s (entry l (next_dot C s) ∷ []) context) (record { actor = h.actor; own_adds = h.actor ∷ h.own_adds; messages = add l d context ∷ h.messages })) (next-dot inv)
        (applied inv (own-addition l context may))
    call_keeps (own_remove context) may = applied inv (removal context may)
    call_keeps (take_in (add l d context)) may = applied inv (addition l d context may)
    call_keeps (take_in (remove context)) may = applied inv (removal context may)
    call_keeps reads may = inv
    call_keeps compact may = compaction_keeps inv
    call_keeps (hand_off b) may = hand_off_keeps inv b may
