-- Networks: `network_labels`, `labels_need`, `forks_suffice`, `workshops_are`, `networks_hold`, `workshops_hold`, `no_disagreement`. Assumes nothing.
use mathlib.Core.Path.{◌≡◌, refl, sym, ap, ◌∙◌, subst}
use mathlib.Core.Logic.{◌↔◌, ◌⊎◌, inl, inr, ⊎_elim, ⊎_map}
use mathlib.Core.Bool.{Bool, true, false, not, cond, ◌&&◌}
use mathlib.Core.List.Memᴰ
use mathlib.Core.List.{List, [], ◌∷◌, ◌++◌, append_assoc, flat_map}
use mathlib.Core.Option.{some, none-ne-some, some-injective}
use Prim.Native.Nat.{◌≤◌, ◌<◌}
use native.Mathlib.Omega.{arith}
use lib.Dec.{compare_is_eq}
use Rattle.wire.specs.Lists.{◌∈◌, SameMembers}
use Rattle.wire.proofs.Tests.{pass}
use Rattle.wire.proofs.Lists.{tie-is, member-append, flat_map_member, member_flat_map, flat_map_mono}
use Rattle.dots.specs.declared.Actor.{Actor}
use Rattle.dots.specs.declared.Dot.{Dot}
use Rattle.dots.specs.Names.{Label}
use Rattle.dots.specs.Dots.{compare_actors}
use Rattle.dots.specs.Entries.{Entry, entry, line_labels, lines_of}
use Rattle.dots.specs.Message.{Message, pairs_of}
use Rattle.dots.proofs.Orders.{actors}
use Rattle.replica.specs.Clock.{ClockModel, ClockLaws}
use Rattle.replica.specs.Machine.{Call, messages_of, own_add, own_remove, take_in, reads, compact, hand_off, Controller}
use Rattle.replica.specs.Rule.{Event, History, no_history, adds_of, next_own, note_actor, note_own_add, noted, after, history_from, Account, history_of, pairs, rule_listing, OneLabelPerDot}
use Rattle.replica.specs.Demand3.{ListsJust, ListsTheRule, Life, end_of, account_of, accepted}
use Rattle.replica.specs.Network.{is_own_add, pairs_from, own_pairs, taken_pairs, made_in, Unforged, Network, accepted_by, NetworkLabels, LabelsNeed, NoActorInBoth, Forked, ForksSuffice, next, actor_now, box_of, Workshop, opened, sets_up, goes_on, WorkshopsAre, LifeOf, NetworksHold, WorkshopsHold, NoDisagreement}
use Rattle.replica.proofs.Invariant.{adds-more}
use Rattle.replica.proofs.Listings.{flat_map_append, fewer, same_live}
use Rattle.replica.proofs.Theorems.{follows_the_rule, replicas_agree, two_racks, traffic-is}

nothing : {A B : Type 0} {x : B} → x ∈ [] → A
nothing k = absurd (Memᴰ.not-nil k)

-- ---- in one life no dot is made twice

-- the pairs of a call of one kind
abbrev now : (Call → Bool) → History → Event → List Entry
now kind h x = cond (x.accepted && kind x.call) (pairs (messages_of (next_own h) x.call)) []

-- an accepted own add makes one pair, with the next number of its actor
record OwnAdd (h : History) (x : Event) : Type 0 where
  label : Label
  pair_is : (e : Entry) → e ∈ now is_own_add h x → e ≡ entry label (next_own h)
  actor-is : (after h x).actor ≡ h.actor
  adds_are : (after h x).own_adds ≡ h.actor ∷ h.own_adds

own-add : (h : History) (x : Event) {e : Entry} → e ∈ now is_own_add h x → OwnAdd h x
unfolding is_own_add messages_of note_actor note_own_add flat_map
own-add h x {e} k = by x.accepted x.call k
  where
    by : (b : Bool) (c : Call) → e ∈ now is_own_add h (record { call = c; accepted = b }) → OwnAdd h (record { call = c; accepted = b })
    by false c k = nothing k
    by true (own_add l context) k = record { label = l; pair_is = λ e. Memᴰ.eq_of_singleton; actor-is = refl; adds_are = refl }
    by true (own_remove context) k = nothing k
    by true (take_in m) k = nothing k
    by true reads k = nothing k
    by true compact k = nothing k
    by true (hand_off b) k = nothing k

-- no number of own adds falls
adds_grow : (a : Actor) (h : History) (x : Event) → adds_of a h.own_adds ≤ adds_of a (after h x).own_adds
unfolding adds_of note_own_add
adds_grow a h x = by x.accepted x.call
  where
    by : (b : Bool) (c : Call) → adds_of a h.own_adds ≤ adds_of a (cond b (noted h c) h).own_adds
    by false c = omega arith
    by true (own_add l context) = omega arith
    by true (own_remove context) = omega arith
    by true (take_in m) = omega arith
    by true reads = omega arith
    by true compact = omega arith
    by true (hand_off b) = omega arith

-- so an own add's number is above those of the own adds before it
above : (h : History) (es : List Event) (e : Entry) → e ∈ pairs_from is_own_add h es → adds_of e.dot.actor h.own_adds < e.dot.counter.number
unfolding pairs_from
above h [] e k = nothing k
above h (x ∷ es) e k = by (above (after h x) es e) (Memᴰ.append_cases (now is_own_add h x) k)
  where
    by : (e ∈ pairs_from is_own_add (after h x) es → adds_of e.dot.actor (after h x).own_adds < e.dot.counter.number)
        → (e ∈ now is_own_add h x) ⊎ (e ∈ pairs_from is_own_add (after h x) es) → adds_of e.dot.actor h.own_adds < e.dot.counter.number
    by later (inl m) = subst (λ (f : Entry). adds_of f.dot.actor h.own_adds < f.dot.counter.number) (sym ((own-add h x m).pair_is e m)) (omega arith)
    by later (inr m) = let r = later m in let g = adds_grow e.dot.actor h x in omega arith

once-from : (h : History) (es : List Event) → OneLabelPerDot (pairs_from is_own_add h es)
unfolding pairs_from
once-from h [] d l l' k m = nothing k
once-from h (x ∷ es) d l l' k m = by (once-from (after h x) es d l l') (Memᴰ.append_cases (now is_own_add h x) k) (Memᴰ.append_cases (now is_own_add h x) m)
  where
    apart : {l l' : Label} → entry l d ∈ now is_own_add h x → entry l' d ∈ pairs_from is_own_add (after h x) es → ⊥
    apart {l} {l'} k m =
        let own = own-add h x k in
        let next = own.pair_is (entry l d) k in
        let r = above (after h x) es (entry l' d) m in
        let p : adds_of d.actor (after h x).own_adds ≡ adds_of d.actor (h.actor ∷ h.own_adds) = ap (adds_of d.actor) own.adds_are in
        let q : adds_of d.actor (h.actor ∷ h.own_adds) ≡ adds_of h.actor (h.actor ∷ h.own_adds) = ap (λ (e : Entry). adds_of e.dot.actor (h.actor ∷ h.own_adds)) next in
        let g = adds-more h.actor h.actor h.own_adds (ap compare_is_eq (actors.self h.actor)) in
        let n = ap (λ (e : Entry). e.dot.counter.number) next in
        omega arith

    by : (entry l d ∈ pairs_from is_own_add (after h x) es → entry l' d ∈ pairs_from is_own_add (after h x) es → l ≡ l')
        → (entry l d ∈ now is_own_add h x) ⊎ (entry l d ∈ pairs_from is_own_add (after h x) es) → (entry l' d ∈ now is_own_add h x) ⊎ (entry l' d ∈ pairs_from is_own_add (after h x) es) → l ≡ l'
    by below (inl k) (inl m) =
        let own = own-add h x k in
        ap (λ (e : Entry). e.label) (own.pair_is (entry l d) k ∙ sym (own.pair_is (entry l' d) m))
    by below (inl k) (inr m) = absurd (apart k m)
    by below (inr k) (inl m) = absurd (apart m k)
    by below (inr k) (inr m) = below k m

own-once : (c : Account) → OneLabelPerDot (own_pairs c)
own-once c = once-from (no_history c.actor) c.events

-- ---- the pairs of accepted messages are those of own adds and of adds from elsewhere

abbrev is_other : Call → Bool
is_other c = not (is_own_add c)

-- of one call
call-pairs : (h : History) (x : Event) {e : Entry} → (e ∈ pairs (after h x).messages) ↔ ((e ∈ now is_own_add h x) ⊎ ((e ∈ now is_other h x) ⊎ (e ∈ pairs h.messages)))
call-pairs h x {e} = by x.accepted (is_own_add x.call)
  where
    ms : List Message
    ms = messages_of (next_own h) x.call

    parted : (e ∈ pairs (ms ++ h.messages)) ↔ ((e ∈ pairs ms) ⊎ (e ∈ pairs h.messages))
    parted = flat_map_append pairs_of ms h.messages

    by : (b own : Bool) → (e ∈ pairs (cond b (noted h x.call) h).messages) ↔ ((e ∈ cond (b && own) (pairs ms) []) ⊎ ((e ∈ cond (b && not own) (pairs ms) []) ⊎ (e ∈ pairs h.messages)))
    by false own = (λ k. inr (inr k), ⊎_elim nothing (⊎_elim nothing (λ k. k)))
    by true true = (λ k. ⊎_map (λ m. m) inr (parted.0 k), λ w. parted.1 (⊎_map (λ m. m) (⊎_elim nothing (λ m. m)) w))
    by true false = (λ k. inr (parted.0 k), λ w. parted.1 (⊎_elim nothing (λ m. m) w))

accepted-pairs : (h : History) (es : List Event) {e : Entry}
    → (e ∈ pairs (history_from h es).messages) ↔ ((e ∈ pairs_from is_own_add h es) ⊎ ((e ∈ pairs_from is_other h es) ⊎ (e ∈ pairs h.messages)))
unfolding history_from pairs_from
accepted-pairs h [] = (λ k. inr (inr k), ⊎_elim nothing (⊎_elim nothing (λ k. k)))
accepted-pairs h (x ∷ es) = regroup (accepted-pairs (after h x) es) (call-pairs h x) member-append member-append
  where
    regroup : {All Own Other Mid Own₁ Other₁ Old Owns Others : Type 0} → All ↔ (Own ⊎ (Other ⊎ Mid)) → Mid ↔ (Own₁ ⊎ (Other₁ ⊎ Old))
        → Owns ↔ (Own₁ ⊎ Own) → Others ↔ (Other₁ ⊎ Other) → All ↔ (Owns ⊎ (Others ⊎ Old))
    regroup later one own other = (
      λ k. ⊎_elim (λ m. inl (own.1 (inr m))) (⊎_elim (λ m. inr (inl (other.1 (inr m)))) (λ m. ⊎_map (λ n. own.1 (inl n)) (⊎_map (λ n. other.1 (inl n)) (λ n. n)) (one.0 m))) (later.0 k),
      λ w. later.1 (⊎_elim (λ m. ⊎_elim (λ n. inr (inr (one.1 (inl n)))) inl (own.0 m)) (λ v. inr (⊎_elim (λ m. ⊎_elim (λ n. inr (one.1 (inr (inl n)))) inl (other.0 m)) (λ n. inr (one.1 (inr (inr n)))) v)) w),
    )

-- ---- the proviso

abbrev accepted_of : Account → List Message
accepted_of c = (history_of c).messages

pub network_labels : NetworkLabels
unfolding flat_map
network_labels cs net d l l' p q = net.made-once d l l' (made (entry l d) p) (made (entry l' d) q)
  where
    made : (e : Entry) → e ∈ pairs (accepted_by cs) → e ∈ made_in cs
    made e k =
        let w = flat_map_member pairs_of (accepted_by cs) k in
        let v = flat_map_member accepted_of cs w.1 in
        let found = (accepted-pairs (no_history v.0.actor) v.0.events).0 (member_flat_map pairs_of (accepted_of v.0) v.2 w.2) in
        ⊎_elim (member_flat_map own_pairs cs v.1) (⊎_elim (net.unforged v.0 v.1 e) nothing) found

-- of a life of a network, and of two
pub labels_of : (ns : List Account) → Network ns → (c : Account) → c ∈ ns → OneLabelPerDot (pairs (accepted_of c))
labels_of ns net c k = fewer (λ m. member_flat_map accepted_of ns k) (network_labels ns net)

pub labels-both : (ns : List Account) → Network ns → (c d : Account) → c ∈ ns → d ∈ ns → OneLabelPerDot (pairs (accepted_of c ++ accepted_of d))
labels-both ns net c d k n = fewer (λ m w. ⊎_elim (member_flat_map accepted_of ns k) (member_flat_map accepted_of ns n) (member-append.0 w)) (network_labels ns net)

pub labels_need : LabelsNeed
labels_need cs single d l l' p q = single d l l' (known (entry l d) p) (known (entry l' d) q)
  where
    known : (e : Entry) → e ∈ made_in cs → e ∈ pairs (accepted_by cs)
    known e k =
        let v = flat_map_member own_pairs cs k in
        flat_map_mono pairs_of (λ m. member_flat_map accepted_of cs v.1) e ((accepted-pairs (no_history v.0.actor) v.0.events).1 (inl v.2))

-- ---- forks

pairs-append : (kind : Call → Bool) (h : History) (es fs : List Event) → pairs_from kind h (es ++ fs) ≡ pairs_from kind h es ++ pairs_from kind (history_from h es) fs
unfolding pairs_from history_from
pairs-append kind h [] fs = refl
pairs-append kind h (x ∷ es) fs =
    ap (λ ps. now kind h x ++ ps) (pairs-append kind (after h x) es fs) ∙ sym (append_assoc (now kind h x) (pairs_from kind (after h x) es) (pairs_from kind (history_from (after h x) es) fs))

-- of lives with one set-up and the same first calls: after these no actor makes own adds in both
pub common_beginning : (a : Actor) (es fs gs : List Event) → NoActorInBoth (pairs_from is_own_add (history_from (no_history a) es) fs) (pairs_from is_own_add (history_from (no_history a) es) gs)
    → Forked (record { actor = a; events = es ++ fs }) (record { actor = a; events = es ++ gs })
common_beginning a es fs gs apart = record {
  shared = pairs_from is_own_add (no_history a) es;
  rest = pairs_from is_own_add (history_from (no_history a) es) fs;
  rest' = pairs_from is_own_add (history_from (no_history a) es) gs;
  one_is = pairs-append is_own_add (no_history a) es fs;
  other-is = pairs-append is_own_add (no_history a) es gs;
  actors-differ = apart;
}

pub forks_suffice : ForksSuffice
forks_suffice cs unforged once = record { unforged = unforged; made-once = made }
  where
    forked : (c d : Account) → Forked c d → (x : Dot) (l l' : Label) → entry l x ∈ own_pairs c → entry l' x ∈ own_pairs d → l ≡ l'
    forked c d f x l l' k m = by (Memᴰ.append_cases f.shared (subst (λ es. entry l x ∈ es) f.one_is k)) (Memᴰ.append_cases f.shared (subst (λ es. entry l' x ∈ es) f.other-is m))
      where
        -- what is shared is in both lives
        by : (entry l x ∈ f.shared) ⊎ (entry l x ∈ f.rest) → (entry l' x ∈ f.shared) ⊎ (entry l' x ∈ f.rest') → l ≡ l'
        by (inl k') m' = own-once d x l l' (subst (λ es. entry l x ∈ es) (sym f.other-is) (Memᴰ.append_left f.rest' k')) m
        by (inr k') (inl m') = own-once c x l l' k (subst (λ es. entry l' x ∈ es) (sym f.one_is) (Memᴰ.append_left f.rest m'))
        by (inr k') (inr m') = absurd (f.actors-differ (entry l x) (entry l' x) k' m' refl)

    made : OneLabelPerDot (made_in cs)
    made x l l' k m =
        let v = flat_map_member own_pairs cs k in
        let w = flat_map_member own_pairs cs m in
        forked v.0 w.0 (once v.0 w.0 v.1 w.1) x l l' v.2 w.2

-- ---- workshops

history_append : (h : History) (es fs : List Event) → history_from h (es ++ fs) ≡ history_from (history_from h es) fs
unfolding history_from
history_append h [] fs = refl
history_append h (x ∷ es) fs = history_append (after h x) es fs

-- with one call more a life has made what it had, or under its actor
next-made : (c : Account) (x : Event) (e : Entry) → e ∈ own_pairs (next c x) → (e ∈ own_pairs c) ⊎ (e.dot.actor ≡ actor_now (next c x))
unfolding pairs_from history_from
next-made c x e k = ⊎_map (λ m. m) under (Memᴰ.append_cases (own_pairs c) (subst (λ es. e ∈ es) (pairs-append is_own_add (no_history c.actor) c.events (x ∷ [])) k))
  where
    under : e ∈ now is_own_add (history_of c) x ++ [] → e.dot.actor ≡ actor_now (next c x)
    under m =
        let n = ⊎_elim (λ n. n) nothing (Memᴰ.append_cases (now is_own_add (history_of c) x) m) in
        let own = own-add (history_of c) x n in
        ap (λ (f : Entry). f.dot.actor) (own.pair_is e n) ∙ sym own.actor-is ∙ sym (ap (λ (h : History). h.actor) (history_append (no_history c.actor) c.events (x ∷ [])))

still_made : (c : Account) (x : Event) (e : Entry) → e ∈ own_pairs c → e ∈ own_pairs (next c x)
still_made c x e k =
    subst (λ es. e ∈ es) (sym (pairs-append is_own_add (no_history c.actor) c.events (x ∷ []))) (Memᴰ.append_left (pairs_from is_own_add (history_of c) (x ∷ [])) k)

-- made by the box that has its actor
abbrev AtHome : List Account → Entry → Type 0
AtHome cs e = (b : Account) × (box_of cs e.dot.actor ≡ some b) × (e ∈ own_pairs b)

-- what is so in every workshop
record Kept (cs : List Account) : Type 0 where
  unforged : Unforged cs
  at_home : (c : Account) → c ∈ cs → (e : Entry) → e ∈ own_pairs c → AtHome cs e

-- one life more: where it takes a box's place it has made what that box had, and what it made is known or made under its actor
module _ {cs : List Account} (kept : Kept cs) (c : Account)
    (grows : (b : Account) → box_of cs (actor_now c) ≡ some b → (e : Entry) → e ∈ own_pairs b → e ∈ own_pairs c)
    (made : (e : Entry) → e ∈ own_pairs c → AtHome cs e ⊎ (e.dot.actor ≡ actor_now c))
    (taken : (e : Entry) → e ∈ taken_pairs c → e ∈ made_in cs) where
  -- the box of an actor
  box-is : {b : Bool} (a : Actor) → compare_is_eq (compare_actors a (actor_now c)) ≡ b → box_of (c ∷ cs) a ≡ cond b (some c) (box_of cs a)
  box-is a q = ap (λ (t : Bool). cond t (some c) (box_of cs a)) q

  stays-home : (e : Entry) → AtHome cs e → AtHome (c ∷ cs) e
  stays-home e home = by (compare_is_eq (compare_actors e.dot.actor (actor_now c))) refl
    where
      by : (b : Bool) → compare_is_eq (compare_actors e.dot.actor (actor_now c)) ≡ b → AtHome (c ∷ cs) e
      by true q =
          let p = actors.tie e.dot.actor (actor_now c) (tie-is (compare_actors e.dot.actor (actor_now c)) (pass q)) in
          (c, box-is e.dot.actor q, grows home.0 (ap (box_of cs) (sym p) ∙ home.1) e home.2)
      by false q = (home.0, box-is e.dot.actor q ∙ home.1, home.2)

  new_home : (e : Entry) → e ∈ own_pairs c → AtHome (c ∷ cs) e
  new_home e m = ⊎_elim (stays-home e) (λ p. (c, box-is e.dot.actor (ap compare_is_eq (ap (λ a. compare_actors a (actor_now c)) p ∙ actors.self (actor_now c))), m)) (made e m)

  one_more : Kept (c ∷ cs)
  unfolding flat_map
  one_more = record {
    unforged = λ d k e m. Memᴰ.append_right (own_pairs c) (⊎_elim (λ p. taken e (subst (λ z. e ∈ taken_pairs z) p m)) (λ n. kept.unforged d n e m) (Memᴰ.cases_cons k));
    at_home = λ d k e m. ⊎_elim (λ p. new_home e (subst (λ z. e ∈ own_pairs z) p m)) (λ n. stays-home e (kept.at_home d n e m)) (Memᴰ.cases_cons k);
  }

workshop_keeps : {cs : List Account} → Workshop cs → Kept cs
unfolding pairs_from history_from
workshop_keeps opened = record { unforged = λ c. nothing; at_home = λ c. nothing }
workshop_keeps (sets_up w a free) =
    one_more (workshop_keeps w) (record { actor = a; events = [] }) (λ b p. absurd (none-ne-some b (sym free ∙ p))) (λ e. nothing) (λ e. nothing)
workshop_keeps (goes_on {cs} w c here x free written) =
    let kept = workshop_keeps w in
    one_more kept (next c x) (λ b p e m. ⊎_elim (λ q. still_made c x e (subst (λ z. e ∈ own_pairs z) (some-injective b c (sym p ∙ q)) m)) (λ q. absurd (none-ne-some b (sym q ∙ p))) free)
    (λ e m. ⊎_map (kept.at_home c here e) (λ p. p) (next-made c x e m)) written

pub workshops_are : WorkshopsAre
workshops_are cs w = record { unforged = kept.unforged; made-once = once }
  where
    kept : Kept cs
    kept = workshop_keeps w

    home : (e : Entry) → e ∈ made_in cs → AtHome cs e
    home e k = let v = flat_map_member own_pairs cs k in kept.at_home v.0 v.1 e v.2

    once : OneLabelPerDot (made_in cs)
    once d l l' k m =
        let v = home (entry l d) k in
        let w = home (entry l' d) m in
        own-once w.0 d l l' (subst (λ z. entry l d ∈ own_pairs z) (some-injective v.0 w.0 (sym v.1 ∙ w.1)) v.2) w.2

-- ---- controllers

-- where each has all messages that any has, each has all
pub all-reached : {A : Type 0} (f : A → List Message) (cs : List A) → ((c d : A) → c ∈ cs → d ∈ cs → (m : Message) → m ∈ f c → m ∈ f d) → (c : A) → c ∈ cs → SameMembers (f c) (flat_map f cs)
all-reached f cs reached c k m = (member_flat_map f cs k, λ n. let w = flat_map_member f cs n in reached w.0 c w.1 k m w.2)

module _ (C : ClockModel) (L : ClockLaws C) (K : Controller C) where
  -- what is said of some messages is said of the same messages in another order and number
  same_rule : {ms ns : List Message} {x : K.Held} → SameMembers ms ns → ListsTheRule C K ms x → ListsTheRule C K ns x
  unfolding rule_listing
  same_rule {x = x} same lists = subst (λ es. ListsJust C K (lines_of es) es x) (same_live same) lists

  pub networks_hold : NetworksHold C K
  networks_hold ns net = record {
    lists = lists;
    agree = λ c d k m same. (replicas_agree C L K c d same).lists (both c d k m);
    merge = λ c d k m. two_racks C L K c d (both c d k m);
    settled = λ cs known reached c d k m.
        let agree = replicas_agree C L K c d (λ x. (reached c d k m x, reached d c m k x)) in
        let all = all-reached (accepted C K) cs (λ v w i j x n. (traffic-is C L K w x).1 (reached v w i j x ((traffic-is C L K v x).0 n))) c k in
        record { lists = same_rule all (lists c (known c k)); alike = agree.lists (both c d (known c k) (known d m)); agree = agree };
  }
    where
      lists : (c : Life C K) → LifeOf C K ns c → ListsTheRule C K (accepted C K c) (end_of C K c)
      lists c k = (follows_the_rule C L K c).lists (labels_of ns net (account_of C K c) k)

      both : (c d : Life C K) → LifeOf C K ns c → LifeOf C K ns d → OneLabelPerDot (pairs (accepted C K c ++ accepted C K d))
      both c d = labels-both ns net (account_of C K c) (account_of C K d)

  pub workshops_hold : WorkshopsHold C K
  workshops_hold ns w = networks_hold ns (workshops_are ns w)

  pub no_disagreement : NoDisagreement C K
  no_disagreement ns net c d k m dis = dis.other-labels (ap line_labels ((networks_hold ns net).agree c d k m dis.same-messages).same-listing)
