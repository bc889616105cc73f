-- Demand 3, proved: the machine's theorem, read through the bytes. Assumes nothing.
use mathlib.Core.Path.{◌≡◌, refl, sym, ap, ◌∙◌, subst}
use mathlib.Core.Logic.{◌↔◌}
use mathlib.Core.Bool.{Bool, true, false, cond}
use mathlib.Core.List.Memᴰ
use mathlib.Core.List.{List, [], ◌∷◌, ◌++◌, map, flat_map, cons≢nil}
use lib.Dec.{T}
use lib.ListN.{length}
use Rattle.wire.specs.Lists.{◌∈◌, SameMembers, keep, insert_all}
use Rattle.wire.specs.Bytes.{Bytes}
use Rattle.dots.specs.Names.{Name}
use Rattle.dots.specs.Dots.{actor_of}
use Rattle.dots.specs.Entries.{Entry, Line, line_labels}
use Rattle.dots.specs.Message.{Message}
use Rattle.messages.specs.Read.{message_of}
use Rattle.store.specs.Cut.{store_bytes}
use Rattle.listing.specs.Listing.{line_size, listing_bytes}
use Rattle.replica.specs.Page.{page_after, page_more}
use Rattle.replica.specs.Machine.{compact, effect, compacted, listing, found, messages_of as machine_messages}
use Rattle.replica.specs.Rule.{History, no_history, noted, history_from, pairs, live_pairs, rule_listing, OneLabelPerDot}
use Rattle.replica.specs.Read.{read_of, merged_lines}
use Rattle.replica.specs.Demand3.{Life, end_of as life_end, accepted, traffic_of as life_traffic, ListsJust as MachineLists, Follows as MachineFollows, ListAlike as MachineAlike, Agree as MachineAgree}
use Rattle.replica.proofs.Listings.{fewer, is-listing}
use Rattle.replica.proofs.RowClock.{controllers_follow, controllers_agree, controllers_merge, controllers_exchange}
use Rattle.calls.specs.State.{clock_model, name_of, view}
use Rattle.calls.specs.Effect.{tombstone_of, state_of}
use Rattle.calls.specs.Calls.{Result, Looked, list_refusals, list_result, more_follow, lookup_result, merge_lines, merge_refusals, merge_result}
use Rattle.calls.specs.Sequence.{Input, add_input, remove_input, message_input, read_input, list_input, page_input, lookup_input, compact_input, hand_off_input, Held, started, result_of, accepts, output, held_after, step, call_of, events, message_bytes_of, traffic, merge_of}
use Rattle.calls.specs.Demand3.{Accepted, ListsJust, Follows, ListAlike, Agree, Controlled, messages_of, traffic_of, end_of, Demand3, MergeAccepted, Merges}
use Rattle.calls.proofs.Reading.{used-after, view_of}
use Rattle.calls.proofs.Decided.{looked-done, Sized}
use Rattle.calls.proofs.Accepted.{compact-accepted}
use Rattle.calls.proofs.Instance.{lines-put, same_view, is-machine, SizedHeld, stepped, controller}
use Rattle.calls.proofs.Paging.{page_gives}
use Rattle.calls.proofs.Sequences.{run-same, events-same, traffic-same, run-name, traffic-named, start_of, start-view, start-name}

-- ---- what accepted listings, pages, lookups, compactions and merged reads show

module _ (h : Held) (sized : Sized h) where
  same-listing : (past : Bytes) → listing clock_model (view h.state (h.used ++ past)) ≡ listing clock_model (view_of h)
  same-listing past = ap (listing clock_model) (same_view h sized past)

  listed-is : (past out : Bytes) → Accepted h (list_input past out)
      → (output (result_of h (list_input past out)) ≡ listing_bytes (listing clock_model (view_of h))) × ((result_of h (list_input past out)).labels ≡ length (listing clock_model (view_of h)))
  unfolding result_of list_result
  listed-is past out acc =
      let store : Bytes = h.used ++ past in
      let put = lines-put h.state store out (list_refusals h.state store out) (listing clock_model (view h.state store)) acc in
      (put.0 ∙ ap listing_bytes (same-listing past), put.1 ∙ ap length (same-listing past))

  -- of the lines that are the listing's
  paged-is : (ls : List Line) → listing clock_model (view_of h) ≡ ls → (start past out : Bytes) → Accepted h (page_input start past out)
      → (output (result_of h (page_input start past out)) ≡ listing_bytes (page_after line_size ls start (length out)))
      × ((result_of h (page_input start past out)).labels ≡ length (page_after line_size ls start (length out)))
      × (more_follow h.state (h.used ++ past) start out ≡ page_more line_size ls start (length out))
  unfolding result_of
  paged-is ls e start past out acc =
      let g = page_gives h.state (h.used ++ past) start out acc in
      let lines = same-listing past ∙ e in (
        g.output-is ∙ ap (λ ks. listing_bytes (page_after line_size ks start (length out))) lines,
        g.labels_are ∙ ap (λ ks. length (page_after line_size ks start (length out))) lines,
        g.more-is ∙ ap (λ ks. page_more line_size ks start (length out)) lines,
      )

  looked-is : (label past : Bytes) → Accepted h (lookup_input label past) → (lookup_result h.state (h.used ++ past) label).listed ≡ found clock_model (view_of h) label
  unfolding result_of
  looked-is label past acc = ap (λ (r : Looked). r.listed) (looked-done h.state (h.used ++ past) label acc).0 ∙ ap (λ m. found clock_model m label) (same_view h sized past)

  -- the used bytes after a compaction are those of the keys left
  compacted-used : (past : Bytes) → Accepted h (compact_input past) → (step h (compact_input past)).used ≡ store_bytes (name_of h.state) (view_of (step h (compact_input past))).keys
  unfolding result_of call_of
  compacted-used past acc =
      let store : Bytes = h.used ++ past in
      let w = compact-accepted h.state store acc in
      let left = ap (λ m. effect clock_model m compact) (same_view h sized past) ∙ sym (is-machine h sized (compact_input past) acc).does in
      ap (λ r. (held_after r).used) w.result_is ∙ used-after h.state store (effect clock_model (view h.state store) compact)
      ∙ ap (λ m. store_bytes (name_of h.state) m.keys) left

-- the tombstone after a compaction is empty
pub compacted-tombstone : (h : Held) (past : Bytes) → Accepted h (compact_input past) → (step h (compact_input past)).state.tombstone ≡ tombstone_of []
unfolding result_of effect compacted state_of
compacted-tombstone h past acc = ap (λ (r : Result). r.state.tombstone) (compact-accepted h.state (h.used ++ past) acc).result_is

-- a merged read of two, of the lines that are theirs
merged-is : (h : Held) → Sized h → (k : Held) → Sized k → (ls : List Line) → merged_lines clock_model (read_of clock_model (view_of h)) (read_of clock_model (view_of k)) ≡ ls
    → (past past' out : Bytes) → MergeAccepted h k past past' out → (output (merge_of h k past past' out) ≡ listing_bytes ls) × ((merge_of h k past past' out).labels ≡ length ls)
unfolding merge_result
merged-is h sized k sized' ls e past past' out acc =
    let store : Bytes = h.used ++ past in
    let store' : Bytes = k.used ++ past' in
    let put = lines-put h.state store out (merge_refusals h.state store k.state store' out) (merge_lines h.state store k.state store') acc in
    let lines : merge_lines h.state store k.state store' ≡ ls =
    (λ i. merged_lines clock_model (read_of clock_model (same_view h sized past i)) (read_of clock_model (same_view k sized' past' i))) ∙ e in
    (put.0 ∙ ap listing_bytes lines, put.1 ∙ ap length lines)

-- ---- through the bytes

lists-held : (name : Name) (ls : List Line) (es : List Entry) (x : SizedHeld) → name_of x.0.state ≡ name → MachineLists clock_model controller ls es x → ListsJust name ls es x.0
unfolding view call_of
lists-held name ls es x n f = record {
  listing-is = λ past out acc. (listed-is x.0 x.1 past out acc).0 ∙ ap listing_bytes f.listing-is;
  labels_are = λ past out acc. (listed-is x.0 x.1 past out acc).1 ∙ ap length f.listing-is;
  page-is = λ start past out acc. (paged-is x.0 x.1 ls f.listing-is start past out acc).0;
  page_labels_are = λ start past out acc. (paged-is x.0 x.1 ls f.listing-is start past out acc).1;
  page_more_is = λ start past out acc. (paged-is x.0 x.1 ls f.listing-is start past out acc).2;
  lookup-is = λ label past acc. subst (λ b. T b ↔ (label ∈ line_labels ls)) (sym (looked-is x.0 x.1 label past acc)) (f.lookup-is label);
  compaction_is = λ past acc.
      compacted-used x.0 x.1 past acc
      ∙ ap (λ m. store_bytes m (view_of (step x.0 (compact_input past))).keys) n
      ∙ ap (store_bytes name) (f.compaction_is (compact_input past) (record { call-is = refl; done = acc }));
}

follows-held : (name : Name) (ms : List Message) (x : SizedHeld) → name_of x.0.state ≡ name → MachineFollows clock_model controller x ms → Follows name ms x.0
unfolding view
follows-held name ms x n f = record {
  rule_means = f.rule_means;
  lists = λ single. lists-held name (rule_listing ms) (live_pairs ms) x n (f.lists single);
  clock-is = f.clock-is;
  compaction_empties = compacted-tombstone x.0;
}

-- of no entries, a set's keys are those of any other
keys_of : (n n' : Name) (es : List Entry) → ((e : Entry) → e ∈ es → n ≡ n') → store_bytes n es ≡ store_bytes n' es
unfolding store_bytes
keys_of n n' [] h = refl
keys_of n n' (e ∷ es) h = ap (λ (m : Name). store_bytes m (e ∷ es)) (h e (Memᴰ.head refl))

alike-held : (x y : SizedHeld)
    → ((past : Bytes) → Accepted x.0 (compact_input past) → (e : Entry) → e ∈ (view_of (step x.0 (compact_input past))).keys → name_of x.0.state ≡ name_of y.0.state)
    → MachineAlike clock_model controller x y → ListAlike x.0 y.0
unfolding call_of
alike-held x y n a = record {
  same-listing = λ past out past' out' acc acc'.
      let p = listed-is x.0 x.1 past out acc in
      let q = listed-is y.0 y.1 past' out' acc' in
      (p.0 ∙ ap listing_bytes a.same-listing ∙ sym q.0, p.1 ∙ ap length a.same-listing ∙ sym q.1);
  same_store = λ past past' acc acc'. (sizes past past' (bytes past past' acc acc'), bytes past past' acc acc');
}
  where
    bytes : (past past' : Bytes) → Accepted x.0 (compact_input past) → Accepted y.0 (compact_input past') → (step x.0 (compact_input past)).used ≡ (step y.0 (compact_input past')).used
    bytes past past' acc acc' =
        compacted-used x.0 x.1 past acc
        ∙ keys_of (name_of x.0.state) (name_of y.0.state) (view_of (step x.0 (compact_input past))).keys (n past acc)
        ∙ ap (store_bytes (name_of y.0.state)) (a.same_keys (compact_input past) (compact_input past') (record { call-is = refl; done = acc }) (record { call-is = refl; done = acc' }))
        ∙ sym (compacted-used y.0 y.1 past' acc')

    sizes : (past past' : Bytes) → (step x.0 (compact_input past)).used ≡ (step y.0 (compact_input past')).used → (step x.0 (compact_input past)).state.used ≡ (step y.0 (compact_input past')).state.used
    sizes past past' e = sym (stepped x (compact_input past)).1.used-size ∙ ap length e ∙ (stepped y (compact_input past')).1.used-size

agree-held : (ms : List Message) (x y : SizedHeld)
    → (OneLabelPerDot (pairs ms) → (past : Bytes) → Accepted x.0 (compact_input past) → (e : Entry) → e ∈ (view_of (step x.0 (compact_input past))).keys → name_of x.0.state ≡ name_of y.0.state)
    → MachineAgree clock_model controller ms x y → Agree ms x.0 y.0
unfolding view call_of
agree-held ms x y n a = record {
  lists = λ single. alike-held x y (n single) (a.lists single);
  same-clock = λ past past' acc acc'. ap (λ w. record { words = w }) (a.same-clock (compact_input past) (compact_input past') (record { call-is = refl; done = acc }) (record { call-is = refl; done = acc' }));
  same-tombstone = λ past past' acc acc'. compacted-tombstone x.0 past acc ∙ sym (compacted-tombstone y.0 past' acc');
}

merges-held : (ms : List Message) (x y : SizedHeld) → merged_lines clock_model (read_of clock_model (view_of x.0)) (read_of clock_model (view_of y.0)) ≡ rule_listing ms → Merges ms x.0 y.0
merges-held ms x y lines = record {
  rule_means = is-listing ms;
  listing-is = λ past past' out acc. (merged-is x.0 x.1 y.0 y.1 (rule_listing ms) lines past past' out acc).0;
  labels_are = λ past past' out acc. (merged-is x.0 x.1 y.0 y.1 (rule_listing ms) lines past past' out acc).1;
}

-- ---- two that exchanged the same messages are of one set, or hold nothing

append-none : {A : Type 0} (xs ys : List A) → xs ++ ys ≡ [] → (xs ≡ []) × (ys ≡ [])
append-none [] ys e = (refl, e)
append-none (x ∷ xs) ys e = absurd (cons≢nil e)

-- where no message was exchanged, the rule has none
nothing-noted : (n : History) (h : Held) (i : Input) (b : Bool) → cond b (message_bytes_of h i) [] ≡ [] → (cond b (noted n (call_of i)) n).messages ≡ n.messages
unfolding message_bytes_of call_of machine_messages
nothing-noted n h i false e = refl
nothing-noted n h (add_input label context past out) true e = absurd (cons≢nil e)
nothing-noted n h (remove_input context past out) true e = absurd (cons≢nil e)
nothing-noted n h (message_input message past) true e = absurd (cons≢nil e)
nothing-noted n h (read_input reading past) true e = refl
nothing-noted n h (compact_input past) true e = refl
nothing-noted n h (hand_off_input past out actor room) true e = refl

no_traffic : (n : History) (h : Held) (is : List Input) → traffic h is ≡ [] → (history_from n (events h is)).messages ≡ n.messages
unfolding traffic events history_from
no_traffic n h [] e = refl
no_traffic n h (i ∷ is) e =
    let parts = append-none (cond (accepts h i) (message_bytes_of h i) []) (traffic (step h i) is) e in
    no_traffic (cond (accepts h i) (noted n (call_of i)) n) (step h i) is parts.1 ∙ nothing-noted n h i (accepts h i) parts.0

no_pairs : (ms : List Message) (e : Entry) → ms ≡ [] → e ∈ live_pairs ms → ⊥
unfolding keep insert_all flat_map
no_pairs ms e none k = let m : e ∈ live_pairs [] = subst (λ ns. e ∈ live_pairs ns) none k in Memᴰ.not-nil m

one_set : (c d : Controlled) → SameMembers (traffic_of c) (traffic_of d) → (e : Entry) → e ∈ live_pairs (messages_of c) → c.name ≡ d.name
one_set c d same e k = by (traffic_of c) refl
  where
    by : (ss : List Bytes) → traffic_of c ≡ ss → c.name ≡ d.name
    by [] none = absurd (no_pairs (messages_of c) e (no_traffic (no_history (actor_of c.actor)) (started c.actor c.name) c.calls none) k)
    by (s ∷ ss) some =
        let here : s ∈ traffic_of c = subst (λ ts. s ∈ ts) (sym some) (Memᴰ.head refl) in
        sym (start-name c) ∙ sym (traffic-named (start_of c) c.calls s here) ∙ traffic-named (start_of d) d.calls s ((same s).0 here) ∙ start-name d

-- more bytes, more messages
pub decoded : (xs ys : List Bytes) → ((s : Bytes) → s ∈ xs → s ∈ ys) → (m : Message) → m ∈ map message_of xs → m ∈ map message_of ys
decoded xs ys to m k = let r = Memᴰ.of_map message_of xs k in subst (λ z. z ∈ map message_of ys) r.2 (Memᴰ.map message_of (to r.0 r.1))

same-decoded : (xs ys : List Bytes) → SameMembers xs ys → SameMembers (map message_of xs) (map message_of ys)
same-decoded xs ys same m = (decoded xs ys (λ s. (same s).0) m, decoded ys xs (λ s. (same s).1) m)

-- ---- the claims

module _ (c : Controlled) where
  -- its life, as the machine has it
  abbrev life_of : Life clock_model controller
  life_of = record { actor = actor_of c.actor; start = start_of c; fresh = start-view c; calls = c.calls }

  reached : SizedHeld
  reached = life_end clock_model controller life_of

  reached-is : reached.0 ≡ end_of c
  unfolding reached
  reached-is = run-same (start_of c) c.calls

  reached-name : name_of reached.0.state ≡ c.name
  reached-name = ap (λ h. name_of h.state) reached-is ∙ run-name (start_of c) c.calls ∙ start-name c

  accepted-is : accepted clock_model controller life_of ≡ messages_of c
  accepted-is = ap (λ es. (history_from (no_history (actor_of c.actor)) es).messages) (events-same (start_of c) c.calls)

  -- the rule's messages are those of the traffic
  pub messages_are : SameMembers (messages_of c) (map message_of (traffic_of c))
  messages_are =
      subst (λ ms. SameMembers ms (map message_of (traffic_of c))) accepted-is
      (subst (SameMembers (accepted clock_model controller life_of)) (traffic-same (start_of c) c.calls) (controllers_exchange controller life_of))

  machine_follows : MachineFollows clock_model controller reached (messages_of c)
  unfolding reached
  machine_follows = subst (λ ms. MachineFollows clock_model controller reached ms) accepted-is (controllers_follow controller life_of)

demand3_follows : (c : Controlled) → Follows c.name (messages_of c) (end_of c)
demand3_follows c = subst (λ h. Follows c.name (messages_of c) h) (reached-is c) (follows-held c.name (messages_of c) (reached c) (reached-name c) (machine_follows c))

module _ (c d : Controlled) (same : SameMembers (traffic_of c) (traffic_of d)) where
  abbrev both : List Message
  both = messages_of c ++ messages_of d

  machines_agree : MachineAgree clock_model controller both (reached c) (reached d)
  unfolding reached
  machines_agree =
      let traffics : SameMembers (life_traffic clock_model controller (life_of c)) (life_traffic clock_model controller (life_of d)) =
      rw (traffic-same (start_of c) c.calls, traffic-same (start_of d) d.calls) (same-decoded (traffic_of c) (traffic_of d) same) in
      subst (λ ms. MachineAgree clock_model controller ms (reached c) (reached d)) (λ i. accepted-is c i ++ accepted-is d i) (controllers_agree controller (life_of c) (life_of d) traffics)

  -- where a compaction leaves a key, both are of one set
  same_name : OneLabelPerDot (pairs both) → (past : Bytes) → Accepted (reached c).0 (compact_input past)
      → (e : Entry) → e ∈ (view_of (step (reached c).0 (compact_input past))).keys → name_of (reached c).0.state ≡ name_of (reached d).0.state
  unfolding call_of
  same_name single past acc e k =
      let one : OneLabelPerDot (pairs (messages_of c)) = fewer (λ m. Memᴰ.append_left (messages_of d)) single in
      let left = ((machine_follows c).lists one).compaction_is (compact_input past) (record { call-is = refl; done = acc }) in
      reached-name c ∙ one_set c d same e (subst (λ es. e ∈ es) left k) ∙ sym (reached-name d)

  demand3_agree : Agree both (end_of c) (end_of d)
  demand3_agree =
      subst (λ h. Agree both h (end_of d)) (reached-is c) (subst (λ k. Agree both (reached c).0 k) (reached-is d) (agree-held both (reached c) (reached d) same_name machines_agree))

module _ (c d : Controlled) (single : OneLabelPerDot (pairs (messages_of c ++ messages_of d))) where
  -- the lines of both as they are held
  machines_merge : merged_lines clock_model (read_of clock_model (view_of (reached c).0)) (read_of clock_model (view_of (reached d).0)) ≡ rule_listing (messages_of c ++ messages_of d)
  unfolding reached
  machines_merge =
      let both : accepted clock_model controller (life_of c) ++ accepted clock_model controller (life_of d) ≡ messages_of c ++ messages_of d = λ i. accepted-is c i ++ accepted-is d i in
      controllers_merge controller (life_of c) (life_of d) (subst (λ ms. OneLabelPerDot (pairs ms)) (sym both) single) ∙ ap rule_listing both

  demand3_merge : Merges (messages_of c ++ messages_of d) (end_of c) (end_of d)
  demand3_merge =
      let ms : List Message = messages_of c ++ messages_of d in
      subst (λ h. Merges ms h (end_of d)) (reached-is c) (subst (λ k. Merges ms (reached c).0 k) (reached-is d) (merges-held ms (reached c) (reached d) machines_merge))

pub demand_3 : Demand3
demand_3 = record { follows = demand3_follows; agree = demand3_agree; merge = demand3_merge }
