-- Networks of a few lives, computed: a workshop with a hand-off and its two boxes; and what goes wrong where an actor is given out twice, an add is forged
-- or a box forgets own adds: two boxes that accept the same messages and list different labels. Assumes nothing.
use mathlib.Core.Path.{◌≡◌, refl, sym, ap, ◌∙◌, subst}
use mathlib.Core.Logic.{◌⊎◌, inl, inr, ⊎_elim, ⊎_map}
use mathlib.Core.Bool.{true, not}
use mathlib.Core.List.Memᴰ
use mathlib.Core.List.{List, [], ◌∷◌, ◌++◌, map, flat_map, append-nil}
use Prim.Native.Nat.{ℕ}
use native.Mathlib.Omega.{arith}
use lib.Dec.{T, T_not, eqb}
use Rattle.wire.specs.Lists.{◌∈◌, SameMembers, all, member}
use Rattle.wire.specs.Bytes.{compare_bytes}
use Rattle.wire.proofs.Tests.{pass}
use Rattle.wire.proofs.Lists.{member-append, all-member, member_flat_map, member-sound}
use Rattle.dots.specs.declared.Actor.{Actor}
use Rattle.dots.specs.Names.{Label}
use Rattle.dots.specs.Dots.{actor_of}
use Rattle.dots.specs.Entries.{Entry, entry, compare_entries, line_labels}
use Rattle.dots.specs.Message.{Message, add}
use Rattle.dots.proofs.Orders.{entries}
use Rattle.clock.specs.Row.{window_width}
use Rattle.replica.specs.Machine.{Call, own_add, take_in, hand_off, set_up, listing}
use Rattle.replica.specs.Rule.{Event, Account}
use Rattle.replica.specs.Demand3.{run, events, traffic, Life, end_of, account_of, traffic_of}
use Rattle.replica.specs.Cases.{clock, B7, B8, dot}
use Rattle.replica.specs.Network.{is_own_add, pairs_from, own_pairs, taken_pairs, made_in, Unforged, Network, Forked, ActorsOnce, next, Workshop, opened, sets_up, goes_on, AllReached, Disagree}
use Rattle.replica.proofs.Cases.{computing}
use Rattle.replica.proofs.RowClock.{row_clock_laws}
use Rattle.replica.proofs.Instance.{number, machine}
use Rattle.replica.proofs.Networks.{common_beginning, forks_suffice, no_disagreement}

abbrev B9 : Label
B9 = 0x42 ∷ 0x39 ∷ []

abbrev Lived : Type 0
Lived = Life clock machine

-- calls of the machine, set up under actor a
unfoldable pub lived : ℕ → List Call → Lived
unfolding machine
lived a calls = record { actor = actor_of a; start = set_up clock (actor_of a); fresh = refl; calls = calls }

abbrev accounts : List Lived → List Account
accounts = map (account_of clock machine)

abbrev labels_of_lem : Lived → List Label
labels_of_lem c = line_labels (listing clock (machine.view (end_of clock machine c)))

-- all that is computed with here
cases : Unit {0}
unfolding computing flat_map is_own_add pairs_from run events traffic number machine lived
cases = tt

-- ---- what is checked by computing

all_in : (es fs : List Entry) → all (λ (e : Entry). member compare_entries e fs) es ≡ true → (e : Entry) → e ∈ es → e ∈ fs
all_in es fs t e k = member-sound compare_entries entries fs (pass (all-member (λ (e : Entry). member compare_entries e fs) es t e k))

pub unforged-by : (cs : List Account) → all (λ (e : Entry). member compare_entries e (made_in cs)) (flat_map taken_pairs cs) ≡ true → Unforged cs
unforged-by cs t c k e m = all_in (flat_map taken_pairs cs) (made_in cs) t e (member_flat_map taken_pairs cs k m)

forked-self : (c : Account) → Forked c c
forked-self c = record {
  shared = own_pairs c;
  rest = [];
  rest' = [];
  one_is = sym (append-nil (own_pairs c));
  other-is = sym (append-nil (own_pairs c));
  actors-differ = λ e f k. absurd (Memᴰ.not-nil k);
}

forked-back : {c d : Account} → Forked c d → Forked d c
forked-back f = record {
  shared = f.shared;
  rest = f.rest';
  rest' = f.rest;
  one_is = f.other-is;
  other-is = f.one_is;
  actors-differ = λ x y k m same. f.actors-differ y x m k (sym same);
}

-- what is so of each two of two
pub of_two : {A : Type 0} (R : A → A → Type 0) {c d : A} → R c c → R c d → R d c → R d d → (x y : A) → x ∈ c ∷ d ∷ [] → y ∈ c ∷ d ∷ [] → R x y
of_two R {c} {d} cc cd dc dd x y k m = by (Memᴰ.cases_cons k) (Memᴰ.cases_cons m)
  where
    at : {v w : _} → x ≡ v → y ≡ w → R v w → R x y
    at p q r = subst (λ z. R z y) (sym p) (subst (R _) (sym q) r)

    by : (x ≡ c) ⊎ (x ∈ d ∷ []) → (y ≡ c) ⊎ (y ∈ d ∷ []) → R x y
    by (inl p) (inl q) = at p q cc
    by (inl p) (inr q) = at p (Memᴰ.eq_of_singleton q) cd
    by (inr p) (inl q) = at (Memᴰ.eq_of_singleton p) q dc
    by (inr p) (inr q) = at (Memᴰ.eq_of_singleton p) (Memᴰ.eq_of_singleton q) dd

two-once : (c d : Account) → Forked c d → ActorsOnce (c ∷ d ∷ [])
two-once c d fork = of_two Forked (forked-self c) fork (forked-back fork) (forked-self d)

-- the last two of the messages exchanged
swapped : (ms : List Message) (x y : Message) → SameMembers (ms ++ (x ∷ y ∷ [])) (ms ++ (y ∷ x ∷ []))
swapped ms x y z = (by x y, by y x)
  where
    by : (v w : Message) → z ∈ ms ++ (v ∷ w ∷ []) → z ∈ ms ++ (w ∷ v ∷ [])
    by v w k =
        let turned : z ∈ v ∷ w ∷ [] → z ∈ w ∷ v ∷ [] = λ m. (member-append {xs = w ∷ []} {ys = v ∷ []}).1 (⊎_elim inr inl ((member-append {xs = v ∷ []} {ys = w ∷ []}).0 m)) in
        (member-append {xs = ms} {ys = w ∷ v ∷ []}).1 (⊎_map (λ m. m) turned ((member-append {xs = ms} {ys = v ∷ w ∷ []}).0 k))

-- ---- a workshop: actor 1 adds, a box that loads its image of then goes on as actor 2, both add and take in what the other wrote

abbrev done : Call → Event
done x = record { call = x; accepted = true }

abbrev started : Account
started = record { actor = actor_of 1; events = [] }

abbrev added : Account
added = next started (done (own_add B7 []))

abbrev added_twice : Account
added_twice = next added (done (own_add B8 []))

abbrev loaded : Account
loaded = next added (done (hand_off (actor_of 2)))

abbrev loaded_added : Account
loaded_added = next loaded (done (own_add B8 []))

abbrev writer : Account
writer = next added_twice (done (take_in (add B8 (dot 2 1) [])))

abbrev loader : Account
loader = next loaded_added (done (take_in (add B8 (dot 1 2) [])))

-- the machine accepts all these calls, and each box has then all messages
abbrev writing : Lived
writing = lived 1 (own_add B7 [] ∷ own_add B8 [] ∷ take_in (add B8 (dot 2 1) []) ∷ [])

abbrev loading : Lived
loading = lived 1 (own_add B7 [] ∷ hand_off (actor_of 2) ∷ own_add B8 [] ∷ take_in (add B8 (dot 1 2) []) ∷ [])

pub machine_forks : accounts (writing ∷ loading ∷ []) ≡ writer ∷ loader ∷ []
unfolding cases
machine_forks = refl

pub messages-reached : AllReached clock machine (writing ∷ loading ∷ [])
unfolding cases
messages-reached = of_two (λ c d. (m : Message) → m ∈ traffic_of clock machine c → m ∈ traffic_of clock machine d) (λ m k. k) (λ m. (both m).0) (λ m. (both m).1) (λ m k. k)
  where
    both : SameMembers (traffic_of clock machine writing) (traffic_of clock machine loading)
    both = swapped (add B7 (dot 1 1) [] ∷ []) (add B8 (dot 1 2) []) (add B8 (dot 2 1) [])

-- the image is of the box before its second add
pub fork_workshop : Workshop (loader ∷ writer ∷ loaded_added ∷ loaded ∷ added_twice ∷ added ∷ started ∷ [])
unfolding cases
fork_workshop =
    let w0 : Workshop (started ∷ []) = sets_up opened (actor_of 1) refl in
    let w1 : Workshop (added ∷ started ∷ []) = goes_on w0 started (Memᴰ.head refl) _ (inl refl) (all_in [] _ refl) in
    let w2 : Workshop (added_twice ∷ added ∷ started ∷ []) = goes_on w1 added (Memᴰ.head refl) _ (inl refl) (all_in [] _ refl) in
    let w3 : Workshop (loaded ∷ added_twice ∷ added ∷ started ∷ []) = goes_on w2 added (Memᴰ.tail (Memᴰ.head refl)) _ (inr refl) (all_in [] _ refl) in
    let w4 : Workshop (loaded_added ∷ loaded ∷ added_twice ∷ added ∷ started ∷ []) = goes_on w3 loaded (Memᴰ.head refl) _ (inl refl) (all_in [] _ refl) in
    let w5 : Workshop (writer ∷ loaded_added ∷ loaded ∷ added_twice ∷ added ∷ started ∷ []) =
    goes_on w4 added_twice (Memᴰ.tail (Memᴰ.tail (Memᴰ.head refl))) _ (inl refl) (all_in (taken_pairs writer) _ refl) in
    goes_on w5 loaded_added (Memᴰ.tail (Memᴰ.head refl)) _ (inl refl) (all_in (taken_pairs loader) _ refl)

-- the two alone
pub fork_network : Network (writer ∷ loader ∷ [])
unfolding cases
fork_network = forks_suffice (writer ∷ loader ∷ []) (unforged-by (writer ∷ loader ∷ []) refl) (two-once writer loader fork)
  where
    under : {e : Entry} {l : Label} (a n : ℕ) → e ∈ entry l (dot a n) ∷ [] → e.dot.actor ≡ actor_of a
    under a n k = ap (λ (e : Entry). e.dot.actor) (Memᴰ.eq_of_singleton k)

    fork : Forked writer loader
    fork =
        common_beginning (actor_of 1) (done (own_add B7 []) ∷ []) (done (own_add B8 []) ∷ done (take_in (add B8 (dot 2 1) [])) ∷ [])
        (done (hand_off (actor_of 2)) ∷ done (own_add B8 []) ∷ done (take_in (add B8 (dot 1 2) [])) ∷ [])
        (λ e f k m same. subst (λ (a : Actor). T (eqb a.number 1)) (sym (under 1 2 k) ∙ same ∙ under 2 1 m) tt)

-- ---- on the other side of the line

-- two lives that accepted the same messages and list different labels: with the others they are no network
pub record Astray (c d : Lived) (others : List Lived) : Type 0 where
  pub disagree : Disagree clock machine c d
  pub no_network : Network (accounts (c ∷ d ∷ others)) → ⊥

-- all but the last two messages came in one order; a label is listed by one alone
astray : (c d : Lived) (others : List Lived) (ms : List Message) (x y : Message) (l : Label)
    → traffic_of clock machine c ≡ ms ++ (x ∷ y ∷ []) → traffic_of clock machine d ≡ ms ++ (y ∷ x ∷ []) → T (member compare_bytes l (labels_of_lem c)) → T (not (member compare_bytes l (labels_of_lem d)))
    → Astray c d others
astray c d others ms x y l one other listed unlisted = record {
  disagree = differ;
  no_network = λ net. no_disagreement clock (row_clock_laws window_width (omega arith)) machine (accounts (c ∷ d ∷ others)) net c d (Memᴰ.head refl) (Memᴰ.tail (Memᴰ.head refl)) differ;
}
  where
    differ : Disagree clock machine c d
    differ = record {
      same-messages = rw (one, other) (swapped ms x y);
      other-labels = λ e. T_not (member compare_bytes l (labels_of_lem d)) unlisted (subst (λ ls. T (member compare_bytes l ls)) e listed);
    }

-- an actor set up twice: both add as actor 1, and take in what the other wrote
abbrev first : Lived
first = lived 1 (own_add B7 [] ∷ take_in (add B8 (dot 1 1) []) ∷ [])

abbrev second : Lived
second = lived 1 (own_add B8 [] ∷ take_in (add B7 (dot 1 1) []) ∷ [])

pub set_up_twice : Unforged (accounts (first ∷ second ∷ [])) × Astray first second []
unfolding cases
set_up_twice = (unforged-by (accounts (first ∷ second ∷ [])) refl, astray first second [] [] (add B7 (dot 1 1) []) (add B8 (dot 1 1) []) B7 refl refl tt tt)

-- one image loaded twice as actor 2: no box can refuse that, since neither has seen the actor (refusal 15)
abbrev first_loaded : Lived
first_loaded = lived 1 (hand_off (actor_of 2) ∷ own_add B7 [] ∷ take_in (add B8 (dot 2 1) []) ∷ [])

abbrev second_loaded : Lived
second_loaded = lived 1 (hand_off (actor_of 2) ∷ own_add B8 [] ∷ take_in (add B7 (dot 2 1) []) ∷ [])

pub loaded-twice : Unforged (accounts (first_loaded ∷ second_loaded ∷ [])) × Astray first_loaded second_loaded []
unfolding cases
loaded-twice = (unforged-by (accounts (first_loaded ∷ second_loaded ∷ [])) refl, astray first_loaded second_loaded [] [] (add B7 (dot 2 1) []) (add B8 (dot 2 1) []) B7 refl refl tt tt)

-- a box that forgets own adds: it added B7 and B8, was then put back to before the second add, and adds B9 with the same dot
abbrev whole : Lived
whole = lived 1 (own_add B7 [] ∷ own_add B8 [] ∷ [])

abbrev put_back : Lived
put_back = lived 1 (own_add B7 [] ∷ own_add B9 [] ∷ take_in (add B8 (dot 1 2) []) ∷ [])

abbrev receiver : Lived
receiver = lived 2 (take_in (add B7 (dot 1 1) []) ∷ take_in (add B8 (dot 1 2) []) ∷ take_in (add B9 (dot 1 2) []) ∷ [])

pub own_adds_forgotten : Unforged (accounts (put_back ∷ receiver ∷ whole ∷ [])) × Astray put_back receiver (whole ∷ [])
unfolding cases
own_adds_forgotten = (unforged-by (accounts (put_back ∷ receiver ∷ whole ∷ [])) refl, astray put_back receiver (whole ∷ []) (add B7 (dot 1 1) [] ∷ []) (add B9 (dot 1 2) []) (add B8 (dot 1 2) []) B9 refl refl tt tt)

-- a forged add: where the second is not there, nobody wrote the add of B8 that the first took in; no actor is given out twice
abbrev misled : Lived
misled = lived 2 (take_in (add B8 (dot 1 1) []) ∷ take_in (add B7 (dot 1 1) []) ∷ [])

pub add_forged : ActorsOnce (accounts (first ∷ misled ∷ [])) × Astray first misled []
unfolding cases
add_forged = (
  two-once (account_of clock machine first) (account_of clock machine misled)
      (record { shared = []; rest = entry B7 (dot 1 1) ∷ []; rest' = []; one_is = refl; other-is = refl; actors-differ = λ e f k m. absurd (Memᴰ.not-nil m) }),
  astray first misled [] [] (add B7 (dot 1 1) []) (add B8 (dot 1 1) []) B7 refl refl tt tt,
)
