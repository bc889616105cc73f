-- Two controllers that meet demand 3's premises and are a network, so that it says of them what it says. Assumes nothing.
use mathlib.Core.Path.{◌≡◌, refl, sym, ◌∙◌}
use mathlib.Core.Bool.{true}
use mathlib.Core.Logic.{inl, inr, ⊎_elim}
use mathlib.Core.List.Memᴰ
use mathlib.Core.List.{List, [], ◌∷◌, ◌++◌, flat_map}
use lib.Dec.{compare_is_eq}
use Rattle.wire.specs.Lists.{◌∈◌, SameMembers, all}
use Rattle.wire.specs.Bytes.{Bytes, compare_bytes}
use Rattle.wire.proofs.Tests.{pass}
use Rattle.wire.proofs.Lists.{tie-is, member-append, all-member}
use Rattle.wire.proofs.Orders.{bytes_lawful}
use Rattle.dots.specs.Names.{Label}
use Rattle.dots.specs.Entries.{Entry, entry}
use Rattle.replica.specs.Rule.{pairs, OneLabelPerDot}
use Rattle.replica.specs.Network.{made_in, Network}
use Rattle.replica.proofs.NetworkCases.{unforged-by, of_two}
use Rattle.keys.specs.Cases.{R1, B7}
use Rattle.messages.specs.Cases.{a1}
use Rattle.calls.specs.Cases.{a2}
use Rattle.calls.specs.Demand3.{Follows, Agree, Merges, Controlled, messages_of, traffic_of, end_of}
use Rattle.calls.specs.Network.{account_of, Settled}
use Rattle.calls.specs.Premises.{calls1, calls2, accounts}
use Rattle.calls.proofs.Demand3.{demand_3}
use Rattle.calls.proofs.Networks.{networks_hold}
use Rattle.calls.proofs.Cases.{premises_met}

abbrev pub first : Controlled
first = record { actor = 1; name = R1; sets_up = premises_met.set_up_1; calls = calls1 }

abbrev pub second : Controlled
second = record { actor = 2; name = R1; sets_up = premises_met.set_up_2; calls = calls2 }

-- the same two messages, the other way round
turned : (a b x : Bytes) → x ∈ (a ∷ b ∷ []) → x ∈ (b ∷ a ∷ [])
turned a b x k = (member-append {xs = b ∷ []} {ys = a ∷ []}).1 (⊎_elim inr inl ((member-append {xs = a ∷ []} {ys = b ∷ []}).0 k))

same-traffic : SameMembers (traffic_of first) (traffic_of second)
same-traffic x = rw (premises_met.traffic_1, premises_met.traffic_2) (turned a1.bytes a2 x, turned a2 a1.bytes x)

-- entries of one label give no dot to two
one_label : (l : Label) (es : List Entry) → all (λ (e : Entry). compare_is_eq (compare_bytes e.label l)) es ≡ true → OneLabelPerDot es
one_label l es h d m n p q = is (entry m d) p ∙ sym (is (entry n d) q)
  where
    is : (e : Entry) → e ∈ es → e.label ≡ l
    is e k = bytes_lawful.tie e.label l (tie-is (compare_bytes e.label l) (pass (all-member (λ (x : Entry). compare_is_eq (compare_bytes x.label l)) es h e k)))

-- the proviso, of the first and of both
pub first-labels : OneLabelPerDot (pairs (messages_of first))
first-labels = one_label B7 (pairs (messages_of first)) premises_met.labels_1

pub both-labels : OneLabelPerDot (pairs (messages_of first ++ messages_of second))
both-labels = one_label B7 (pairs (messages_of first ++ messages_of second)) premises_met.labels

pub first-follows : Follows R1 (messages_of first) (end_of first)
first-follows = demand_3.follows first

pub both-agree : Agree (messages_of first ++ messages_of second) (end_of first) (end_of second)
both-agree = demand_3.agree first second same-traffic

pub both-merge : Merges (messages_of first ++ messages_of second) (end_of first) (end_of second)
both-merge = demand_3.merge first second both-labels

pub both_network : Network accounts
both_network = record { unforged = unforged-by accounts premises_met.unforged; made-once = one_label B7 (made_in accounts) premises_met.made }

-- all messages have reached both
pub both-settled : Settled (flat_map messages_of (first ∷ second ∷ [])) first second
both-settled =
    (networks_hold accounts both_network).settled (first ∷ second ∷ []) (λ c. Memᴰ.map account_of)
    (of_two (λ c d. (s : Bytes) → s ∈ traffic_of c → s ∈ traffic_of d) (λ s k. k) (λ s. (same-traffic s).0) (λ s. (same-traffic s).1) (λ s k. k)) first second
    (Memᴰ.head refl) (Memᴰ.tail (Memᴰ.head refl))
