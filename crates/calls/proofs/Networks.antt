-- Demand 3 over a network, in bytes, without its proviso: `networks_hold`, `workshops_hold`. Assumes nothing.
use mathlib.Core.Path.{subst}
use mathlib.Core.List.{List, ◌++◌}
use Rattle.wire.specs.Lists.{◌∈◌, SameMembers}
use Rattle.dots.specs.Names.{Name}
use Rattle.dots.specs.Entries.{lines_of}
use Rattle.dots.specs.Message.{Message}
use Rattle.replica.specs.Rule.{pairs, rule_listing, OneLabelPerDot}
use Rattle.replica.proofs.Listings.{same_live}
use Rattle.replica.proofs.Networks.{labels_of, labels-both, all-reached, workshops_are}
use Rattle.calls.specs.Sequence.{Held}
use Rattle.calls.specs.Demand3.{ListsJust, ListsTheRule, Controlled, messages_of, traffic_of, end_of}
use Rattle.calls.specs.Network.{account_of, AllReached, ControllerOf, NetworksHold, WorkshopsHold}
use Rattle.calls.proofs.Demand3.{decoded, messages_are, demand_3}

-- what is said of some messages is said of the same messages in another order and number
same_rule : (name : Name) (h : Held) {ms ns : List Message} → SameMembers ms ns → ListsTheRule name ms h → ListsTheRule name ns h
unfolding rule_listing
same_rule name h same lists = subst (λ es. ListsJust name (lines_of es) es h) (same_live same) lists

pub networks_hold : NetworksHold
networks_hold ns net = record {
  lists = lists;
  agree = λ c d k m same. (demand_3.agree c d same).lists (both c d k m);
  merge = λ c d k m. demand_3.merge c d (both c d k m);
  settled = λ cs known reached c d k m.
      let agree = demand_3.agree c d (λ s. (reached c d k m s, reached d c m k s)) in
      record {
        lists = same_rule c.name (end_of c) (all-reached messages_of cs (further cs reached) c k) (lists c (known c k));
        alike = agree.lists (both c d (known c k) (known d m));
        agree = agree;
      };
}
  where
    lists : (c : Controlled) → ControllerOf ns c → ListsTheRule c.name (messages_of c) (end_of c)
    lists c k = (demand_3.follows c).lists (labels_of ns net (account_of c) k)

    both : (c d : Controlled) → ControllerOf ns c → ControllerOf ns d → OneLabelPerDot (pairs (messages_of c ++ messages_of d))
    both c d = labels-both ns net (account_of c) (account_of d)

    further : (cs : List Controlled) → AllReached cs → (c d : Controlled) → c ∈ cs → d ∈ cs → (m : Message) → m ∈ messages_of c → m ∈ messages_of d
    further cs reached c d k n m x = (messages_are d m).1 (decoded (traffic_of c) (traffic_of d) (reached c d k n) m ((messages_are c m).0 x))

pub workshops_hold : WorkshopsHold
workshops_hold ns w = networks_hold ns (workshops_are ns w)
