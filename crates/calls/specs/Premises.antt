-- Demand 3's premises: two controllers that meet them, and why there is the proviso that no two adds give one dot to different labels.
use Rattle.std.specs.Prelude.{true, ◌≡◌}
use mathlib.Core.List.{List, [], ◌∷◌, ◌++◌, flat_map}
use Rattle.std.proofs.Math.Dec.{compare_is_eq}
use Rattle.wire.specs.Lists.{all, member}
use Rattle.wire.specs.Bytes.{compare_bytes}
use Rattle.dots.specs.Answer.{number_of}
use Rattle.dots.specs.declared.Answer.TheVariants.{Done}
use Rattle.dots.specs.Dots.{actor_of}
use Rattle.dots.specs.Entries.{Entry, compare_entries, Line, line}
use Rattle.dots.specs.Message.{add}
use Rattle.replica.specs.Rule.{Account, pairs, rule_listing}
use Rattle.replica.specs.Network.{taken_pairs, made_in}
use Rattle.keys.specs.Cases.{R1, B7, B8}
use Rattle.messages.specs.Cases.{a1}
use Rattle.calls.specs.Calls.{set_up, listed, merge_lines}
use Rattle.calls.specs.Sequence.{Input, message_input, list_input, started, run, events, accepted_messages, merge_of, traffic}
use Rattle.calls.specs.Cases.{dot, room, adds, removes, takes_in, compacts, a2, answers_of}

-- ---- the premises met: actor 1 adds B7 twice, as in A2; actor 2 takes the two messages in, the second first

abbrev pub calls1 : List Input
calls1 = adds [] ∷ adds (dot 1 1 ∷ []) ∷ []

abbrev pub calls2 : List Input
calls2 = message_input a2 room ∷ message_input a1.bytes room ∷ []

-- what the rule reads of both
abbrev pub accounts : List Account
accounts = record { actor = actor_of 1; events = events (started 1 R1) calls1 } ∷ record { actor = actor_of 2; events = events (started 2 R1) calls2 } ∷ []

-- every pair has the label B7
abbrev OnlyB7 : List Entry → Type 0
OnlyB7 es = all (λ (e : Entry). compare_is_eq (compare_bytes e.label B7)) es ≡ true

pub record PremisesMet : Type 0 where
  pub set_up_1 : (set_up 1 R1).answer ≡ Done
  pub set_up_2 : (set_up 2 R1).answer ≡ Done
  pub traffic_1 : traffic (started 1 R1) calls1 ≡ a1.bytes ∷ a2 ∷ []
  pub traffic_2 : traffic (started 2 R1) calls2 ≡ a2 ∷ a1.bytes ∷ []
  pub labels_1 : OnlyB7 (pairs (accepted_messages 1 R1 calls1))
  pub labels : OnlyB7 (pairs (accepted_messages 1 R1 calls1 ++ accepted_messages 2 R1 calls2))
  -- they are a network: what is taken in was added there, and each own add is of B7
  pub unforged : all (λ (e : Entry). member compare_entries e (made_in accounts)) (flat_map taken_pairs accounts) ≡ true
  pub made : OnlyB7 (made_in accounts)
  -- the calls that demand 3 asks about are accepted next
  pub next_1 : answers_of (run (started 1 R1) calls1) (list_input room room ∷ compacts ∷ []) ≡ 0 ∷ 0 ∷ []
  pub next_2 : answers_of (run (started 2 R1) calls2) (list_input room room ∷ compacts ∷ []) ≡ 0 ∷ 0 ∷ []
  pub merge : number_of (merge_of (run (started 1 R1) calls1) (run (started 2 R1) calls2) room room room).answer ≡ 0

-- ---- the proviso broken: actor 1 takes in adds of B7 and of B8 under (2,1)

-- what it then lists, and what the rule lists
abbrev lists : List Input → List Line × List Line
lists is = let end = run (started 1 R1) is in (listed end.state (end.used ++ room) room, rule_listing (accepted_messages 1 R1 is))

-- what a merged read of it and of actor 3 lists, and what the rule lists over both
abbrev merges : List Input → List Input → List Line × List Line
merges is js =
    let h = run (started 1 R1) is in
    let k = run (started 3 R1) js in
    (merge_lines h.state h.used k.state k.used, rule_listing (accepted_messages 1 R1 is ++ accepted_messages 3 R1 js))

abbrev add_b7 : Input
add_b7 = takes_in (add B7 (dot 2 1) [])

abbrev add_b8 : Input
add_b8 = takes_in (add B8 (dot 2 1) [])

abbrev line_b7 : Line
line_b7 = line B7 (dot 2 1 ∷ [])

abbrev line_b8 : Line
line_b8 = line B8 (dot 2 1 ∷ [])

pub record TwoLabels : Type 0 where
  pub accepted : answers_of (started 1 R1) (add_b7 ∷ add_b8 ∷ []) ≡ 0 ∷ 0 ∷ []
  -- the first to come is stored, the rule has both; so two controllers that accepted the same messages may list different labels
  pub first-comes : lists (add_b7 ∷ add_b8 ∷ []) ≡ (line_b7 ∷ [], line_b7 ∷ line_b8 ∷ [])
  pub other-order : lists (add_b8 ∷ add_b7 ∷ []) ≡ (line_b8 ∷ [], line_b7 ∷ line_b8 ∷ [])
  -- B8 has (2,2) too and is removed as it is listed: the controller lists it no more, the rule still does
  pub one_removed : lists (add_b7 ∷ add_b8 ∷ takes_in (add B8 (dot 2 2) []) ∷ removes (dot 2 2 ∷ []) ∷ []) ≡ (line_b7 ∷ [], line_b7 ∷ line_b8 ∷ [])
  -- with the shared dot removed they agree again, and B8 is gone with B7
  pub both-removed : lists (add_b7 ∷ add_b8 ∷ removes (dot 2 1 ∷ []) ∷ []) ≡ ([], [])
  -- two controllers that took in one each: a merged read lists neither, since each has seen the dot and lists it under another label
  pub merged : merges (add_b7 ∷ []) (add_b8 ∷ []) ≡ ([], line_b7 ∷ line_b8 ∷ [])
