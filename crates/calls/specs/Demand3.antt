-- Demand 3: "a single claim about the whole sequence, not one for each call".
use Rattle.std.specs.Prelude.{ℕ, List, [], ◌++◌, ◌↔◌, ◌⊎◌, ◌≡◌, T, length}
use Rattle.wire.specs.Lists.{◌∈◌, SameMembers}
use Rattle.wire.specs.Bytes.{Bytes}
use Rattle.dots.specs.Answer.{number_of}
use Rattle.dots.specs.declared.Answer.TheVariants.{Done}
use Rattle.dots.specs.declared.Dot.{Dot}
use Rattle.dots.specs.Names.{Name}
use Rattle.dots.specs.Entries.{Entry, Line, line_labels}
use Rattle.dots.specs.Message.{Message}
use Rattle.clock.specs.Clock.{sees}
use Rattle.store.specs.Cut.{store_bytes}
use Rattle.listing.specs.Listing.{line_size, listing_bytes}
use Rattle.replica.specs.Page.{page_after, page_more}
use Rattle.replica.specs.Rule.{pairs, removed, Paired, live_pairs, rule_listing, IsListing, OneLabelPerDot}
use Rattle.calls.specs.Effect.{tombstone_of}
use Rattle.calls.specs.Calls.{set_up, more_follow, lookup_result}
use Rattle.calls.specs.Sequence.{Input, list_input, page_input, lookup_input, compact_input, Held, started, result_of, answer_of, merge_of, output, step, run, accepted_messages, traffic}

abbrev pub Accepted : Held → Input → Type 0
Accepted h i = answer_of h i ≡ 0

abbrev pub MergeAccepted : Held → Held → Bytes → Bytes → Bytes → Type 0
MergeAccepted h k past past' out = number_of (merge_of h k past past' out).answer ≡ 0

-- it lists just these lines, and a compaction leaves just these keys, in a set of this name
pub record ListsJust (name : Name) (ls : List Line) (es : List Entry) (h : Held) : Type 0 where
  -- "and bytes given under Listing"
  pub listing-is : (past out : Bytes) → Accepted h (list_input past out) → output (result_of h (list_input past out)) ≡ listing_bytes ls
  -- "the number of labels is the number of these"
  pub labels_are : (past out : Bytes) → Accepted h (list_input past out) → (result_of h (list_input past out)).labels ≡ length ls
  -- "each page speaks of the state it finds": the lines after the starting label, as many as fit, how many, and whether more follow
  pub page-is : (start past out : Bytes) → Accepted h (page_input start past out) → output (result_of h (page_input start past out)) ≡ listing_bytes (page_after line_size ls start (length out))
  pub page_labels_are : (start past out : Bytes) → Accepted h (page_input start past out) → (result_of h (page_input start past out)).labels ≡ length (page_after line_size ls start (length out))
  pub page_more_is : (start past out : Bytes) → Accepted h (page_input start past out) → more_follow h.state (h.used ++ past) start out ≡ page_more line_size ls start (length out)
  -- lookup says yes "exactly if the listing has the label"
  pub lookup-is : (label past : Bytes) → Accepted h (lookup_input label past) → T (lookup_result h.state (h.used ++ past) label).listed ↔ (label ∈ line_labels ls)
  -- "and a compaction accepted next leaves just the keys of the pairs not removed"
  pub compaction_is : (past : Bytes) → Accepted h (compact_input past) → (step h (compact_input past)).used ≡ store_bytes name es

abbrev pub ListsTheRule : Name → List Message → Held → Type 0
ListsTheRule name ms = ListsJust name (rule_listing ms) (live_pairs ms)

-- what is held is as the rule says of the accepted messages, in a set of this name
pub record Follows (name : Name) (ms : List Message) (h : Held) : Type 0 where
  -- "The listing is then every label with a pair whose dot is not in the second set, with just those dots, in the order ... given"
  pub rule_means : IsListing ms (rule_listing ms)
  -- the proviso that no two adds give one dot to different labels is needed for this alone; over a network it holds (`Network`)
  pub lists : OneLabelPerDot (pairs ms) → ListsTheRule name ms h
  -- "The clock then sees just the dots in either set"
  pub clock-is : (d : Dot) → T (sees h.state.clock.words d) ↔ (Paired ms d ⊎ (d ∈ removed ms))
  -- "Compaction shall leave the tombstone empty", "Demand 3's last sentence then covers the tombstone too.": no dots, and bytes of 0 throughout
  pub compaction_empties : (past : Bytes) → Accepted h (compact_input past) → (step h (compact_input past)).state.tombstone ≡ tombstone_of []

-- they list the same, and after a compaction on each have the same store
pub record ListAlike (h k : Held) : Type 0 where
  -- "Two accepted listings are equal when their bytes written and their numbers of labels are"
  pub same-listing : (past out past' out' : Bytes) → Accepted h (list_input past out) → Accepted k (list_input past' out')
      → (output (result_of h (list_input past out)) ≡ output (result_of k (list_input past' out')))
      × ((result_of h (list_input past out)).labels ≡ (result_of k (list_input past' out')).labels)
  -- "Two stores count as equal when their used lengths and used bytes are equal."
  pub same_store : (past past' : Bytes) → Accepted h (compact_input past) → Accepted k (compact_input past')
      → ((step h (compact_input past)).state.used ≡ (step k (compact_input past')).state.used)
      × ((step h (compact_input past)).used ≡ (step k (compact_input past')).used)

-- two controllers, ms being the messages of both, answer alike, and hold the same after "one accepted compaction on each as its next call"
pub record Agree (ms : List Message) (h k : Held) : Type 0 where
  pub lists : OneLabelPerDot (pairs ms) → ListAlike h k
  -- "two clocks, when all 16 rows are"
  pub same-clock : (past past' : Bytes) → Accepted h (compact_input past) → Accepted k (compact_input past')
      → (step h (compact_input past)).state.clock ≡ (step k (compact_input past')).state.clock
  -- the whole tombstone, its unused bytes too
  pub same-tombstone : (past past' : Bytes) → Accepted h (compact_input past) → Accepted k (compact_input past')
      → (step h (compact_input past)).state.tombstone ≡ (step k (compact_input past')).state.tombstone

-- a merged read of two controllers, ms being the messages of both, is the rule's listing over them
pub record Merges (ms : List Message) (h k : Held) : Type 0 where
  pub rule_means : IsListing ms (rule_listing ms)
  pub listing-is : (past past' out : Bytes) → MergeAccepted h k past past' out → output (merge_of h k past past' out) ≡ listing_bytes (rule_listing ms)
  pub labels_are : (past past' out : Bytes) → MergeAccepted h k past past' out → (merge_of h k past past' out).labels ≡ length (rule_listing ms)

-- A controller's life: its set-up, and any calls after it. A hand-off is a call of it: demand 3 "reads the loaded box's history as the writer's up to the image,
-- each call answered as it was then, and after that its own; it speaks only of images that a controller under demand 3 wrote and that came unaltered".
pub record Controlled : Type 0 where
  -- at set-up
  pub actor : ℕ
  pub name : Name
  pub sets_up : (set_up actor name).answer ≡ Done
  pub calls : List Input

abbrev pub messages_of : Controlled → List Message
messages_of c = accepted_messages c.actor c.name c.calls

abbrev pub traffic_of : Controlled → List Bytes
traffic_of c = traffic (started c.actor c.name) c.calls

abbrev pub end_of : Controlled → Held
end_of c = run (started c.actor c.name) c.calls

pub record Demand3 : Type 0 where
  pub follows : (c : Controlled) → Follows c.name (messages_of c) (end_of c)
  pub agree : (c d : Controlled) → SameMembers (traffic_of c) (traffic_of d) → Agree (messages_of c ++ messages_of d) (end_of c) (end_of d)
  -- "Same premise as demand 3, taken over both: the merged listing is what demand 3's rule gives over all calls that either accepted."
  pub merge : (c d : Controlled) → OneLabelPerDot (pairs (messages_of c ++ messages_of d)) → Merges (messages_of c ++ messages_of d) (end_of c) (end_of d)
