-- Room after a compaction: "128 of these block removes of other seen dots for good" no more.
use Rattle.std.specs.Prelude.{true, false, [], ◌≡◌}
use Rattle.wire.specs.Bytes.{Bytes}
use Rattle.dots.specs.Dots.{Context, context_ok}
use Rattle.dots.specs.Message.{context_of}
use Rattle.replica.specs.Machine.{Call, own_add, own_remove, take_in, reads, compact, hand_off}
use Rattle.calls.specs.Refusals.{tombstone_full}
use Rattle.calls.specs.Sequence.{Held, compact_input, step}
use Rattle.calls.specs.Demand3.{Accepted}

-- the context that a call applies
unfoldable pub context_in : Call → Context
context_in (own_add l context) = context
context_in (own_remove context) = context
context_in (take_in m) = context_of m
context_in reads = []
context_in compact = []
context_in (hand_off b) = []

-- after an accepted compaction, whatever was held before it: refusal 11 holds of no call whose context keeps its rule
abbrev pub RoomAfterCompaction : Type 0
RoomAfterCompaction = (h : Held) (past : Bytes) → Accepted h (compact_input past)
    → (store : Bytes) (call : Call) → context_ok (context_in call) ≡ true → tombstone_full (step h (compact_input past)).state store call ≡ false
