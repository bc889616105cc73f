-- The words passed stand in the block, and the place is after them.
use Rattle.std.proofs.Common.{◌≡◌, ◌+◌, ◌*◌, length, take}
use Rattle.wire.specs.Bytes.{put_at}
use Rattle.block.specs.Block.{words_bytes}
use Rattle.block.proofs.put_words.Given as goal

abbrev pub invariant-loop-word : goal.invariant-loop-word
invariant-loop-word l = (l.next ≡ l.at + 8 * l.word-index) × (length l.block ≡ length l.initial.block) × (l.block ≡ put_at l.initial.block l.at (words_bytes (take l.word-index l.words)))
