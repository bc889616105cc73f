-- The run grows, or has moved and the next one begins after the key.
use Rattle.compaction.proofs.Runs.{key-kept, key-dropped}
use borrow.Author.Rules.{rules}
use Rattle.compaction.proofs.walk_key.Goals as goal

pub returns-then-not-holds : goal.returns-then-not-holds
returns-then-not-holds c = search (rules, key-kept)

pub returns : goal.returns
returns c = search (rules, key-dropped)
