-- A dot that is there leaves the bytes as they are; another is put at its place.
use Rattle.contexts.proofs.Inserting.{held-count, held_bytes, new-count, new-room, place-fits, place-within, new-bytes}
use borrow.Author.Rules.{rules}
use Rattle.contexts.proofs.insert_dot.Goals as goal

pub returns-then-holds : goal.returns-then-holds
returns-then-holds c = search (rules, held-count, held_bytes)

pub overflow_mul-at : goal.overflow_mul-at
overflow_mul-at c = search (rules, place-fits)

pub insert_piece-requires : goal.insert_piece-requires
insert_piece-requires c = search (rules, place-within, new-room)

pub returns : goal.returns
returns c = search (rules, new-count, new-bytes)
