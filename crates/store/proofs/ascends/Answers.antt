-- By the first numbers where they differ, else by the bytes after the first 8.
use Rattle.store.proofs.FirstNumbers.{tail-room, tail-some, numbers-decide, after_none_first, rest-decides}
use Rattle.std.proofs.Common.{rules}
use Rattle.store.proofs.ascends.Goals as goal

pub returns-then-low-high : goal.returns-then-low-high
returns-then-low-high c = search (rules, numbers-decide)

pub returns-then-last : goal.returns-then-last
returns-then-last c = search (rules, after_none_first)

pub lower_later-requires : goal.lower_later-requires
lower_later-requires c = (search (rules, tail-room), search rules, search (rules, tail-some), search rules)

pub returns : goal.returns
returns c = search (rules, rest-decides)
