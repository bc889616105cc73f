-- Up to 8 bytes by the bits of a word that count, longer ones by words.
use Rattle.store.proofs.Prefixes.{few-begin}
use Rattle.std.proofs.Common.{rules}
use Rattle.store.proofs.begins.Goals as goal

pub returns-then-prefix-le8 : goal.returns-then-prefix-le8
returns-then-prefix-le8 c = search (rules, few-begin)
