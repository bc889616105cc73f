-- Front, rest and CRC.
use Rattle.image.proofs.Puts.{image-put}
use borrow.Author.Rules.{rules}
use Rattle.image.proofs.put_parts.Goals as goal

pub returns : goal.returns
returns c = search (rules, image-put)
