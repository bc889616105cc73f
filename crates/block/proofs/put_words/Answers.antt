use native.Mathlib.Omega.{arith}
use Rattle.block.proofs.Filled.{put-none, word-put, words-end, all-put}
use borrow.Author.Rules.{rules}
use Rattle.block.proofs.put_words.Goals as goal

pub loop-word-init : goal.loop-word-init
loop-word-init c = (search rules, search rules, search (rules, put-none))

pub loop-word-preserved : goal.loop-word-preserved
loop-word-preserved c = (search rules, search rules, search (rules, word-put))

pub returns : goal.returns
returns c = (record { ends = search (rules, words-end); put = search (rules, all-put) }, λ i. omega (arith, c.type_inv.words i))
