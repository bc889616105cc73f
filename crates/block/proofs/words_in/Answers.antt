use Rattle.block.proofs.Copied.{words-none, word_read, all_read}
use borrow.Author.Rules.{rules}
use Rattle.block.proofs.words_in.Goals as goal

pub loop-i-init : goal.loop-i-init
loop-i-init c = (search rules, search (rules, words-none))

pub loop-i-preserved : goal.loop-i-preserved
loop-i-preserved c = (search rules, search (rules, word_read))

pub returns : goal.returns
returns c = search (rules, all_read)
