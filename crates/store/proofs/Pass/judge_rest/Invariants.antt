-- The invariant: the keys so far keep the rules, so that the others decide. The measure is what is left of the keys.
use Rattle.std.proofs.Common.{◌-◌, length}
use Rattle.store.specs.Pass.{name_in, Passing}
use Rattle.store.proofs.Pass.judge_rest.Given as goal

abbrev pub invariant-loop-last : goal.invariant-loop-last
invariant-loop-last l = Passing (name_in l.self.start.now) l.self.words.now l.self.keys.now l.last

abbrev pub decreases-loop-last : goal.decreases-loop-last
decreases-loop-last l = length l.self.keys.now - l.last.end
