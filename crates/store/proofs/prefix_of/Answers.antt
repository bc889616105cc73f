-- The bytes and zeros after them, as a word; the bits of so many bytes.
use Rattle.std.proofs.Common.{◌≡◌, length, refl, ◌∙◌, arith, rules}
use Rattle.store.specs.Pass.{prefix_most}
use Rattle.store.proofs.Prefixes.{pattern_is, bits_are, bits_some}
use Rattle.store.proofs.prefix_of.Goals as goal

pub overflow_sub-result : goal.overflow_sub-result
overflow_sub-result c = let k = length c.args.start.now in rw (bits_are k c.if-len-lt8.true) (bits_some k)

pub returns-then-len-lt8 : goal.returns-then-len-lt8
returns-then-len-lt8 c = record {
  size = refl;
  few = search rules;
  counts = λ h. let k = length c.args.start.now in rw (bits_are k c.if-len-lt8.true);
  is = λ h. c.low_at-pattern.ensures ∙ pattern_is _ _ prefix_most c.put.ensures.1 h;
}

pub returns : goal.returns
returns c = record {
  size = refl;
  few = search rules;
  counts = λ h. let all : length c.args.start.now ≡ 8 = omega arith in rw all;
  is = λ h. c.low_at-pattern.ensures ∙ pattern_is _ _ prefix_most c.put.ensures.1 h;
}
