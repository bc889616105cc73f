-- An output as long as the keys of both has room for all lines; else a dry run tells whether it has.
use mathlib.Core.Bool.{false}
use mathlib.Core.Path.{refl}
use Rattle.merge.proofs.AllLines.{roomy, all-put, can_count, none-put, fits, then-put}
use Rattle.merge.proofs.TwoStores.put_all.Goals as goal

pub merge_lines-requires : goal.merge_lines-requires
merge_lines-requires c = roomy c.args.self.n c.args.sides.now c.args.self.a.now c.args.self.b.now c.args.out.now c.requires false c.if-self-out.true

pub returns-then-self-out : goal.returns-then-self-out
returns-then-self-out c = all-put c.args.self.n c.args.sides.now c.args.self.a.now c.args.self.b.now c.args.out.now c.requires _ _ c.merge_lines.ensures ((roomy c.args.self.n c.args.sides.now c.args.self.a.now c.args.self.b.now c.args.out.now c.requires false c.if-self-out.true).has_room refl)

pub merge_lines-counted-requires : goal.merge_lines-counted-requires
merge_lines-counted-requires c = can_count c.args.self.n c.args.sides.now c.args.self.a.now c.args.self.b.now c.args.out.now c.requires _

pub returns-then-out-counted : goal.returns-then-out-counted
returns-then-out-counted c = none-put c.args.self.n c.args.sides.now c.args.self.a.now c.args.self.b.now c.args.out.now c.requires _ _ c.merge_lines-counted.ensures c.if-out-counted.true

pub merge_lines-requires-2 : goal.merge_lines-requires-2
merge_lines-requires-2 c = fits c.args.self.n c.args.sides.now c.args.self.a.now c.args.self.b.now c.args.out.now c.requires _ _ c.merge_lines-counted.ensures c.if-out-counted.false

pub returns : goal.returns
returns c = then-put c.args.self.n c.args.sides.now c.args.self.a.now c.args.self.b.now c.args.out.now c.requires _ _ c.merge_lines-counted.ensures c.if-out-counted.false _ _ c.merge_lines-2.ensures
