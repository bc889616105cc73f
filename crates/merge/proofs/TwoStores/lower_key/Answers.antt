-- The test is the definition's; what is handed back begins at the front.
use mathlib.Core.Path.{refl}
use Rattle.merge.proofs.Handing.{key-sized, front-part, handed-second, handed-first}
use Rattle.merge.proofs.TwoStores.lower_key.Goals as goal

pub slice_bounds-first-end : goal.slice_bounds-first-end
slice_bounds-first-end c = key-sized _ _ _ c.key_length-i.ensures

pub slice_bounds-second-end : goal.slice_bounds-second-end
slice_bounds-second-end c = key-sized _ _ _ c.key_length-j.ensures

pub returns-then-b-a : goal.returns-then-b-a
returns-then-b-a c = handed-second _ c.args.self.a c.args.self.b _ _ c.key_length-i.ensures c.key_length-j.ensures _ c.lower-before.ensures c.if-b-a.true _ (front-part _ _ _ refl refl refl)

pub returns : goal.returns
returns c = handed-first _ c.args.self.a c.args.self.b _ _ c.key_length-i.ensures c.key_length-j.ensures _ c.lower-before.ensures c.if-b-a.false _ (front-part _ _ _ refl refl refl)
