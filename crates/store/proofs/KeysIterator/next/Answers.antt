-- No bytes are no keys; else the first key is as long as `key_length` tells.
use Rattle.std.proofs.Common.{◌≡◌, ◌<◌, length, sym, arith, length-take-le, rules, tests}
use Rattle.wire.specs.Bytes.{Bytes}
use Rattle.store.proofs.KeyLoops.{front-within, keys-first, keys-none}
use Rattle.store.proofs.KeysIterator.next.Goals as goal

more : (s : Bytes) → (length s ≡ 0 → ⊥) → 0 < length s
more s h = omega (arith, h)

pub returns-then-is_empty-clause-steps : goal.returns-then-is_empty-clause-steps
returns-then-is_empty-clause-steps c =
    let none : length c.args.self.now.rest.now ≡ 0 = search (rules, tests) in
    (keys-none _ _ none, keys-none _ _ none)

pub slice_bounds-self-count : goal.slice_bounds-self-count
slice_bounds-self-count c = front-within _ _ _ c.key_length-len.ensures

pub slice_bounds-self-start : goal.slice_bounds-self-start
slice_bounds-self-start c = let h = front-within _ _ _ c.key_length-len.ensures in search (rules, h)

pub slice_bounds-result-end : goal.slice_bounds-result-end
slice_bounds-result-end c = sym (length-take-le _ c.args.self.now.rest.now (front-within _ _ _ c.key_length-len.ensures))

pub returns-clause-steps : goal.returns-clause-steps
returns-clause-steps c =
    let some : 0 < length c.args.self.now.rest.now = search (rules, tests, more) in
    keys-first _ _ _ c.key_length-len.ensures some

pub returns-clause-goes : goal.returns-clause-goes
returns-clause-goes c =
    let some : 0 < length c.args.self.now.rest.now = search (rules, tests, more) in
    let h = keys-first c.args.self.now.n _ _ c.key_length-len.ensures some in
    search (rules, h)
