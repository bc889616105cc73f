-- The key has room for its fields, and is the first of the keys from `at` on.
use mathlib.Core.Path.{◌≡◌, sym, ◌∙◌}
use mathlib.Core.Bool.{Bool, false}
use mathlib.Core.List.{List}
use Prim.Native.Nat.{ℕ, ◌≤◌}
use native.Mathlib.Omega.{arith}
use lib.ListN.{length, drop}
use Rattle.wire.specs.Lists.{any}
use Rattle.dots.specs.declared.Dot.{Dot}
use Rattle.store.specs.Cut.{entries_in}
use Rattle.listing.proofs.ListedKeys.{some_live, end-within, end_later, dot-room, key-at, live_here, live-later, no_entries}
use borrow.Author.Rules.{rules}
use Rattle.listing.proofs.any_live.Goals as goal

none_left : (n : ℕ) (keys : List ℕ) (tombstone : List Dot) (at : ℕ) (whole : Bool) → length keys ≤ at
    → whole ≡ some_live tombstone (entries_in n (drop at keys)) → false ≡ whole
unfolding any
none_left n keys tombstone at whole h inv = sym (inv ∙ rw (no_entries n keys at h))

pub slice_bounds-key_dot-count : goal.slice_bounds-key_dot-count
slice_bounds-key_dot-count c = search (rules, end_later)

pub slice_bounds-key_dot-start : goal.slice_bounds-key_dot-start
slice_bounds-key_dot-start c = search (rules, end_later)

pub slice_bounds-key_dot-end : goal.slice_bounds-key_dot-end
slice_bounds-key_dot-end c = search (rules, end-within)

pub key_dot-dot-requires : goal.key_dot-dot-requires
key_dot-dot-requires c = search (rules, dot-room)

pub returns-then-not-holds : goal.returns-then-not-holds
returns-then-not-holds c =
    live_here _ _ _ _ _ _ (key-at _ _ _ _ c.requires.0 c.loop-at-test.true c.loop-at.invariant.1 c.key_end-end.ensures _ _ _ c.key_dot-dot.ensures c.holds.ensures) _ c.loop-at.invariant.2 c.if-not-holds.true

pub loop-at-smaller : goal.loop-at-smaller
loop-at-smaller c =
    let key = key-at _ _ _ _ c.requires.0 c.loop-at-test.true c.loop-at.invariant.1 c.key_end-end.ensures _ _ _ c.key_dot-dot.ensures c.holds.ensures in
    let low = key.later in
    let high = key.within in
    omega arith

pub loop-at-preserved : goal.loop-at-preserved
loop-at-preserved c =
    let key = key-at _ _ _ _ c.requires.0 c.loop-at-test.true c.loop-at.invariant.1 c.key_end-end.ensures _ _ _ c.key_dot-dot.ensures c.holds.ensures in
    (key.within, key.rest-fits, live-later _ _ _ _ _ _ key _ c.loop-at.invariant.2 c.if-not-holds.false)

pub returns : goal.returns
returns c = none_left _ _ _ _ _ c.loop-at-test.false c.loop-at.invariant.2
