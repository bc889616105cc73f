-- The tombstone grows by the dots that were seen and are not in it, so that it has room where it has room for all.
use mathlib.Core.Path.{◌≡◌, sym, ap, ◌∙◌}
use mathlib.Core.Bool.{false}
use mathlib.Core.List.{List}
use Prim.Native.Nat.{ℕ, ◌+◌, ◌*◌, ◌/◌, ◌≤◌}
use native.Mathlib.Omega.{arith}
use lib.Dec.{ltb}
use lib.ListN.{length, take}
use Rattle.wire.specs.Lists.{keep, insert_all}
use Rattle.dots.specs.declared.Dot.{Dot}
use Rattle.dots.specs.Dots.{compare_dots, tombstone_most}
use Rattle.dots.specs.Wire.{dots_of, dot_size}
use Rattle.dots.proofs.Rules.{ascending_up}
use Rattle.dots.proofs.Loops.{length-dots_at, length-dots_of}
use Rattle.contexts.proofs.Places.{dots-front}
use Rattle.clock.specs.Clock.{sees}
use Rattle.steps.specs.Tests.{joins_tombstone, Tombstoned, ContextFits}
use Rattle.steps.proofs.Joining.{tombstone_grows, keep-few}
use borrow.Author.Tests.{le-ltb}
use Rattle.steps.proofs.tombstone_full.Goals as goal

module _ (words bytes context : List ℕ) (count : ℕ) (t : Tombstoned bytes count) (f : ContextFits context) where
  abbrev held : List Dot
  held = dots_of (take (count * dot_size) bytes)

  grown : length (insert_all compare_dots (keep (sees words) (dots_of context)) held) ≡ count + length (keep (joins_tombstone words held) (dots_of context))
  grown =
      let size = t.size in
      let few = t.few in
      let dots : length held ≡ count = ap length (dots-front bytes count (omega arith)) ∙ length-dots_at count bytes 0 in
      tombstone_grows words (dots_of context) held (ascending_up (dots_of context) f.ascends) (ascending_up held t.ascends) ∙ rw dots

  not_full : count + length context / dot_size ≤ tombstone_most → false ≡ ltb tombstone_most (length (insert_all compare_dots (keep (sees words) (dots_of context)) held))
  not_full h =
      let few = keep-few (joins_tombstone words held) (dots_of context) in
      let all = length-dots_of context in
      rw grown (sym (le-ltb tombstone_most (count + length (keep (joins_tombstone words held) (dots_of context))) (omega arith)))

  full : (k : ℕ) → k ≡ length (keep (joins_tombstone words held) (dots_of context)) → ltb tombstone_most (count + k) ≡ ltb tombstone_most (length (insert_all compare_dots (keep (sees words) (dots_of context)) held))
  full k e = rw (e, grown)

pub returns-then-count-context-le-TOMBSTONE_MOST : goal.returns-then-count-context-le-TOMBSTONE_MOST
returns-then-count-context-le-TOMBSTONE_MOST c = not_full c.args.state.now.clock.words c.args.state.now.tombstone.bytes c.args.context.now c.args.state.now.tombstone.count c.requires.0 c.requires.1 c.if-count-context-le-TOMBSTONE_MOST.true

pub returns : goal.returns
returns c = full c.args.state.now.clock.words c.args.state.now.tombstone.bytes c.args.context.now c.args.state.now.tombstone.count c.requires.0 c.requires.1 _ c.tombstone_growth.ensures.0
