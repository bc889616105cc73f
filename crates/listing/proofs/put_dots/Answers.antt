use mathlib.Core.Path.{refl, sym, ◌∙◌}
use native.Mathlib.Omega.{arith}
use Rattle.listing.proofs.PutLines.{chunks_start, key-long, chunk_past, chunk_room, chunk_put, chunks_end}
use Rattle.listing.proofs.put_dots.Goals as goal

pub loop-key-init : goal.loop-key-init
loop-key-init c = chunks_start _ _ _ _ _ c.requires.2 _ _ (rw c.into_iter-key-iterator.ensures.into_iter_gives c.chunks_exact-key-items.ensures.rest)
    (rw c.into_iter-key-iterator.ensures.into_iter_gives c.chunks_exact-key-items.ensures.size)

pub is_listed-requires : goal.is_listed-requires
is_listed-requires c = let cut = c.in-Some.ensures.steps.1 in key-long _ _ _ _ _ _ _ _ _ c.loop-key.invariant (omega arith) _ _ cut.0 cut.1 (omega arith)

pub put_key_dot-next-requires : goal.put_key_dot-next-requires
put_key_dot-next-requires c =
    let cut = c.in-Some.ensures.steps.1 in (
      key-long _ _ _ _ _ _ _ _ _ c.loop-key.invariant (omega arith) _ _ cut.0 cut.1 (omega arith),
      chunk_room _ _ _ _ _ _ _ _ _ c.loop-key.invariant (omega arith) _ _ cut.0 cut.1 _ refl (sym c.is_listed.ensures ∙ c.if-is_listed.true) c.requires.3,
    )

pub loop-key-preserved-then-is_listed : goal.loop-key-preserved-then-is_listed
loop-key-preserved-then-is_listed c =
    let cut = c.in-Some.ensures.steps.1 in
    chunk_put _ _ _ _ _ _ _ _ _ c.loop-key.invariant (omega arith) _ _ cut.0 cut.1 _ refl (sym c.is_listed.ensures ∙ c.if-is_listed.true) c.requires.3
    _ _ c.put_key_dot-next.ensures.0 c.put_key_dot-next.ensures.1 c.put_key_dot-next.auto.out _ c.in-Some.ensures.steps.0

pub loop-key-preserved : goal.loop-key-preserved
loop-key-preserved c =
    let cut = c.in-Some.ensures.steps.1 in
    chunk_past _ _ _ _ _ _ _ _ _ c.loop-key.invariant (omega arith) _ _ cut.0 cut.1 _ refl (sym c.is_listed.ensures ∙ c.if-is_listed.false) _ c.in-Some.ensures.steps.0

pub returns : goal.returns
returns c = chunks_end _ _ _ _ _ _ _ _ _ c.loop-key.invariant c.in-None.ensures.steps.1.0
