-- A dry run tells whether all lines fit; an output as long as the keys has room for them.
use Prim.Native.Nat.{ℕ, ◌≤◌}
use mathlib.Core.Path.{◌≡◌, refl, sym, ◌∙◌, subst}
use mathlib.Core.Logic.{◌⊎◌, inl, inr}
use mathlib.Core.Bool.{Bool, true, false, ◌&&◌}
use mathlib.Core.List.{List}
use native.Mathlib.Omega.{arith}
use lib.Dec.{ltb}
use lib.ListN.{length}
use borrow.Author.Tests.{ltb-false}
use Rattle.wire.specs.Bytes.{Bytes}
use Rattle.wire.proofs.Tests.{both_left}
use Rattle.dots.specs.declared.Dot.{Dot}
use Rattle.dots.specs.Entries.{Line}
use Rattle.store.specs.Cut.{entries_in}
use Rattle.listing.specs.declared.LinesPut.{LinesPut}
use Rattle.listing.specs.Listing.{lines_of_live, key_lines, listing_bytes, StoredKeys, PutsFitting, PutsOrCounts, PutsWanted}
use Rattle.listing.proofs.Folds.{all_fit, not_all_fit, none-wanted, as_wanted, listing-within}
use borrow.Author.Rules.{rules}
use Rattle.listing.proofs.put_wanted.Goals as goal
use Rattle.listing.proofs.put_wanted.Goals.{then-all-out+else-counted, else-all-out}

module _ (ls : List Line) (out out' : Bytes) (all : Bool) (r : LinesPut) (dry : PutsOrCounts true ls out out' r) where
  too_short : (room : ℕ) → (all && ltb (length out) room) ≡ true → r.more ≡ true → PutsWanted all ls out out' (record { bytes = 0; labels = 0; more = true })
  too_short room t m = rw (dry.counts refl) (none-wanted ls out all (both_left all (ltb (length out) room) t) (not_all_fit (length out) ls (sym dry.more-is ∙ m)))

  -- all fit
  counted : r.more ≡ false → (all ≡ false) ⊎ (length (listing_bytes ls) ≤ length out)
  counted m = inr (all_fit (length out) ls (sym dry.more-is ∙ m))

as_long : (n : ℕ) (keys : Bytes) (tombstone : List Dot) (all : Bool) (room : ℕ) → StoredKeys n keys → (all && ltb room (length keys)) ≡ false
    → (all ≡ false) ⊎ (length (listing_bytes (lines_of_live tombstone (entries_in n keys))) ≤ room)
as_long n keys tombstone false room s f = inl f
as_long n keys tombstone true room s f = let h = ltb-false room (length keys) f in inr (omega (arith, listing-within n keys tombstone s))

-- the output is as it was, and has room for all lines where all are wanted
record Ready (ls : List Line) (all : Bool) (out out' : Bytes) : Type 0 where
  same : out' ≡ out
  room : (all ≡ false) ⊎ (length (listing_bytes ls) ≤ length out)

wanted : (ls : List Line) (all : Bool) (out out' out'' : Bytes) (r : LinesPut) → Ready ls all out out' → PutsFitting ls out' out'' r → PutsWanted all ls out out'' r
wanted ls all out out' out'' r ready p = as_wanted ls out all out'' r ready.room (subst (λ (s : Bytes). PutsFitting ls s out'' r) ready.same p)

pub returns-then-counted : goal.returns-then-counted
returns-then-counted c = search (rules, too_short)

pub returns : goal.returns
returns c =
    let room : Ready (key_lines c.args.n c.args.keys.now c.args.dead.dots.now) c.args.all c.args.out.now c.if-all-out.out =
    elim c.if-all-out.branch [
      | then-all-out+else-counted w ↦ record { same = w.out-is ∙ w.put_lines-counted.ensures.counts refl; room = counted _ _ _ _ _ w.put_lines-counted.ensures w.if-counted.false }
      | else-all-out w ↦ record { same = w.out-is; room = as_long _ _ _ _ _ c.requires.2 w.if-all-out.false }
    ] in
    wanted _ _ _ _ _ _ room (c.put_lines.ensures.puts refl)
