-- Bytes put one after the other, unless the run is dry. Assumes nothing.
use mathlib.Core.Path.{◌≡◌, refl, sym, ap, ◌∙◌}
use mathlib.Core.Bool.{Bool, true, false}
use mathlib.Core.List.{[], ◌∷◌, ◌++◌, append-nil}
use Prim.Native.Nat.{ℕ, ◌+◌, ◌≤◌}
use native.Mathlib.Nat.{add-zero}
use lib.ListN.{length, take-append-drop}
use Rattle.wire.specs.Lists.{cons_if}
use Rattle.wire.specs.Bytes.{Bytes, put_at}
use Rattle.wire.proofs.Fields.{put_next}
use Rattle.dots.specs.declared.Dot.{Dot}
use Rattle.dots.specs.Wire.{dot_bytes, dots_bytes}
use Rattle.listing.proofs.Folds.{length-put}
use Rattle.merge.specs.Kept.{put_unless}

pub nothing_put : (s : Bytes) (at : ℕ) → put_at s at [] ≡ s
unfolding put_at
nothing_put s at = rw add-zero (take-append-drop at s)

pub unless_nothing : (dry : Bool) (s : Bytes) (at : ℕ) → s ≡ put_unless dry s at []
unless_nothing true s at = refl
unless_nothing false s at = sym (nothing_put s at)

pub unless_next : (dry : Bool) (s t u x y : Bytes) (at next : ℕ) → t ≡ put_unless dry s at x → next ≡ at + length x → u ≡ put_unless dry t next y → (dry ≡ false → next ≤ length s)
    → u ≡ put_unless dry s at (x ++ y)
unless_next true s t u x y at next e n f h = f ∙ e
unless_next false s t u x y at next e n f h = put_next s t u x y at next e n f (h refl)

pub length_unless : (dry : Bool) (s x : Bytes) (at : ℕ) → (dry ≡ false → at + length x ≤ length s) → length (put_unless dry s at x) ≡ length s
length_unless true s x at h = refl
length_unless false s x at h = length-put s x at (h refl)

pub one_dot : (d : Dot) → dots_bytes (d ∷ []) ≡ dot_bytes d
unfolding dots_bytes
one_dot d = append-nil (dot_bytes d)

-- a dot put if it is kept, and counted
abbrev pub PutIf : Bool → Bool → Dot → ℕ → Bytes → Bytes → ℕ → ℕ → Type 0
PutIf kept dry d at out out' count count' = (count' ≡ count + length (cons_if kept d [])) × (out' ≡ put_unless dry out at (dots_bytes (cons_if kept d [])))

pub put_kept : (kept dry : Bool) (d : Dot) (at : ℕ) (out out' : Bytes) (count count' : ℕ) → kept ≡ true → count' ≡ count + 1 → out' ≡ put_unless dry out at (dot_bytes d)
    → PutIf kept dry d at out out' count count'
put_kept kept dry d at out out' count count' t e put = rw t (e, put ∙ ap (put_unless dry out at) (sym (one_dot d)))

pub put_not_kept : (kept dry : Bool) (d : Dot) (at : ℕ) (out out' : Bytes) (count count' : ℕ) → kept ≡ false → count' ≡ count → out' ≡ out
    → PutIf kept dry d at out out' count count'
unfolding dots_bytes
put_not_kept kept dry d at out out' count count' f e same = rw f (e ∙ sym (add-zero count), same ∙ unless_nothing dry out at)
