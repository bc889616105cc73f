-- The dot is that of the key at the end, and counts where it is live.
use mathlib.Core.Path.{◌≡◌, refl, sym, ap, ap₂, ◌∙◌}
use mathlib.Core.Bool.{Bool, true, false, not, cond, ◌&&◌}
use mathlib.Core.List.{List}
use Prim.Native.Nat.{ℕ, ◌+◌, ◌-◌}
use native.Mathlib.Omega.{arith}
use lib.ListN.{take, drop}
use Rattle.wire.specs.Lists.{member}
use Rattle.wire.specs.Bytes.{Bytes}
use Rattle.wire.proofs.Parts.{size-part}
use Rattle.dots.specs.declared.Dot.{Dot}
use Rattle.dots.specs.Dots.{compare_dots}
use Rattle.store.specs.Cut.{key_dot}
use Rattle.listing.specs.declared.ListedLine.{ListedLine}
use Rattle.listing.specs.Listing.{is_live}
use Rattle.listing.specs.Lines.{key_size, with_key}
use borrow.Author.Rules.{rules}
use Rattle.listing.proofs.Listing.with_key.Goals as goal

module _ (n : ℕ) (keys : Bytes) (tombstone : List Dot) (l : ListedLine) (dot : Dot) (dead : Bool)
    (said : dot ≡ key_dot (take (l.end + key_size n l - l.end) (drop l.end keys))) (tested : dead ≡ member compare_dots dot tombstone) where
  live-is : is_live tombstone (key_dot (take (key_size n l) (drop l.end keys))) ≡ not dead
  live-is = sym (ap not (tested ∙ ap (λ (d : Dot). member compare_dots d tombstone) (said ∙ ap key_dot (size-part keys l.end (key_size n l)))))

  counted : (b : Bool) (count : ℕ) (all : Bool) → dead ≡ b → count ≡ l.count + cond (not b) 1 0 → all ≡ (not b && l.all)
      → record { len = l.len; end = l.end + key_size n l; count = count; all = all } ≡ with_key n keys tombstone l
  unfolding with_key
  counted b count all e c a = rw (live-is, e) (ap₂ (λ (k : ℕ) (t : Bool). record { len = l.len; end = l.end + key_size n l; count = k; all = t }) c a)

  not_listed : dead ≡ true → record { len = l.len; end = l.end + key_size n l; count = l.count; all = false } ≡ with_key n keys tombstone l
  not_listed t = counted true l.count false t (omega arith) refl

  one_more : dead ≡ false → record { len = l.len; end = l.end + key_size n l; count = l.count + 1; all = l.all } ≡ with_key n keys tombstone l
  one_more t = counted false (l.count + 1) l.all t (omega arith) refl

pub returns-then-holds : goal.returns-then-holds
returns-then-holds c = search (rules, not_listed)

pub returns : goal.returns
returns c = search (rules, one_more)
