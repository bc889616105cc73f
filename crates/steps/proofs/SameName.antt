-- Refusal 7: two names are one if one begins with the other and is as long. Assumes nothing.
use Prim.Native.Nat.{ℕ}
use mathlib.Core.Path.{◌≡◌, refl, sym, ap, subst, ◌∙◌}
use mathlib.Core.Bool.{Bool, true, not, ◌&&◌}
use mathlib.Core.List.{[], ◌++◌, append-nil}
use lib.Dec.{compare_is_eq, eqb}
use lib.ListN.{length, drop}
use lib.Seq.{drop-length}
use borrow.Author.Tests.{eqb-true, eq-eqb}
use Rattle.wire.specs.Bytes.{Bytes, starts_with, compare_bytes}
use Rattle.wire.proofs.Tests.{both_left, both_right, both_ways, pass}
use Rattle.wire.proofs.Lists.{tie-is}
use Rattle.wire.proofs.Orders.{bytes_lawful}
use Rattle.wire.proofs.ByteOrder.{starts-itself, starts-split}

same_bytes : (a b : Bytes) → (starts_with a b && eqb (length a) (length b)) ≡ compare_is_eq (compare_bytes a b)
same_bytes a b = both_ways (starts_with a b && eqb (length a) (length b)) (compare_is_eq (compare_bytes a b)) there back
  where
    there : (starts_with a b && eqb (length a) (length b)) ≡ true → compare_is_eq (compare_bytes a b) ≡ true
    there h =
        let long : length a ≡ length b = eqb-true (length a) (length b) (both_right (starts_with a b) (eqb (length a) (length b)) h) in
        let rest : drop (length a) b ≡ [] = ap (λ (n : ℕ). drop n b) long ∙ drop-length b in
        let same : a ≡ b = sym (append-nil a) ∙ ap (λ (t : Bytes). a ++ t) (sym rest) ∙ starts-split a b (both_left (starts_with a b) (eqb (length a) (length b)) h) in
        rw (same, bytes_lawful.self b)

    back : compare_is_eq (compare_bytes a b) ≡ true → (starts_with a b && eqb (length a) (length b)) ≡ true
    back h =
        let same : a ≡ b = bytes_lawful.tie a b (tie-is _ (pass h)) in
        let whole : starts_with b b ≡ true = subst (λ (t : Bytes). starts_with b t ≡ true) (append-nil b) (starts-itself b []) in
        rw (same, whole, eq-eqb (length b) (length b) refl)

pub other_set_is : (name given : Bytes) (starts : Bool) → starts ≡ starts_with given name
    → not (starts && eqb (length given) (length name)) ≡ not (compare_is_eq (compare_bytes given name))
other_set_is name given starts e = rw (e, ← same_bytes given name)
