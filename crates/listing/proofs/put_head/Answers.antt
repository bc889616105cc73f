-- Each field is put where the one before it ended.
use mathlib.Core.Path.{◌≡◌, sym, ap, ap₂, ◌∙◌}
use mathlib.Core.List.{[], ◌∷◌, ◌++◌}
use Prim.Native.Nat.{ℕ, ◌+◌, ◌^◌, ◌≤◌, ◌<◌, ◌/◌, ◌%◌}
use native.Mathlib.Nat.{div-one}
use mir.Syntax.{w16}
use Rattle.std.specs.Int.{to_be_bytes}
use native.Mathlib.Omega.{arith}
use lib.ListN.{length}
use Rattle.wire.specs.Bytes.{Bytes, big_endian, put_at}
use Rattle.wire.proofs.Fields.{put_next}
use Rattle.listing.specs.Listing.{line_fixed}
use Rattle.listing.specs.Lines.{line_head}
use borrow.Author.Rules.{rules}
use Rattle.listing.proofs.put_head.Goals as goal

-- std's two bytes of a number, the highest first
two_bytes : (n : ℕ) → n < 256 ^ 2 → to_be_bytes w16 n ≡ big_endian 2 n
unfolding big_endian
two_bytes n h =
    let high : n / 256 % 256 ≡ n / 256 = omega arith in
    let low : n % 256 / 1 ≡ n % 256 = div-one (n % 256) in
    ap₂ (λ (a b : ℕ). a ∷ b ∷ []) high (sym low)

head-put : (out a b c label number : Bytes) (from next count : ℕ) → a ≡ put_at out 0 (length label ∷ []) → from ≡ 0 + 1 → b ≡ put_at a from label → next ≡ from + length label
    → number ≡ big_endian 2 count → c ≡ put_at b next number → length label + line_fixed ≤ length out → c ≡ put_at out 0 (line_head label count)
head-put out a b c label number from next count e f g h k m room =
    let second : b ≡ put_at out 0 (length label ∷ label) = put_next out a b (length label ∷ []) label 0 from e f g (omega arith) in
    let third : c ≡ put_at out 0 ((length label ∷ label) ++ number) = put_next out b c (length label ∷ label) number 0 next second (omega arith) m (omega arith) in
    third ∙ ap (λ (t : Bytes). put_at out 0 ((length label ∷ label) ++ t)) k

pub returns : goal.returns
returns c = (search rules, search (rules, head-put, two_bytes))
