-- The actor's byte and the counter's eight are those of the dot that they say.
use mathlib.Core.Path.{◌≡◌, sym, ap, ◌∙◌}
use mathlib.Core.List.{[], ◌∷◌}
use Prim.Native.Nat.{ℕ, ◌+◌, ◌-◌, ◌≤◌}
use native.Mathlib.Omega.{arith}
use lib.ListN.{length, take, drop, get_or}
use mir.Val.{Fits}
use mir.Syntax.{w8}
use Rattle.wire.specs.Bytes.{Bytes, AreBytes, big_endian, from_big_endian, number_at, put_at}
use Rattle.wire.proofs.BigEndian.{big_endian-from}
use Rattle.wire.proofs.Fields.{part-written, put_next}
use Rattle.dots.specs.Wire.{dot_bytes, dot_size}
use Rattle.keys.specs.Key.{suffix_size}
use Rattle.store.specs.Cut.{key_dot}
use borrow.Author.Rules.{rules}
use Rattle.listing.proofs.put_key_dot.Goals as goal

dot-put : (out a b key : Bytes) (at next : ℕ) → AreBytes key → suffix_size - 1 ≤ length key → at + dot_size ≤ length out → a ≡ put_at out at (get_or key (length key - (suffix_size - 1)) 0 ∷ [])
    → next ≡ at + 1 → b ≡ put_at a next (take (length key - (length key - 8)) (drop (length key - 8) key)) → b ≡ put_at out at (dot_bytes (key_dot key))
unfolding dot_bytes key_dot
dot-put out a b key at next small long room e f g =
    let eight : length key - (length key - 8) ≡ 8 = omega arith in
    let actor : ℕ = get_or key (length key - (suffix_size - 1)) 0 in
    let counter : big_endian 8 (number_at 8 key (length key - 8)) ≡ take 8 (drop (length key - 8) key) = part-written big_endian from_big_endian big_endian-from key small 8 (length key - 8) (omega arith) in
    put_next out a b (actor ∷ []) (take 8 (drop (length key - 8) key)) at next e f (rw eight at g) (omega arith) ∙ ap (λ (t : Bytes). put_at out at (actor ∷ t)) (sym counter)

pub returns : goal.returns
returns c = let key : Bytes = c.args.key.now in
    let small : (i : ℕ) → Fits w8 (get_or key i 0) = search rules in
    (search rules, dot-put _ _ _ key _ _ (λ i. (small i).fits) c.requires.0 c.requires.1 c.put-next.ensures.1 c.put-next.ensures.0 c.put.ensures.1)
