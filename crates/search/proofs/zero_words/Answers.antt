use Rattle.std.proofs.Common.{◌≡◌, ℕ, ◌+◌, ◌*◌, ◌/◌, ◌<◌, ◌≤◌, List, length, get_or, drop, arith, length-drop, w8, Fits}
use Rattle.wire.specs.Bytes.{little_endian, low_number_at, zero_at}
use Rattle.search.proofs.ZeroBytes.{word-at, zero_in_word, zero_past_word}
use Rattle.search.proofs.zero_words.Goals as goal

module _ (s : List ℕ) (i : ℕ) (inv : zero_at s ≡ i * 8 + zero_at (drop (i * 8) s)) where
  -- what the invariant says of the first 0, where word i has its first 0 at z
  module _ (known : (k : ℕ) → Fits w8 (get_or s k 0)) (w z : ℕ) (h : i < length s / 8) (e : w ≡ low_number_at 8 s (i * 8)) (f : (z ≡ zero_at (little_endian 8 w)) × (z ≤ 8)) where
    found : z < 8 → (i * 8 + z ≡ zero_at s) × (i * 8 + z ≤ length s)
    found l = (omega (arith, zero_in_word s known (i * 8) w z (omega arith) e f.0 l), omega arith)

    passed : 8 ≤ z → zero_at s ≡ (i + 1) * 8 + zero_at (drop ((i + 1) * 8) s)
    passed l =
        let next : (i + 1) * 8 ≡ i * 8 + 8 = omega arith in
        rw next (omega (arith, zero_past_word s known (i * 8) w z (omega arith) e f.0 l))

  -- and where no whole word is left
  ended : (n r : ℕ) (rest : List ℕ) → n ≡ i → rest ≡ drop (i * 8) s → i ≡ length s / 8 → (r ≡ zero_at rest) × (r ≤ length rest) → (n * 8 + r ≡ zero_at s) × (n * 8 + r ≤ length s)
  ended n r rest e f g h = let k = rw (f, length-drop) at h in (omega (arith, k.0), omega (arith, k.1))

pub returns-then-z-lt8 : goal.returns-then-z-lt8
returns-then-z-lt8 c =
    let e = word-at _ _ _ _ _ c.as_chunks.ensures.front (omega (arith, c.as_chunks.ensures.front_len)) c.from_le_bytes.ensures in
    found _ _ c.loop-i.invariant c.type_inv.s _ _ (omega (arith, c.as_chunks.ensures.front_len)) e c.first_zero-z.ensures c.if-z-lt8.true

pub loop-i-preserved : goal.loop-i-preserved
loop-i-preserved c =
    let e = word-at _ _ _ _ _ c.as_chunks.ensures.front (omega (arith, c.as_chunks.ensures.front_len)) c.from_le_bytes.ensures in
    passed _ _ c.loop-i.invariant c.type_inv.s _ _ (omega (arith, c.as_chunks.ensures.front_len)) e c.first_zero-z.ensures c.if-z-lt8.false

pub returns : goal.returns
returns c =
    let all : c.loop-i.i ≡ length c.args.s.now / 8 = omega (arith, c.as_chunks.ensures.front_len) in
    ended _ _ c.loop-i.invariant _ _ _ (omega arith) (rw all c.as_chunks.ensures.back) all c.zero_bytes.ensures
