-- The first word has the first 0, or is passed over.
use Rattle.std.proofs.Common.{◌≡◌, ℕ, ◌+◌, ◌-◌, ◌<◌, ◌≤◌, List, length, get_or, take, drop, sym, arith, length-drop, w8, Fits, rules}
use Rattle.wire.specs.Bytes.{little_endian, low_number_at, zero_at}
use Rattle.wire.proofs.Parts.{rest_part}
use Rattle.search.proofs.ZeroBytes.{zero_in_word, zero_past_word}
use Rattle.search.proofs.zero_at.Goals as goal

-- what the first word says, where its first 0 is at z
module _ (s : List ℕ) (known : (k : ℕ) → Fits w8 (get_or s k 0)) (w z : ℕ) (h : 8 ≤ length s) (e : w ≡ low_number_at 8 s 0) (f : (z ≡ zero_at (little_endian 8 w)) × (z ≤ 8)) where
  found : z < 8 → z ≡ zero_at s
  found l = sym (zero_in_word s known 0 w z h e f.0 l)

  passed : 8 ≤ z → (r : ℕ) → (r ≡ zero_at (take (length s - 8) (drop 8 s))) × (r ≤ length (take (length s - 8) (drop 8 s))) → (8 + r ≡ zero_at s) × (8 + r ≤ length s)
  passed l r g =
      let k = rw (rest_part s 8, length-drop) at g in
      (omega (arith, k.0, zero_past_word s known 0 w z h e f.0 l), omega (arith, k.1))

pub returns-then-z-lt8 : goal.returns-then-z-lt8
returns-then-z-lt8 c = search (rules, found)

pub returns : goal.returns
returns c = passed _ c.type_inv.s _ _ (omega arith) c.low_at.ensures c.first_zero-z.ensures c.if-z-lt8.false _ c.zero_words.ensures
