-- Fields copied out of a block. Assumes nothing.
use mathlib.Core.Path.{◌≡◌, refl, sym, ap, ◌∙◌}
use mathlib.Core.List.{List, [], ◌∷◌, ◌++◌, append-nil}
use Prim.Native.Nat.{ℕ, zero, suc, ◌+◌, ◌*◌, ◌≤◌, ◌<◌}
use native.Mathlib.Nat.{add-zero}
use native.Mathlib.Numerals.{add-one}
use native.Mathlib.Omega.{arith}
use lib.ListN.{length, take, set, drop_of_length-le}
use lib.Seq.{take-suc-set, take_all}
use Rattle.wire.specs.Bytes.{Bytes, part_at, number_at, put_at}
use Rattle.wire.proofs.Fields.{put_front, part_length}
use Rattle.block.specs.Block.{words_at}

-- a part of n bytes put over n bytes is that part
pub copied : (s zeros last : Bytes) (at n : ℕ) → at + n ≤ length s → length zeros ≡ n → last ≡ put_at zeros 0 (part_at s at n) → last ≡ part_at s at n
copied s zeros last at n fits size e =
    let all : length zeros ≤ length (part_at s at n) = omega (arith, part_length s at n fits) in
    e ∙ put_front zeros (part_at s at n) ∙ rw (drop_of_length-le zeros all, append-nil)

-- no words, and one word more
pub words-none : (s : Bytes) (at : ℕ) → [] ≡ words_at 0 s at
unfolding words_at
words-none s at = refl

words_snoc : (n : ℕ) (s : Bytes) (at : ℕ) → words_at (suc n) s at ≡ words_at n s at ++ (number_at 8 s (at + n * 8) ∷ [])
unfolding words_at
words_snoc zero s at = rw add-zero
words_snoc (suc n) s at = let next : at + 8 + n * 8 ≡ at + suc n * 8 = omega arith in ap (λ (t : List ℕ). number_at 8 s at ∷ t) (rw next at (words_snoc n s (at + 8)))

module _ (s words : Bytes) (at i : ℕ) (read : take i words ≡ words_at i s at) where
  pub word_read : (w : ℕ) → i < length words → w ≡ number_at 8 s (at + i * 8) → take (i + 1) (set words i w) ≡ words_at (i + 1) s at
  word_read w h e = rw (add-one i, take-suc-set words i w h, read, words_snoc i s at, e)

  pub all_read : (n : ℕ) → i ≤ n → n ≤ i → length words ≡ n → words ≡ words_at n s at
  all_read n most least size = let end : i ≡ n = omega arith in let past : length words ≤ n = omega arith in sym (take_all n words past) ∙ rw end at read
