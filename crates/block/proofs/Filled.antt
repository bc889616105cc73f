-- Fields put into a block one after the other. Assumes nothing.
use mathlib.Core.Path.{◌≡◌, sym, ◌∙◌}
use mathlib.Core.List.{List, [], ◌++◌, append-nil}
use Prim.Native.Nat.{ℕ, ◌+◌, ◌*◌, ◌≤◌, ◌<◌}
use native.Mathlib.Nat.{add-zero}
use native.Mathlib.Omega.{arith}
use lib.ListN.{length, take, get_or, length-append, take-append-drop, drop_of_length-le}
use lib.Seq.{length-take-le, take_all}
use Rattle.wire.specs.Bytes.{Bytes, big_endian, put_at}
use Rattle.wire.proofs.BigEndian.{length-big_endian}
use Rattle.wire.proofs.Fields.{put_next, put_front}
use Rattle.wire.proofs.Parts.{take_step}
use Rattle.block.specs.Block.{words_bytes, Fills}
use Rattle.block.proofs.Blocks.{length-words, words_append}

-- ---- fields of a block

module _ {at : ℕ} {s t : Bytes} where
  pub fills_counted : (bytes : Bytes) (number n : ℕ) → length bytes ≡ n → t ≡ put_at s at (bytes ++ big_endian 8 number) → Fills at (at + n + 8) (bytes ++ big_endian 8 number) s t
  fills_counted bytes number n size e = record { ends = rw (length-append, length-big_endian 8 number, size) (omega arith); put = e }

  pub fills_words : (words : List ℕ) (n : ℕ) → length words ≡ n → t ≡ put_at s at (words_bytes words) → Fills at (at + 8 * n) (words_bytes words) s t
  fills_words words n size e = record { ends = rw (length-words, size); put = e }

  -- a field after another
  pub fill_next : {n m : ℕ} {x y u : Bytes} → Fills at n x s t → Fills n m y t u → n ≤ length s → Fills at m (x ++ y) s u
  fill_next {n} {m} {x} {y} {u} f g fits = record {
    ends = rw length-append (omega (arith, f.ends, g.ends));
    put = put_next s t u x y at n f.put (sym f.ends) g.put fits;
  }

-- what fills all of it is all of it
pub filled : (s t x : Bytes) (n : ℕ) → length s ≡ n → Fills 0 n x s t → t ≡ x
filled s t x n size f = let past : length s ≤ length x = omega (arith, f.ends) in f.put ∙ put_front s x ∙ rw (drop_of_length-le s past, append-nil)

-- ---- words

-- no words put
pub put-none : (s : Bytes) (at : ℕ) → s ≡ put_at s at (words_bytes [])
unfolding put_at words_bytes
put-none s at = rw add-zero (sym (take-append-drop at s))

-- the words before i, and the one at i
module _ (ws s t : Bytes) (at next i : ℕ) (fits : at + 8 * length ws ≤ length s) (below : i < length ws) (put : t ≡ put_at s at (words_bytes (take i ws))) (place : next ≡ at + 8 * i) where
  pub word-put : (u : Bytes) → u ≡ put_at t next (big_endian 8 (get_or ws i 0)) → u ≡ put_at s at (words_bytes (take (i + 1) ws))
  unfolding words_bytes
  word-put u e =
      let front : next ≡ at + length (words_bytes (take i ws)) = rw (length-words, length-take-le i ws (omega arith)) place in
      put_next s t u (words_bytes (take i ws)) (big_endian 8 (get_or ws i 0)) at next put front e (omega arith)
      ∙ rw (take_step ws i below, words_append, append-nil)

pub words-end : (ws : List ℕ) (at next i : ℕ) → i ≤ length ws → length ws ≤ i → next ≡ at + 8 * i → at + length (words_bytes ws) ≡ next
words-end ws at next i most least e = rw length-words (omega arith)

pub all-put : (ws s t : Bytes) (at i : ℕ) → length ws ≤ i → t ≡ put_at s at (words_bytes (take i ws)) → t ≡ put_at s at (words_bytes ws)
all-put ws s t at i h e = rw (take_all i ws h) at e
