use Rattle.std.proofs.Common.{◌≡◌, ℕ, ◌+◌, ◌-◌, ◌<◌, ◌≤◌, Bool, true, false, List, length, drop, sym, ◌∙◌, arith, rules}
use borrow.Author.Tests.{not-true, not-false}
use Rattle.wire.specs.Bytes.{part_at, starts_with}
use Rattle.search.proofs.Pieces.{piece_more, piece_last}
use Rattle.search.proofs.starts_words.Goals as goal

module _ (a s : List ℕ) (i : ℕ) (r : Bool) (inv : starts_with a s ≡ starts_with (drop i a) (drop i s)) where
  module _ (h : i + 8 ≤ length a) (e : r ≡ starts_with (part_at a i 8) (drop i s)) where
    differs : r ≡ false → false ≡ starts_with a s
    differs d = sym (piece_more a s true 8 i h inv ∙ rw (sym e ∙ d))

    agrees : r ≡ true → starts_with a s ≡ starts_with (drop (i + 8) a) (drop (i + 8) s)
    agrees d = piece_more a s true 8 i h inv ∙ rw (sym e ∙ d)

  ends : 8 ≤ length a → i ≤ length a → length a < i + 8 → r ≡ starts_with (part_at a (length a - 8) 8) (drop (length a - 8) s) → r ≡ starts_with a s
  ends h l m e = let near : length a ≤ i + 8 = omega arith in e ∙ piece_last a s true 8 i h near l inv

pub returns-then-not-same_word : goal.returns-then-not-same_word
returns-then-not-same_word c = search (rules, differs, not-true)

pub loop-i-preserved : goal.loop-i-preserved
loop-i-preserved c = search (rules, agrees, not-false)

pub returns : goal.returns
returns c = search (rules, ends)
