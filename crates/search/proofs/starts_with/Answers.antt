-- Too short; or by two halves of a word, which may overlap; or as std tells it.
use Rattle.std.proofs.Common.{◌≡◌, ℕ, ◌+◌, ◌-◌, ◌≤◌, Bool, ◌&&◌, List, length, drop, ◌∙◌, arith, rules}
use Rattle.wire.specs.Bytes.{part_at, starts_with}
use Rattle.search.proofs.Pieces.{too_short, std-starts, first_piece, piece_last}
use Rattle.search.proofs.starts_with.Goals as goal

two : (a s : List ℕ) (k : ℕ) (x z : Bool) → k ≤ length a → x ≡ starts_with (part_at a 0 k) (drop 0 s) → z ≡ starts_with (part_at a (length a - k) k) (drop (length a - k) s)
    → length a ≤ k + k → (x && z) ≡ starts_with a s
two a s k x z h p q r = rw q (piece_last a s x k k h r h (rw p (first_piece a s k h)))

pub returns-then-s-n : goal.returns-then-s-n
returns-then-s-n c = search (rules, too_short)

pub returns-in-4-to-8 : goal.returns-in-4-to-8
returns-in-4-to-8 c = two _ _ 4 _ _ (omega arith) c.same_half.ensures c.same_half-in-4-to-8.ensures (omega arith)

pub returns-in_default : goal.returns-in_default
returns-in_default c = c.starts_with.ensures.value ∙ std-starts _ _
