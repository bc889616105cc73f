-- By three pieces, the second of which reaches the first's end and the third the second's.
use Rattle.std.proofs.Common.{◌≡◌, ℕ, ◌+◌, ◌-◌, ◌≤◌, min, Bool, ◌&&◌, List, length, drop, arith, rules}
use Rattle.wire.specs.Bytes.{part_at, starts_with}
use Rattle.search.proofs.Pieces.{first_piece, piece_on, piece_last}
use Rattle.search.proofs.starts_near.Goals as goal

three : (a s : List ℕ) → 8 ≤ length a → length a ≤ 24 → (m : ℕ) → m ≡ min 8 (length a - 8) → (x y z : Bool)
    → x ≡ starts_with (part_at a 0 8) (drop 0 s) → y ≡ starts_with (part_at a m 8) (drop m s) → z ≡ starts_with (part_at a (length a - 8) 8) (drop (length a - 8) s)
    → ((x && y) && z) ≡ starts_with a s
three a s h l m e x y z p q r =
    rw r (piece_last a s (x && y) 8 (m + 8) h (omega arith) (omega arith) (rw q (piece_on a s x 8 8 m (omega arith) (omega arith) (omega arith) (rw p (first_piece a s 8 h)))))

pub returns : goal.returns
returns c = search (rules, three)
