-- "the inner step (no entry point) hands back the first key of whichever lent store sorts lower, on a tie that of the first rack, and an empty
-- stretch at the end of both". n is the length of the set's name.
use Rattle.std.specs.Borrow.{Bor}
use Rattle.std.specs.Prelude.{ℕ, Bool, true, false, ◌&&◌, ◌||◌, ltb, eqb, length, take}
use Rattle.wire.specs.Lists.{is_lt}
use Rattle.wire.specs.Bytes.{Bytes, compare_bytes, IsPart}
use Rattle.store.specs.Cut.{key_length}

-- the first of keys end to end; of none the empty stretch
abbrev pub first_key : ℕ → Bytes → Bytes
first_key n keys = take (key_length n keys) keys

-- whether it is the second's: that has a key, and the first has none or a higher one
unfoldable pub second_lower : ℕ → Bytes → Bytes → Bool
second_lower n a b = ltb 0 (length b) && (eqb (length a) 0 || is_lt (compare_bytes (first_key n b) (first_key n a)))

-- r is the very stretch of one of them, and no copy
abbrev pub FirstOf : Bool → ℕ → Bor Bytes → Bor Bytes → Bor Bytes → Type 0
FirstOf true n a b r = IsPart b 0 (key_length n b.now) r
FirstOf false n a b r = IsPart a 0 (key_length n a.now) r

abbrev pub Handed : ℕ → Bor Bytes → Bor Bytes → Bor Bytes → Type 0
Handed n a b r = FirstOf (second_lower n a.now b.now) n a b r
