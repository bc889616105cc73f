-- The key at the front of some bytes, as the pass over a store reads it.
use Rattle.std.specs.Prelude.{◌≡◌, ℕ, ◌+◌, ◌-◌, ◌<◌, ◌≤◌, cond, ◌&&◌, Option, None, Some, ◌≢◌, List, length, take, drop}
use Rattle.wire.specs.Bytes.{Bytes, zero_at, number_at}
use Rattle.dots.specs.Names.{Name}
use Rattle.keys.specs.Tests.{label_after, entry_after}
use Rattle.clock.specs.Clock.{sees}
use Rattle.store.specs.declared.KeyTail.{KeyTail}
use Rattle.store.specs.Cut.{key_length}
use Rattle.store.specs.Valid.{key_ok}
use Rattle.keys.specs.Key.{suffix_size}

-- how long the key at the front is, if it is a label key of the set whose dot the clock sees; else 0
unfoldable pub front_length : Name → List ℕ → Bytes → ℕ
front_length name words s = let len = key_length (length name) s in cond (key_ok name words (take len s)) len 0

-- the same for what follows the prefix: label, 00, actor, 00 and counter
unfoldable pub after_length : List ℕ → Bytes → ℕ
after_length words t =
    let len = zero_at t + suffix_size in
    cond (label_after (take len t) && sees words (entry_after (take len t)).dot) len 0

-- a length as it is returned: none in place of 0
abbrev pub LengthIs : ℕ → Option ℕ → Type 0
LengthIs len None = len ≡ 0
LengthIs len (Some r) = (r ≡ len) × (r ≢ 0)

-- the numbers in the first 8 bytes and in the next 4 of the bytes from a place to another, which are none or 12 at least
pub record FirstNumbers (bytes : Bytes) (from to word half : ℕ) : Type 0 where
  pub order : from ≤ to
  pub within : to ≤ length bytes
  pub long : from < to → from + 12 ≤ to
  pub first : word ≡ number_at 8 (take (to - from) (drop from bytes)) 0
  pub second : half ≡ number_at 4 (take (to - from) (drop from bytes)) 8

-- the bytes from a place to another
abbrev pub part_to : Bytes → ℕ → ℕ → Bytes
part_to bytes from to = take (to - from) (drop from bytes)

-- the bytes of a key from its label on, as the pass carries them: where they stand and their first numbers
abbrev pub TailIn : Bytes → KeyTail → Type 0
TailIn keys t = FirstNumbers keys t.from t.end t.word t.half

abbrev pub tail_of : Bytes → KeyTail → Bytes
tail_of keys t = part_to keys t.from t.end
