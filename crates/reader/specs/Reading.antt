-- Where a key ends, for whoever walks over keys end to end.
use Rattle.std.specs.Prelude.{ℕ, ◌+◌, cond, ◌||◌, leb, ltb, length, drop}
use Rattle.wire.specs.Bytes.{Bytes}
use Rattle.dots.specs.Names.{name_most}
use Rattle.store.specs.Cut.{key_length}

-- where the key at a place ends, for a set name of n bytes; past the last key, and for a name too long, the end of the keys
unfoldable pub key_end : Bytes → ℕ → ℕ → ℕ
key_end keys at n = cond (leb (length keys) at || ltb name_most n) (length keys) (at + key_length n (drop at keys))
