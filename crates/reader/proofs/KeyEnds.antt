-- Where a key ends, for callers: a place before the last byte and a name of lawful length. Assumes nothing.
use mathlib.Core.Path.{◌≡◌}
use Prim.Native.Nat.{ℕ, ◌+◌, ◌≤◌, ◌<◌}
use native.Mathlib.Omega.{arith}
use lib.ListN.{length, drop, length-drop}
use borrow.Author.Tests.{lt-leb, le-ltb}
use Rattle.wire.specs.Bytes.{Bytes}
use Rattle.dots.specs.Names.{name_most}
use Rattle.store.specs.Cut.{key_length}
use Rattle.store.proofs.Cut.{key_length_le}
use Rattle.reader.specs.Reading.{key_end}

module _ (keys : Bytes) (at n : ℕ) (more : at < length keys) (short : n ≤ name_most) where
  pub key_end_is : key_end keys at n ≡ at + key_length n (drop at keys)
  unfolding key_end
  key_end_is = rw (lt-leb (length keys) at more, le-ltb name_most n short)

  pub key_end_within : key_end keys at n ≤ length keys
  key_end_within = omega (arith, key_end_is, key_length_le n (drop at keys), length-drop at keys)
