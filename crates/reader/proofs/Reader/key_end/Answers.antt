-- The test is the definition's; else the key at the place is within the keys.
use mathlib.Core.Path.{◌≡◌}
use mathlib.Core.Bool.{true, false, ◌||◌}
use Prim.Native.Nat.{ℕ, ◌+◌, ◌-◌, ◌≤◌, ◌<◌, ◌^◌}
use native.Mathlib.Omega.{arith}
use mir.Syntax.{w64}
use mir.Val.{Fits}
use lib.Dec.{leb, ltb}
use lib.ListN.{length, take, drop}
use borrow.Author.Tests.{leb-false, ltb-false}
use Rattle.wire.specs.Bytes.{Bytes}
use Rattle.wire.proofs.Tests.{neither_left, neither_right}
use Rattle.wire.proofs.Parts.{rest_part}
use Rattle.dots.specs.Names.{name_most}
use Rattle.store.specs.Cut.{key_length}
use Rattle.store.proofs.Walk.{end_fits}
use Rattle.reader.specs.Reading.{key_end}
use borrow.Author.Rules.{rules}
use Rattle.reader.proofs.Reader.key_end.Goals as goal

module _ (keys : Bytes) (at n : ℕ) where
  past : (leb (length keys) at || ltb name_most n) ≡ true → length keys ≡ key_end keys at n
  unfolding key_end
  past t = rw t

  module _ (f : (leb (length keys) at || ltb name_most n) ≡ false) where
    here : at < length keys
    here = leb-false (length keys) at (neither_left (leb (length keys) at) (ltb name_most n) f)

    within : at ≤ length keys
    within = omega (arith, here)

    short : n ≤ name_most
    short = ltb-false name_most n (neither_right (leb (length keys) at) (ltb name_most n) f)

    module _ (len : ℕ) (read : len ≡ key_length n (take (length keys - at) (drop at keys))) where
      fits : length keys < 2 ^ 64 → Fits w64 (at + len)
      fits = end_fits n keys at len here read

      ended : at + len ≡ key_end keys at n
      unfolding key_end
      ended = rw (f, read, rest_part)

pub returns-then-keys-at : goal.returns-then-keys-at
returns-then-keys-at c = search (rules, past)

pub slice_bounds-key_length-count : goal.slice_bounds-key_length-count
slice_bounds-key_length-count c = search (rules, within)

pub slice_bounds-key_length-start : goal.slice_bounds-key_length-start
slice_bounds-key_length-start c = search (rules, within)

pub key_length-requires : goal.key_length-requires
key_length-requires c = search (rules, short)

pub overflow_add-result : goal.overflow_add-result
overflow_add-result c = search (rules, fits)

pub returns : goal.returns
returns c = search (rules, ended)
