-- The fields stand where a key of this type has them; its length gives the room.
use Prim.Native.Nat.{ℕ, ◌+◌, ◌≤◌}
use mathlib.Core.Path.{◌≡◌, ◌∙◌}
use mathlib.Core.Bool.{true, cond}
use Rattle.std.specs.Prelude.{Ok}
use native.Mathlib.Omega.{arith}
use lib.ListN.{length, drop}
use Rattle.wire.specs.declared.Span.{Span}
use Rattle.wire.specs.Bytes.{Bytes, byte_at, number_at, zero_at, span}
use Rattle.keys.specs.declared.KeyKind.{KeyKind}
use Rattle.keys.specs.declared.KeyKind.TheVariants.{ClockKey, TombstoneKey, LabelKey, EndKey}
use Rattle.keys.specs.Key.{has_label, has_actor, prefix_fixed}
use Rattle.keys.specs.Read.{name_length, label_length, fields_as, is_key, found_key, read_as}
use Rattle.keys.specs.Parts.{tail_length}
use Rattle.keys.proofs.RoundTrip.{key-size}
use borrow.Author.Rules.{rules}
use Rattle.keys.proofs.Named.found_key.Goals as goal

module _ (s t : Bytes) (kind : KeyKind) (n l : ℕ) (key : is_key kind s ≡ true) (name : n ≡ name_length s) (rest : t ≡ drop (n + prefix_fixed) s) (label : l ≡ zero_at t) where
  label-length : l ≡ label_length s
  label-length = label ∙ rw (rest, name)

  size : length s ≡ n + l + (prefix_fixed + tail_length kind)
  size = let whole = key-size kind s key in let same = label-length in omega arith

  counter-room : cond (has_label kind) (n + l + 7 + 8) 0 ≤ length s
  counter-room = rw size (by_kind kind)
    where
      by_kind : (k : KeyKind) → cond (has_label k) (n + l + 7 + 8) 0 ≤ n + l + (prefix_fixed + tail_length k)
      by_kind ClockKey = omega arith
      by_kind TombstoneKey = omega arith
      by_kind LabelKey = omega arith
      by_kind EndKey = omega arith

  found : (x c : ℕ) (p : Span) → p ≡ cond (has_label kind) (span (n + prefix_fixed) l) (span 0 0) → x ≡ cond (has_actor kind) (byte_at s (n + l + 5)) 0 → c ≡ cond (has_label kind) (number_at 8 s (n + l + 7)) 0
      → read_as (Ok (record { kind = kind; name = span 2 n; label = p; actor = x; counter = c })) ≡ found_key kind s
  unfolding fields_as
  found x c p g i j = rw (i, j, g, label-length, name)

pub counter_at-requires : goal.counter_at-requires
counter_at-requires c = search (rules, counter-room)

pub returns : goal.returns
returns c = search (rules, found)
