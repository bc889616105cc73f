-- How long keys are. Assumes nothing.
use mathlib.Core.Path.{◌≡◌, refl, ap}
use Prim.Native.Nat.{ℕ, ◌+◌, ◌≤◌}
use native.Mathlib.Omega.{arith}
use lib.ListN.{length, length-append}
use Rattle.wire.proofs.BigEndian.{length-big_endian}
use Rattle.dots.specs.Names.{Name, Label}
use Rattle.keys.specs.declared.KeyKind.{KeyKind}
use Rattle.keys.specs.declared.KeyKind.TheVariants.{ClockKey, TombstoneKey, LabelKey, EndKey}
use Rattle.keys.specs.Key.{Key, key_of, after_type, key_bytes, label_key_fixed, prefix_fixed}
use Rattle.keys.specs.Parts.{tail_length, tail_bytes}

pub tail-long : (t : KeyKind) → 2 ≤ tail_length t
tail-long ClockKey = omega arith
tail-long TombstoneKey = omega arith
tail-long LabelKey = omega arith
tail-long EndKey = omega arith

pub length-tail : (t : KeyKind) (actor counter : ℕ) → length (tail_bytes t actor counter) ≡ tail_length t
length-tail ClockKey actor counter = refl
length-tail TombstoneKey actor counter = refl
length-tail LabelKey actor counter = rw length-big_endian
length-tail EndKey actor counter = refl

pub length-after : (k : Key) → length (after_type k) ≡ length k.label + tail_length k.kind
unfolding after_type
length-after k = rw length-append (ap (λ n. length k.label + n) (length-tail k.kind k.actor k.counter))

pub length-key : (k : Key) → length (key_bytes k) ≡ length k.name + length k.label + (prefix_fixed + tail_length k.kind)
unfolding key_bytes
length-key k = rw (length-append, length-after) (omega arith)

-- "A label key is name length + label length + 15 bytes"
module _ (name : Name) (label : Label) (actor counter : ℕ) where
  pub length_label_key : length (key_bytes (key_of LabelKey name label actor counter)) ≡ length name + length label + label_key_fixed
  length_label_key = length-key (key_of LabelKey name label actor counter)

  pub length_clock_key : length (key_bytes (key_of ClockKey name label actor counter)) ≡ length name + 7
  length_clock_key = rw length-key (omega arith)

  pub length_tombstone_key : length (key_bytes (key_of TombstoneKey name label actor counter)) ≡ length name + 7
  length_tombstone_key = rw length-key (omega arith)

  pub length_end_key : length (key_bytes (key_of EndKey name label actor counter)) ≡ length name + 6
  length_end_key = rw length-key (omega arith)
