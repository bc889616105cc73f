-- One field after the other.
use Prim.Native.Nat.{ℕ, ◌+◌, ◌≤◌}
use mathlib.Core.Path.{◌≡◌, refl, ap, ◌∙◌}
use mathlib.Core.Bool.{cond}
use mathlib.Core.List.{[], ◌++◌, append_assoc}
use native.Mathlib.Omega.{arith}
use lib.ListN.{length, length-append}
use Rattle.wire.specs.Bytes.{Bytes, put_at}
use Rattle.keys.specs.declared.KeyKind.{KeyKind}
use Rattle.keys.specs.declared.KeyKind.TheVariants.{ClockKey, TombstoneKey, LabelKey, EndKey}
use Rattle.keys.specs.Key.{key_of, type_byte, has_label, has_actor, after_type, key_bytes, prefix_fixed}
use Rattle.keys.specs.Parts.{tail_length, front_bytes, tail_bytes}
use Rattle.keys.proofs.Lengths.{length-key}
use Rattle.keys.proofs.Puts.{put_three}
use borrow.Author.Rules.{rules}
use Rattle.keys.proofs.NewKey.put.Goals as goal

-- what the type lacks is not looked at
tail-kept : (t : KeyKind) (actor counter : ℕ) → tail_bytes t (cond (has_actor t) actor 0) (cond (has_label t) counter 0) ≡ tail_bytes t actor counter
tail-kept ClockKey actor counter = refl
tail-kept TombstoneKey actor counter = refl
tail-kept LabelKey actor counter = refl
tail-kept EndKey actor counter = refl

module _ (kind : KeyKind) (name label : Bytes) (actor counter : ℕ) (s : Bytes) (fits : length (key_bytes (key_of kind name label actor counter)) ≤ length s) where
  front_fits : length name + prefix_fixed ≤ length s
  front_fits = omega (arith, length-key (key_of kind name label actor counter))

  module _ (p u : Bytes) (n : ℕ) (kept : p ≡ cond (has_label kind) label []) (after : n ≡ length name + prefix_fixed) (same : length u ≡ length s) where
    sizes : length (key_bytes (key_of kind name label actor counter)) ≡ length name + length p + (prefix_fixed + tail_length kind)
    sizes = rw kept (length-key (key_of kind name label actor counter))

    label-fits : n + length p ≤ length u
    label-fits = omega (arith, sizes)

    module _ (v : Bytes) (m : ℕ) (after' : m ≡ n + length p) (same' : length v ≡ length u) where
      tail-fits : m + tail_length kind ≤ length v
      tail-fits = omega (arith, sizes)

      size : (r : ℕ) → r ≡ m + tail_length kind → r ≡ length (key_bytes (key_of kind name label actor counter))
      size r e = omega (arith, sizes)

      all-put : (b : ℕ) (x : Bytes) → b ≡ type_byte kind → u ≡ put_at s 0 (front_bytes name b) → v ≡ put_at u n p → x ≡ put_at v m (tail_bytes kind actor counter)
          → x ≡ put_at s 0 (key_bytes (key_of kind name label actor counter))
      unfolding key_bytes after_type
      all-put b x e f g i =
          let start : n ≡ 0 + length (front_bytes name b) = rw length-append (omega arith) in
          let whole : front_bytes name b ++ (p ++ tail_bytes kind actor counter) ≡ key_bytes (key_of kind name label actor counter) = rw (append_assoc, kept, e, ← tail-kept kind actor counter) in
          put_three s u v x (front_bytes name b) p (tail_bytes kind actor counter) 0 n m f start g after' i (omega (arith, sizes)) ∙ ap (put_at s 0) whole

pub put_front-label_at-requires : goal.put_front-label_at-requires
put_front-label_at-requires c = search (rules, front_fits)

pub put-tail_at-requires : goal.put-tail_at-requires
put-tail_at-requires c = search (rules, label-fits)

pub put_tail-requires : goal.put_tail-requires
put_tail-requires c = search (rules, tail-fits)

pub returns : goal.returns
returns c = (search (rules, size), search (rules, all-put))
