-- By its length, which is 0 where it breaks a rule, and its order.
use Rattle.std.proofs.Common.{◌≡◌, ℕ, ◌+◌, ◌<◌, ◌≤◌, Bool, true, false, List, length, take, drop, refl, arith, ◌-◌}
use Rattle.wire.specs.Lists.{is_lt}
use Rattle.wire.specs.Bytes.{Bytes, compare_bytes, number_at}
use Rattle.keys.specs.Key.{prefix_fixed}
use Rattle.store.specs.declared.KeyTail.{KeyTail}
use Rattle.store.specs.Valid.{used_ok}
use Rattle.store.specs.Front.{front_length, TailIn, tail_of}
use Rattle.store.specs.Pass.{name_in, IsStart, Passing}
use Rattle.store.proofs.FirstNumbers.{numbers-read}
use Rattle.store.proofs.OnePass.{Bounds}
use Rattle.store.proofs.Prefixes.{start-size}
use Rattle.store.proofs.NextKey.{next-bad, next-bounds, next_unordered, next-sound}
use Rattle.store.proofs.Pass.any_key.Goals as goal

-- a key that keeps the rules
module _ (start : Bytes) (words : List ℕ) (keys : Bytes) (last : KeyTail) (is : IsStart start) (p : Passing (name_in start) words keys last) (more : last.end < length keys) (size : ℕ)
    (read : size ≡ front_length (name_in start) words (take (length keys - last.end) (drop last.end keys))) (some : size ≡ 0 → ⊥) where
  bounded : Bounds (name_in start) keys last.end size
  bounded = next-bounds (name_in start) words keys last p more size read some

  sized : length start ≡ length (name_in start) + prefix_fixed
  sized = start-size start is.1

  -- it has 12 bytes from its label on, and ends within the keys
  label-room : last.end + length start + 12 ≤ last.end + size
  label-room = omega (arith, bounded.tail_within, sized)

  within : last.end + size ≤ length keys
  within = bounded.end-within

  module _ (word half : ℕ) (first : word ≡ number_at 8 keys (last.end + length start)) (second : half ≡ number_at 4 keys (last.end + length start + 8)) where
    -- the key as it is read, and its numbers
    abbrev next : KeyTail
    next = record {
      from = last.end + length start;
      end = last.end + size;
      len = 0;
      mark = 0;
      word = word;
      half = half;
    }

    numbers : TailIn keys next
    numbers = numbers-read keys _ _ word half label-room within first second

    module _ (o : Bool) (ordered : o ≡ is_lt (compare_bytes (tail_of keys last) (tail_of keys next))) where
      unordered : o ≡ false → used_ok (name_in start) words keys ≡ false
      unordered e = next_unordered (name_in start) words keys last p more size read some next (omega (arith, sized)) refl o ordered e

      sound : o ≡ true → Passing (name_in start) words keys next × (last.end + 1 ≤ last.end + size)
      sound e = (next-sound (name_in start) words keys last p more size read some next (omega (arith, sized)) refl o ordered e numbers (λ h. absurd (h refl)), omega (arith, label-room))

pub returns-in_err-size : goal.returns-in_err-size
returns-in_err-size c = rw c.from_residual.ensures (next-bad _ _ _ _ c.requires.0 c.requires.1 _ refl (rw c.in_err-size.was at c.front_length.ensures))

pub overflow_add-end : goal.overflow_add-end
overflow_add-end c = let w = within _ _ _ _ c.args.self.is_start c.requires.0 c.requires.1 _ (rw c.in_ok-size.was at c.front_length.ensures).0 (rw c.in_ok-size.was at c.front_length.ensures).1 in omega arith

pub number_at-requires : goal.number_at-requires
number_at-requires c = let l = label-room _ _ _ _ c.args.self.is_start c.requires.0 c.requires.1 _ (rw c.in_ok-size.was at c.front_length.ensures).0 (rw c.in_ok-size.was at c.front_length.ensures).1 in let w = within _ _ _ _ c.args.self.is_start c.requires.0 c.requires.1 _ (rw c.in_ok-size.was at c.front_length.ensures).0 (rw c.in_ok-size.was at c.front_length.ensures).1 in omega arith

pub overflow_add-from-2 : goal.overflow_add-from-2
overflow_add-from-2 c = let l = label-room _ _ _ _ c.args.self.is_start c.requires.0 c.requires.1 _ (rw c.in_ok-size.was at c.front_length.ensures).0 (rw c.in_ok-size.was at c.front_length.ensures).1 in let w = within _ _ _ _ c.args.self.is_start c.requires.0 c.requires.1 _ (rw c.in_ok-size.was at c.front_length.ensures).0 (rw c.in_ok-size.was at c.front_length.ensures).1 in omega arith

pub half_at-requires : goal.half_at-requires
half_at-requires c = let l = label-room _ _ _ _ c.args.self.is_start c.requires.0 c.requires.1 _ (rw c.in_ok-size.was at c.front_length.ensures).0 (rw c.in_ok-size.was at c.front_length.ensures).1 in let w = within _ _ _ _ c.args.self.is_start c.requires.0 c.requires.1 _ (rw c.in_ok-size.was at c.front_length.ensures).0 (rw c.in_ok-size.was at c.front_length.ensures).1 in omega arith

pub slice_bounds-lower-count-2 : goal.slice_bounds-lower-count-2
slice_bounds-lower-count-2 c = let l = label-room _ _ _ _ c.args.self.is_start c.requires.0 c.requires.1 _ (rw c.in_ok-size.was at c.front_length.ensures).0 (rw c.in_ok-size.was at c.front_length.ensures).1 in let w = within _ _ _ _ c.args.self.is_start c.requires.0 c.requires.1 _ (rw c.in_ok-size.was at c.front_length.ensures).0 (rw c.in_ok-size.was at c.front_length.ensures).1 in omega arith

pub slice_bounds-lower-start-2 : goal.slice_bounds-lower-start-2
slice_bounds-lower-start-2 c = let l = label-room _ _ _ _ c.args.self.is_start c.requires.0 c.requires.1 _ (rw c.in_ok-size.was at c.front_length.ensures).0 (rw c.in_ok-size.was at c.front_length.ensures).1 in let w = within _ _ _ _ c.args.self.is_start c.requires.0 c.requires.1 _ (rw c.in_ok-size.was at c.front_length.ensures).0 (rw c.in_ok-size.was at c.front_length.ensures).1 in omega arith

pub slice_bounds-lower-end-2 : goal.slice_bounds-lower-end-2
slice_bounds-lower-end-2 c = let l = label-room _ _ _ _ c.args.self.is_start c.requires.0 c.requires.1 _ (rw c.in_ok-size.was at c.front_length.ensures).0 (rw c.in_ok-size.was at c.front_length.ensures).1 in let w = within _ _ _ _ c.args.self.is_start c.requires.0 c.requires.1 _ (rw c.in_ok-size.was at c.front_length.ensures).0 (rw c.in_ok-size.was at c.front_length.ensures).1 in omega arith

pub returns-then-not-lower : goal.returns-then-not-lower
returns-then-not-lower c = unordered _ _ _ _ c.args.self.is_start c.requires.0 c.requires.1 _ (rw c.in_ok-size.was at c.front_length.ensures).0 (rw c.in_ok-size.was at c.front_length.ensures).1 _ _ c.number_at.ensures c.half_at.ensures.0 _ c.lower.ensures c.if-not-lower.true

pub returns : goal.returns
returns c = sound _ _ _ _ c.args.self.is_start c.requires.0 c.requires.1 _ (rw c.in_ok-size.was at c.front_length.ensures).0 (rw c.in_ok-size.was at c.front_length.ensures).1 _ _ c.number_at.ensures c.half_at.ensures.0 _ c.lower.ensures c.if-not-lower.false
