-- By its label and dot, its prefix, and its order.
use Rattle.std.proofs.Common.{◌≡◌, ℕ, ◌+◌, ◌<◌, ◌≤◌, Bool, true, false, Some, List, length, get_or, refl, arith, w8, Fits}
use Rattle.wire.specs.Lists.{is_lt}
use Rattle.wire.specs.Bytes.{Bytes, compare_bytes, number_at, starts_with}
use Rattle.keys.specs.Key.{suffix_size}
use Rattle.store.specs.declared.KeyTail.{KeyTail}
use Rattle.store.specs.declared.LabelEnd.{LabelEnd}
use Rattle.store.specs.declared.Prefix.{Prefix}
use Rattle.store.specs.Valid.{used_ok}
use Rattle.store.specs.Front.{after_length, front_length, TailIn, tail_of}
use Rattle.store.specs.Pass.{key_most, name_in, AfterIs, Passing, CanRead}
use Rattle.store.proofs.OnePass.{Bounds}
use Rattle.store.proofs.Prefixes.{start-size}
use Rattle.store.proofs.NextKey.{rest_at, tail_at, roomy-numbers, roomy-other, roomy-read, roomy-bad, next-bad, next-bounds, next_unordered, next-sound}
use Rattle.store.proofs.Pass.roomy_key.Goals as goal

-- a key whose label was read and that begins with the prefix
module _ (start : Bytes) (p : Prefix) (words : List ℕ) (keys : Bytes) (last : KeyTail) (can : CanRead start p words keys last) (room : last.end + key_most ≤ length keys) (small : (i : ℕ) → Fits w8 (get_or keys i 0))
    (label : LabelEnd) (read : AfterIs (after_length words (tail_at keys p.len last.end)) (Some label)) (r : Bool) (begun : r ≡ starts_with start (rest_at keys last.end)) (d : r ≡ true) where
  -- its length is as the rules say, and it ends within the keys
  size_is : length start + (label.len + suffix_size) ≡ front_length (name_in start) words (rest_at keys last.end)
  size_is = roomy-read start words keys last.end p.len can.0 can.1.size small r begun d label.len read.0

  more : last.end < length keys
  more = omega arith

  bounded : Bounds (name_in start) keys last.end (length start + (label.len + suffix_size))
  bounded = next-bounds (name_in start) words keys last can.2 more _ size_is (λ z. omega arith)

  module _ (word half : ℕ) (first : word ≡ number_at 8 (tail_at keys p.len last.end) 0) (second : half ≡ number_at 4 (tail_at keys p.len last.end) 8) where
    -- the key as it is read, and its numbers
    abbrev next : KeyTail
    next = record {
      from = last.end + p.len;
      end = last.end + (p.len + suffix_size) + label.len;
      len = label.len;
      mark = label.mark;
      word = word;
      half = half;
    }

    numbers : TailIn keys next
    numbers =
        let b = bounded in
        let size = can.1.size in
        let whole = start-size start can.0.1 in
        roomy-numbers start words keys last.end p.len can.0 size small _ word half (omega arith) (omega arith) first second

    in-order : TailIn keys last × (TailIn keys next × (last.end + p.len < last.end + (p.len + suffix_size) + label.len))
    in-order = (can.2.tail_in, (numbers, omega arith))

    module _ (o : Bool) (ordered : o ≡ is_lt (compare_bytes (tail_of keys last) (tail_of keys next))) where
      unordered : o ≡ false → used_ok (name_in start) words keys ≡ false
      unordered e =
          let size = can.1.size in
          let whole = start-size start can.0.1 in
          next_unordered (name_in start) words keys last can.2 more _ size_is (λ z. omega arith) next (omega arith) (omega arith) o ordered e

      sound : o ≡ true → Passing (name_in start) words keys next × (last.end + 1 ≤ last.end + (p.len + suffix_size) + label.len)
      sound e =
          let size = can.1.size in
          let whole = start-size start can.0.1 in
          (next-sound (name_in start) words keys last can.2 more _ size_is (λ z. omega arith) next (omega arith) (omega arith) o ordered e numbers read.2, omega arith)

pub returns-in_err-label : goal.returns-in_err-label
returns-in_err-label c =
    let more : c.args.last.end < length c.args.self.keys.now = omega arith in
    rw c.from_residual.ensures (next-bad _ _ _ _ c.requires.0 more _ (roomy-bad c.args.self.start.now c.args.self.words.now c.args.self.keys.now c.args.last.end c.args.self.prefix.len c.args.self.is_start c.args.self.is_prefix.size c.args.self.are_bytes (rw c.in_err-label.was at c.seen_label.ensures)) refl)

pub returns-then-not-begins : goal.returns-then-not-begins
returns-then-not-begins c =
    let more : c.args.last.end < length c.args.self.keys.now = omega arith in
    next-bad _ _ _ _ c.requires.0 more _ (roomy-other c.args.self.start.now c.args.self.words.now c.args.self.keys.now c.args.last.end c.args.self.prefix.len c.args.self.is_start c.args.self.is_prefix.size c.args.self.are_bytes _ c.begins.ensures c.if-not-begins.true) refl

pub overflow_add-end-3 : goal.overflow_add-end-3
overflow_add-end-3 c =
    let b = bounded _ _ _ _ _ (c.args.self.is_start, c.args.self.is_prefix, c.requires.0) c.requires.1 c.args.self.are_bytes _ (rw c.in_ok-label.was at c.seen_label.ensures) _ c.begins.ensures c.if-not-begins.false in
    let s = c.args.self.is_prefix.size in
    omega arith

pub ascends-requires : goal.ascends-requires
ascends-requires c = in-order _ _ _ _ _ (c.args.self.is_start, c.args.self.is_prefix, c.requires.0) c.requires.1 c.args.self.are_bytes _ (rw c.in_ok-label.was at c.seen_label.ensures) _ c.begins.ensures c.if-not-begins.false _ _ c.number_at.ensures c.half_at.ensures.0

pub returns-then-not-ascends : goal.returns-then-not-ascends
returns-then-not-ascends c = unordered _ _ _ _ _ (c.args.self.is_start, c.args.self.is_prefix, c.requires.0) c.requires.1 c.args.self.are_bytes _ (rw c.in_ok-label.was at c.seen_label.ensures) _ c.begins.ensures c.if-not-begins.false _ _ c.number_at.ensures c.half_at.ensures.0 _ c.ascends.ensures c.if-not-ascends.true

pub returns : goal.returns
returns c = sound _ _ _ _ _ (c.args.self.is_start, c.args.self.is_prefix, c.requires.0) c.requires.1 c.args.self.are_bytes _ (rw c.in_ok-label.was at c.seen_label.ensures) _ c.begins.ensures c.if-not-begins.false _ _ c.number_at.ensures c.half_at.ensures.0 _ c.ascends.ensures c.if-not-ascends.false
