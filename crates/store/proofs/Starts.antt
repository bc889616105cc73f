-- What keys begin with: how long it is, and read again where it was put. Assumes nothing.
use Rattle.std.proofs.Common.{◌≡◌, ℕ, ◌+◌, ◌≤◌, true, length, take, drop, sym, ◌∙◌, arith, length-append, take_at, leb-true}
use Rattle.wire.specs.Bytes.{Bytes, put_at}
use Rattle.wire.proofs.Tests.{both}
use Rattle.wire.proofs.Fields.{put_front}
use Rattle.dots.specs.Names.{Name, Label, name_most, label_most, text_ok, name_ok, label_ok}
use Rattle.keys.proofs.EntryKeys.{length-prefix}
use Rattle.store.specs.Place.{label_start}

pub name_most_lem : (name : Name) → name_ok name ≡ true → length name ≤ name_most
unfolding text_ok
name_most_lem name ok = leb-true (length name) name_most (search both)

pub label_most_lem : (label : Label) → label_ok label ≡ true → length label ≤ label_most
unfolding text_ok
label_most_lem label ok = leb-true (length label) label_most (search both)

pub label-some : (label : Label) → label_ok label ≡ true → 1 ≤ length label
unfolding text_ok
label-some label ok = leb-true 1 (length label) (search both)

pub length_label_start : (name : Name) (label : Label) → length (label_start name label) ≡ length name + length label + 5
unfolding label_start
length_label_start name label = rw (length-append, length-append, length-prefix) (omega arith)

-- what was put at the front of a buffer, m bytes, is read there
module _ (s t x : Bytes) (n m : ℕ) (put : t ≡ put_at s 0 x) (count : n ≡ m) (size : length x ≡ m) where
  pub put-read : take n t ≡ x
  put-read = rw (put, put_front) (take_at x (drop (length x) s) n (size ∙ sym count))

  pub put-size : n ≡ length (take n t)
  put-size = rw (put-read, size) count

  pub put-room : n ≤ length t
  put-room = rw (put, put_front, length-append) (omega arith)
