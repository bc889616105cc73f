-- At its place, which lies in the used bytes.
use Rattle.std.proofs.Common.{◌≡◌, ℕ, ◌+◌, ◌≤◌, length, take, sym, arith, length-take-le, rules}
use Rattle.wire.specs.Bytes.{Bytes, inserted_at}
use Rattle.store.specs.Cut.{keys_of}
use Rattle.store.specs.Place.{place_in, inserted_key}
use Rattle.store.proofs.insert_key.Goals as goal

module _ (store key : Bytes) (used n at : ℕ) (placed : at ≡ place_in key (keys_of n (take used store))) where
  inserted : (t : Bytes) → t ≡ inserted_at store used at key → t ≡ inserted_key n store used key
  inserted t e = rw placed at e

module _ (store : Bytes) (used k : ℕ) (room : used + k ≤ length store) where
  used-size : used ≡ length (take used store)
  used-size = sym (length-take-le used store (omega arith))

  within : (at : ℕ) → at ≤ length (take used store) → at ≤ used
  within at h = let size = used-size in omega arith

pub slice_bounds-place-end-2 : goal.slice_bounds-place-end-2
slice_bounds-place-end-2 c = search (rules, used-size)

pub insert_piece-requires : goal.insert_piece-requires
insert_piece-requires c = (search (rules, within), search rules)

pub returns : goal.returns
returns c = search (rules, inserted)
