-- One turn of a walk over keys end to end: the key at `at`, whose length was read of the part `&keys[at..]`. Assumes nothing.
use Rattle.std.proofs.Common.{◌≡◌, ℕ, ◌+◌, ◌-◌, ◌^◌, ◌<◌, ◌≤◌, Bool, true, false, List, ◌∷◌, length, take, drop, arith, length-drop, drop_of_length-le, length-take-le, w64, Fits}
use Rattle.store.specs.Cut.{key_length, keys_after, keys_of}
use Rattle.store.specs.Place.{length_while}
use Rattle.wire.specs.Lists.{all}
use Rattle.wire.proofs.Tests.{both_left, both_right}
use Rattle.wire.proofs.Parts.{rest_part, size-part}
use Rattle.store.proofs.Cut.{key_length_pos, key_length_le, keys_of_step}

module _ (n : ℕ) (keys : List ℕ) (at len : ℕ) (more : at < length keys) (read : len ≡ key_length n (take (length keys - at) (drop at keys))) where
  is-length : len ≡ key_length n (drop at keys)
  is-length = rw rest_part at read

  pub end-within : at + len ≤ length keys
  end-within = omega (arith, is-length, key_length_le n (drop at keys), length-drop at keys)

  pub end_fits : length keys < 2 ^ 64 → Fits w64 (at + len)
  end_fits h = omega (arith, end-within)

  pub len_pos : 0 < len
  len_pos = omega (arith, is-length, key_length_pos n (drop at keys) (rw length-drop (omega arith)))

  pub walk-falls : length keys - (at + len) < length keys - at
  walk-falls = omega (arith, end-within, len_pos)

  pub key-size : length (take len (drop at keys)) ≡ len
  key-size = length-take-le len (drop at keys) (rw length-drop (omega (arith, end-within)))

  -- the keys from `at` on
  pub first_key_lem : keys_of n (drop at keys) ≡ take len (drop at keys) ∷ keys_of n (drop (at + len) keys)
  first_key_lem = rw is-length (keys_of_step n keys at more)

  -- a test that holds of every key holds of this one and of those after it
  module _ (test : List ℕ → Bool) (every : all test (keys_of n (drop at keys)) ≡ true) where
    cut : all test (take len (drop at keys) ∷ keys_of n (drop (at + len) keys)) ≡ true
    cut = rw first_key_lem at every

    pub every_here : test (take (at + len - at) (drop at keys)) ≡ true
    unfolding all
    every_here = rw size-part (both_left (test (take len (drop at keys))) (all test (keys_of n (drop (at + len) keys))) cut)

    pub every_later : all test (keys_of n (drop (at + len) keys)) ≡ true
    unfolding all
    every_later = both_right (test (take len (drop at keys))) (all test (keys_of n (drop (at + len) keys))) cut

  -- a walk that goes on while a test holds
  module _ (test : List ℕ → Bool) (r : Bool) (tested : r ≡ test (take (at + len - at) (drop at keys)))
      (inv : length_while test (keys_of n keys) ≡ at + length_while test (keys_of n (drop at keys))) where
    is-tested : r ≡ test (take len (drop at keys))
    is-tested = rw size-part at tested

    pub while_left : r ≡ false → at ≡ length_while test (keys_of n keys)
    unfolding length_while
    while_left d =
        let here : length_while test (keys_of n (drop at keys)) ≡ 0 = rw (first_key_lem, ← is-tested, d) in
        omega arith

    pub while_passed : r ≡ true → length_while test (keys_of n keys) ≡ at + len + length_while test (keys_of n (drop (at + len) keys))
    unfolding length_while
    while_passed d =
        let there : length_while test (keys_of n (drop at keys)) ≡ len + length_while test (keys_of n (drop (at + len) keys)) =
        rw (first_key_lem, ← is-tested, d, key-size) in
        omega arith

pub while_ended : (test : List ℕ → Bool) (n : ℕ) (keys : List ℕ) (at : ℕ) → length keys ≤ at
    → length_while test (keys_of n keys) ≡ at + length_while test (keys_of n (drop at keys)) → at ≡ length_while test (keys_of n keys)
unfolding length_while keys_after
while_ended test n keys at h inv = omega (arith, rw (drop_of_length-le keys h) at inv)
