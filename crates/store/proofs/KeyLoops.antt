-- A loop over keys end to end, as the iterator `Keys` gives them: its step, and a walk that goes on while a test holds. Assumes nothing.
use Rattle.std.proofs.Common.{◌≡◌, ℕ, ◌+◌, ◌-◌, ◌^◌, ◌<◌, ◌≤◌, Bool, true, false, List, [], ◌∷◌, length, take, drop, sym, refl, ap, ◌∙◌, arith, length-append, Bor, w64, Fits}
use Rattle.wire.specs.Bytes.{Bytes}
use Rattle.wire.proofs.Parts.{rest_part}
use Rattle.store.specs.Cut.{end_to_end, key_length, keys_after, keys_of}
use Rattle.store.specs.Place.{length_while, Tests}
use Rattle.store.proofs.Cut.{key_length_le, keys_of_cut, end_to_end_keys_of}

-- ---- the iterator's step

module _ (n : ℕ) (s : Bytes) (len : ℕ) (read : len ≡ key_length n s) where
  pub front-within : len ≤ length s
  front-within = omega (arith, read, key_length_le n s)

  pub keys-first : 0 < length s → keys_of n s ≡ take len s ∷ keys_of n (take (length s - len) (drop len s))
  keys-first more = rw (rest_part, read) (keys_of_cut n s more)

pub keys-none : (n : ℕ) (s : Bytes) → length s ≡ 0 → keys_of n s ≡ []
unfolding keys_after
keys-none n [] h = refl
keys-none n (b ∷ bs) h = absurd (omega arith)

-- ---- a walk that goes on while a test holds, which has gone past `len` bytes and has the keys ks left

pub record Walked (n : ℕ) (keys : Bytes) (returns : Bor Bytes → Bool → Type 0) (len : ℕ) (ks : List Bytes) : Type 0 where
  pub room : len + length (end_to_end ks) ≡ length keys
  pub past : (test : Bytes → Bool) → Tests returns test → length_while test (keys_of n keys) ≡ len + length_while test ks

module _ (n : ℕ) (keys : Bytes) (returns : Bor Bytes → Bool → Type 0) where
  pub walked-none : (ks : List Bytes) → ks ≡ keys_of n keys → Walked n keys returns 0 ks
  walked-none ks e = rw e (record { room = omega (arith, ap length (end_to_end_keys_of n keys)); past = λ test t. omega arith })

  module _ (len : ℕ) (ks : List Bytes) (w : Walked n keys returns len ks) where
    pub walked-within : len ≤ length keys
    walked-within = omega (arith, w.room)

    pub walked-ended : ks ≡ [] → (test : Bytes → Bool) → Tests returns test → len ≡ length_while test (keys_of n keys)
    unfolding length_while
    walked-ended e test t = let p : length_while test (keys_of n keys) ≡ len + length_while test [] = rw e at (w.past test t) in omega arith

    module _ (k : Bor Bytes) (ks' : List Bytes) (step : ks ≡ k.now ∷ ks') where
      pub walked-fits : length keys < 2 ^ 64 → Fits w64 (len + length k.now)
      unfolding end_to_end
      walked-fits h = let r : len + length (end_to_end (k.now ∷ ks')) ≡ length keys = rw step at w.room in omega (arith, length-append k.now (end_to_end ks'))

      module _ (r : Bool) (said : returns k r) where
        pub walked-left : r ≡ false → (test : Bytes → Bool) → Tests returns test → len ≡ length_while test (keys_of n keys)
        unfolding length_while
        walked-left d test t =
            let no : test k.now ≡ false = sym (t k r said) ∙ d in
            let p : length_while test (keys_of n keys) ≡ len + length_while test (k.now ∷ ks') = rw step at (w.past test t) in
            let z : length_while test (k.now ∷ ks') ≡ 0 = rw no in
            omega arith

        pub walked-next : r ≡ true → Walked n keys returns (len + length k.now) ks'
        unfolding length_while end_to_end
        walked-next d =
            let room : len + length (end_to_end (k.now ∷ ks')) ≡ length keys = rw step at w.room in
            record {
              room = omega (arith, length-append k.now (end_to_end ks'));
              past = λ test t.
                  let yes : test k.now ≡ true = sym (t k r said) ∙ d in
                  let p : length_while test (keys_of n keys) ≡ len + length_while test (k.now ∷ ks') = rw step at (w.past test t) in
                  let z : length_while test (k.now ∷ ks') ≡ length k.now + length_while test ks' = rw yes in
                  omega arith;
            }
