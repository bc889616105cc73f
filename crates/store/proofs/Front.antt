-- The key at the front of some bytes: the tests of its bytes, after the prefix and whole, are the rules of a stored key. Assumes nothing.
use Rattle.std.proofs.Common.{◌≡◌, ℕ, zero, suc, ◌+◌, ◌-◌, ◌^◌, ◌<◌, ◌≤◌, min, Bool, true, false, cond, ◌&&◌, eqb, leb, List, [], ◌∷◌, length, get_or, take, drop, sym, refl, ap, ◌∙◌, true≢false, arith, length-append, length-drop, length-take, length-take-le, take_all, get_or-take, take-take, w8, w64, Fits, eq-eqb, ne_eqb, eqb-true, le-leb}
use mathlib.Core.Bool.{and_assoc, and-false}
use mathlib.Core.Option.{none, some}
use native.Mathlib.Decide.{dec_le}
use Rattle.wire.specs.Bytes.{Bytes, between, number_at, zero_at, starts_with}
use Rattle.wire.proofs.Tests.{both}
use Rattle.wire.proofs.ByteOrder.{starts-split}
use Rattle.wire.proofs.Parts.{rest_part, drop-take}
use Rattle.wire.proofs.Fields.{bytes_take}
use Rattle.dots.specs.Names.{Name, name_ok, label_most}
use Rattle.dots.specs.Dots.{actor_of, dot_of, actor_most}
use Rattle.dots.specs.Entries.{Entry}
use Rattle.keys.specs.Entry.{prefix}
use Rattle.keys.specs.Tests.{label_after, entry_after, entry_by}
use Rattle.keys.proofs.EntryKeys.{length-prefix}
use Rattle.keys.proofs.EntryTests.{entry_tests}
use Rattle.clock.specs.Clock.{sees, row_at}
use Rattle.clock.proofs.Rows.{seen_up_to}
use Rattle.store.specs.Cut.{key_length}
use Rattle.store.specs.Valid.{seen_entry, key_ok}
use Rattle.store.specs.Front.{front_length, after_length}
use Rattle.store.specs.Pass.{dot_seen}
use Rattle.keys.specs.Key.{suffix_size, prefix_fixed}

-- ---- a front of bytes: its first 0, and what it begins with

zero_at-take : (m : ℕ) (t : Bytes) → zero_at (take m t) ≡ min m (zero_at t)
unfolding zero_at
zero_at-take zero t = omega arith
zero_at-take (suc m) [] = omega arith
zero_at-take (suc m) (zero ∷ t) = omega arith
zero_at-take (suc m) (suc b ∷ t) = omega (arith, zero_at-take m t)

starts-take : (a : Bytes) (m : ℕ) (s : Bytes) → length a ≤ m → starts_with a (take m s) ≡ starts_with a s
unfolding starts_with
starts-take [] m s h = refl
starts-take (x ∷ a) zero s h = absurd (omega arith)
starts-take (x ∷ a) (suc m) [] h = refl
starts-take (x ∷ a) (suc m) (y ∷ s) h = ap (λ b. eqb y x && b) (starts-take a m s (omega arith))

-- ---- what follows the prefix

module _ (words : List ℕ) (t : Bytes) (n : ℕ) (label : n ≡ zero_at t) where
  pub after-short : length t < n + suffix_size → 0 ≡ after_length words t
  unfolding after_length label_after
  after-short h =
      let all : take (zero_at t + suffix_size) t ≡ t = take_all (zero_at t + suffix_size) t (omega arith) in
      rw (all, ne_eqb (length t) (zero_at t + suffix_size) (λ e. omega arith))

  -- the tests on the bytes themselves
  module _ (fits : n + suffix_size ≤ length t) (event : ℕ) (counter : event ≡ number_at 8 t (n + 3)) where
    abbrev shape : Bool
    shape = leb 1 n && leb n label_most && (leb 1 (get_or t (n + 1) 0) && leb (get_or t (n + 1) 0) actor_most) && eqb (get_or t (n + 2) 0) 0 && leb 1 event

    tested : after_length words t ≡ cond (shape && sees words (dot_of (actor_of (get_or t (n + 1) 0)) event)) (n + suffix_size) 0
    unfolding after_length label_after
    tested =
        let u : Bytes = take (n + suffix_size) t in
        let zero-at : zero_at u ≡ n = zero_at-take (n + suffix_size) t ∙ omega arith in
        let whole : length u ≡ n + suffix_size = length-take-le (n + suffix_size) t fits in
        let eight : n + suffix_size - (n + 3) ≡ 8 = omega arith in
        let number : number_at 8 u (n + 3) ≡ event = rw (drop-take (n + 3) (n + suffix_size) t, eight, take-take 8 8 (drop (n + 3) t) (omega arith)) (sym counter) in
        rw (← label, zero-at, whole, eq-eqb (n + suffix_size) (n + suffix_size) refl, number, get_or-take (n + suffix_size) t (n + 1) 0 (omega arith), get_or-take (n + suffix_size) t (n + 2) 0 (omega arith))

    pub after_failed : shape ≡ false → 0 ≡ after_length words t
    after_failed h = sym (tested ∙ rw h)

    module _ (h : shape ≡ true) (seen : Bool) (known : seen ≡ sees words (dot_of (actor_of (get_or t (n + 1) 0)) event)) where
      pub after-passed : seen ≡ true → n + suffix_size ≡ after_length words t
      after-passed s = sym (tested ∙ rw (h, ← known, s))

      pub after-unseen : seen ≡ false → 0 ≡ after_length words t
      after-unseen s = sym (tested ∙ rw (h, ← known, s))

-- a label that breaks its rule
pub after-bad : (words : List ℕ) (t : Bytes) → between 1 label_most (zero_at t) ≡ false → after_length words t ≡ 0
unfolding after_length label_after
after-bad words t bad =
    let zero-at : zero_at (take (zero_at t + suffix_size) t) ≡ zero_at t = zero_at-take (zero_at t + suffix_size) t ∙ omega arith in
    rw (zero-at, bad, and-false)

-- a label that keeps its rule: the dot decides
counted : (words : List ℕ) (a e : ℕ) → (leb 1 e && sees words (dot_of (actor_of a) e)) ≡ sees words (dot_of (actor_of a) e)
unfolding sees
counted words a zero = sym (seen_up_to (row_at words a) 0 (omega arith))
counted words a (suc e) = rw (le-leb 1 (suc e) (omega arith))

regroup : (l m a b c s : Bool) → (l && m) ≡ true → (c && s) ≡ s → (l && m && a && b && c && s) ≡ (a && b && s)
regroup true true true true c s h e = e
regroup true true true false c s h e = refl
regroup true true false b c s h e = refl
regroup true false a b c s h e = absurd (true≢false (sym h))
regroup false m a b c s h e = absurd (true≢false (sym h))

pub after-told : (words : List ℕ) (t : Bytes) (n : ℕ) → n ≡ zero_at t → between 1 label_most (zero_at t) ≡ true → n + suffix_size ≤ length t
    → after_length words t ≡ cond (dot_seen words t (n + 1)) (n + suffix_size) 0
unfolding dot_seen
after-told words t n e ok fits =
    let second : n + 1 + 1 ≡ n + 2 = omega arith in
    let third : n + 1 + 2 ≡ n + 3 = omega arith in
    let label : between 1 label_most n ≡ true = rw e ok in
    tested words t n e fits (number_at 8 t (n + 3)) refl
    ∙ rw (second, third, regroup (leb 1 n) (leb n label_most) _ _ _ _ label (counted words (get_or t (n + 1) 0) (number_at 8 t (n + 3))))

-- ---- the whole key

pub starts_fit : (name s : Bytes) → starts_with (prefix name) s ≡ true → length name + prefix_fixed ≤ length s
starts_fit name s h = omega (arith, length-append (prefix name) (drop (length (prefix name)) s), ap length (starts-split (prefix name) s h), length-prefix name)

seen_cond : (words : List ℕ) (b : Bool) (e : Entry) → seen_entry words (cond b (some e) none) ≡ (b && sees words e.dot)
seen_cond words true e = refl
seen_cond words false e = refl

module _ (name : Name) (words : List ℕ) (s : Bytes) where
  -- what follows the prefix, the first key, and what follows the prefix in it
  t : Bytes
  t = drop (length name + prefix_fixed) s

  k : Bytes
  k = take (key_length (length name) s) s

  u : Bytes
  unfolding t
  u = take (zero_at t + suffix_size) t

  key-tail : drop (length name + prefix_fixed) k ≡ u
  unfolding t k u key_length
  key-tail =
      let len : ℕ = key_length (length name) s in
      let p : ℕ = length name + prefix_fixed in
      let size : length t ≡ length s - p = length-drop p s in
      drop-take p len s ∙ elim (dec_le (length s) (p + (zero_at t + suffix_size))) [
        | yes h ↦
            let most : length t ≤ len - p = omega arith in
            let most' : length t ≤ zero_at t + suffix_size = omega arith in
            take_all (len - p) t most ∙ sym (take_all (zero_at t + suffix_size) t most')
        | no h ↦ let same : len - p ≡ zero_at t + suffix_size = omega arith in rw same
      ]

  key-starts : starts_with (prefix name) k ≡ starts_with (prefix name) s
  unfolding k key_length
  key-starts =
      let len : ℕ = key_length (length name) s in
      elim (dec_le (length name + prefix_fixed) len) [
        | yes h ↦ starts-take (prefix name) len s (rw length-prefix h)
        | no h ↦ let all : length s ≤ len = omega arith in rw (take_all len s all)
      ]

  -- a key that keeps the rules has all its bytes
  room : starts_with (prefix name) s ≡ true → label_after u ≡ true → length name + prefix_fixed + (zero_at t + suffix_size) ≤ length s
  unfolding t u label_after
  room begins h =
      let front : length name + prefix_fixed ≤ length s = starts_fit name s begins in
      let whole : length u ≡ zero_at u + suffix_size = eqb-true (length u) (zero_at u + suffix_size) (search both) in
      let ends : zero_at u ≡ zero_at t = zero_at-take (zero_at t + suffix_size) t ∙ omega arith in
      omega (arith, length-take (zero_at t + suffix_size) t, length-drop (length name + prefix_fixed) s)

  module _ (named : name_ok name ≡ true) (small : (i : ℕ) → Fits w8 (get_or s i 0)) where
    key_tests : key_ok name words k ≡ (starts_with (prefix name) s && (label_after u && sees words (entry_after u).dot))
    unfolding k entry_by
    key_tests =
        rw (entry_tests name k named (bytes_take s (key_length (length name) s) (λ i. (small i).fits)), key-tail, key-starts, seen_cond) (and_assoc (starts_with (prefix name) s) (label_after u) (sees words (entry_after u).dot))

    module _ (start : Bytes) (is-start : start ≡ prefix name) (r : Bool) (begins : r ≡ starts_with start s) where
      is-begun : r ≡ starts_with (prefix name) s
      is-begun = rw is-start at begins

      size : length start ≡ length name + prefix_fixed
      size = ap length is-start ∙ length-prefix name

      pub front-other : r ≡ false → 0 ≡ front_length name words s
      unfolding front_length k
      front-other d = rw (key_tests, ← is-begun, d)

      module _ (d : r ≡ true) where
        is_prefixed : starts_with (prefix name) s ≡ true
        is_prefixed = sym is-begun ∙ d

        pub front_fits : length start ≤ length s
        front_fits = rw size (starts_fit name s is_prefixed)

        module _ (len : ℕ) (read : len ≡ after_length words (take (length s - length start) (drop (length start) s))) where
          passes : Bool
          passes = label_after u && sees words (entry_after u).dot

          len_is : len ≡ cond passes (zero_at t + suffix_size) 0
          unfolding after_length t u passes
          len_is = rw (rest_part, size) at read

          front-is : front_length name words s ≡ cond passes (key_length (length name) s) 0
          unfolding front_length k passes
          front-is = rw (key_tests, is_prefixed)

          pub front-refused : len ≡ 0 → 0 ≡ front_length name words s
          front-refused e = sym (front-is ∙ by_tests passes len_is)
            where
              by_tests : (b : Bool) → len ≡ cond b (zero_at t + suffix_size) 0 → cond b (key_length (length name) s) 0 ≡ 0
              by_tests true f = absurd (omega arith)
              by_tests false f = refl

          module _ (some : len ≡ 0 → ⊥) where
            passed : passes ≡ true
            passed = by_tests passes len_is
              where
                by_tests : (b : Bool) → len ≡ cond b (zero_at t + suffix_size) 0 → b ≡ true
                by_tests true f = refl
                by_tests false f = absurd (some f)

            pub front-end : length s < 2 ^ 64 → Fits w64 (length start + len)
            unfolding passes
            front-end h =
                let all : passes ≡ true = passed in
                omega (arith, room is_prefixed (search both), rw passed at len_is, size)

            pub front-passed : length start + len ≡ front_length name words s
            unfolding passes t key_length
            front-passed =
                let all : passes ≡ true = passed in
                let full : length name + prefix_fixed + (zero_at t + suffix_size) ≤ length s = room is_prefixed (search both) in
                sym (front-is ∙ rw passed (omega (arith, rw passed at len_is, size)))
