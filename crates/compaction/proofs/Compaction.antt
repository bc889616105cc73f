-- Compaction, over any test of what is dropped: one turn of the walk over all keys, and what the walk leaves. Assumes nothing.
use Prim.Native.Nat.{ℕ, ◌+◌, ◌-◌, ◌≤◌, ◌<◌}
use mathlib.Core.Path.{◌≡◌, refl, sym, ap, ◌∙◌}
use mathlib.Core.Bool.{Bool, true, false, not, cond, ◌&&◌}
use mathlib.Core.List.{List, [], ◌∷◌, ◌++◌, append-nil, append_assoc}
use native.Mathlib.Nat.{sub_self}
use native.Mathlib.Omega.{arith}
use lib.Dec.{leb}
use lib.ListN.{length, take, drop, replicate, drop_of_length-le}
use lib.Seq.{length-take-le, drop-drop}
use borrow.Rule.Slice.PartMut.{mid_len, Post-is}
use borrow.Author.Tests.{leb-true}
use Rattle.wire.specs.Lists.{cons_if, keep, all, member}
use Rattle.wire.specs.Bytes.{Bytes, between}
use Rattle.wire.proofs.Tests.{both, both_right}
use Rattle.wire.proofs.Parts.{size-part}
use Rattle.dots.specs.declared.Dot.{Dot}
use Rattle.dots.specs.Names.{label_most}
use Rattle.dots.specs.Wire.{dots_at, dots_of}
use Rattle.keys.specs.Key.{label_key_fixed, suffix_size}
use Rattle.store.specs.Cut.{end_to_end, key_length, keys_after, keys_of, key_dot}
use Rattle.store.specs.Valid.{keys_fit}
use Rattle.store.proofs.Cut.{end_to_end_keys_of}
use Rattle.store.proofs.Walk.{end-within, walk-falls, key-size, first_key_lem}
use Rattle.compaction.specs.declared.Run.{Run}
use Rattle.compaction.specs.Compaction.{kept_keys, kept_bytes, is_in, Drops}
use Rattle.compaction.specs.Runs.{kept_to, RunFits, MovesRun, WalksKey}

module _ (dead : Dot → Bool) where
  kept_cons : (k : Bytes) (ks : List Bytes) → end_to_end (kept_keys dead (k ∷ ks)) ≡ cond (dead (key_dot k)) [] k ++ end_to_end (kept_keys dead ks)
  unfolding end_to_end keep
  kept_cons k ks = step (dead (key_dot k))
    where
      step : (b : Bool) → end_to_end (cons_if (not b) k (kept_keys dead ks)) ≡ cond b [] k ++ end_to_end (kept_keys dead ks)
      step true = refl
      step false = refl

  -- ---- the walk

  -- up to the end of the run the kept keys stand where the run says, and from there on nothing has moved
  pub record Walked (n : ℕ) (s₀ s : Bytes) (run : Run) : Type 0 where
    pub fits : RunFits run.end run
    pub within : run.end ≤ length s₀
    pub rest : drop run.end s ≡ drop run.end s₀
    pub kept : kept_bytes dead n s₀ ≡ kept_to run s ++ kept_bytes dead n (drop run.end s₀)
    pub fit : keys_fit n (drop run.end s₀) ≡ true
    pub size : length s ≡ length s₀

  pub walk-started : (n : ℕ) (s : Bytes) → keys_fit n s ≡ true → Walked n s s (record { from = 0; end = 0; to = 0 })
  walk-started n s fit = record { fits = (omega arith, omega arith, omega arith); within = omega arith; rest = refl; kept = refl; fit = fit; size = refl }

  module _ (n : ℕ) (s₀ s : Bytes) (run : Run) (len : ℕ) (w : Walked n s₀ s run) (more : run.end < length s)
      (read : len ≡ key_length n (take (length s - run.end) (drop run.end s))) where
    abbrev end : ℕ
    end = run.end

    more₀ : end < length s₀
    more₀ = omega (arith, w.size)

    read₀ : len ≡ key_length n (take (length s₀ - end) (drop end s₀))
    read₀ = rw (w.rest, w.size) at read

    pub key-within : end + len ≤ length s
    key-within = omega (arith, w.size, end-within n s₀ end len more₀ read₀)

    pub turn-falls : (s' : Bytes) (next : ℕ) → length s' ≡ length s → next ≡ end + len → length s' - next < length s - end
    turn-falls s' next same e = omega (arith, w.size, walk-falls n s₀ end len more₀ read₀)

    key : Bytes
    key = take len (drop end s₀)

    cut : keys_of n (drop end s₀) ≡ key ∷ keys_of n (drop (end + len) s₀)
    unfolding key
    cut = first_key_lem n s₀ end len more₀ read₀

    -- the key as the walk finds it
    found : take (end + len - end) (drop end s) ≡ key
    unfolding key
    found = rw (size-part, w.rest)

    key_fits : (between (n + (label_key_fixed + 1)) (n + label_key_fixed + label_most) (length key) && keys_fit n (drop (end + len) s₀)) ≡ true
    unfolding keys_fit all
    key_fits = rw cut at w.fit

    pub key-room : end + (suffix_size - 1) ≤ end + len
    unfolding key
    key-room =
        let fits = key_fits in
        let low : leb (n + (label_key_fixed + 1)) (length (take len (drop end s₀))) ≡ true = search both in
        omega (arith, leb-true (n + (label_key_fixed + 1)) (length (take len (drop end s₀))) low, key-size n s₀ end len more₀ read₀)

    pub walk-turned : (s' : Bytes) (r : Run) → WalksKey dead run (end + len) r s s' → length s' ≡ length s → Walked n s₀ s' r
    walk-turned s' r k same =
        let at : r.end ≡ end + len = k.ends in
        let later : Bytes = kept_bytes dead n (drop (end + len) s₀) in
        record {
          fits = k.fits;
          within = omega (arith, end-within n s₀ end len more₀ read₀);
          rest = rw at (k.rest ∙ sym (drop-drop len end s) ∙ ap (drop len) w.rest ∙ drop-drop len end s₀);
          kept = w.kept ∙ ap (λ (t : Bytes). kept_to run s ++ t) (ap (λ (ks : List Bytes). end_to_end (kept_keys dead ks)) cut ∙ kept_cons key (keys_of n (drop (end + len) s₀)))
              ∙ sym (append_assoc (kept_to run s) (cond (dead (key_dot key)) [] key) later)
              ∙ ap (λ (t : Bytes). t ++ later) (ap (λ (x : Bytes). kept_to run s ++ cond (dead (key_dot x)) [] x) (sym found) ∙ sym k.kept)
              ∙ ap (λ (i : ℕ). kept_to r s' ++ kept_bytes dead n (drop i s₀)) (sym at);
          fit = rw at (both_right (between (n + (label_key_fixed + 1)) (n + label_key_fixed + label_most) (length key)) (keys_fit n (drop (end + len) s₀)) key_fits);
          size = same ∙ w.size;
        }

  -- the last run has moved, and the rest is cleared
  module _ (n : ℕ) (s₀ s : Bytes) (run : Run) (w : Walked n s₀ s run) (ended : length s ≤ run.end) where
    none_left : keys_of n (drop run.end s₀) ≡ []
    unfolding keys_after
    none_left = let past : length s₀ ≤ run.end = omega (arith, w.size) in rw (drop_of_length-le s₀ past)

    all-kept : kept_bytes dead n s₀ ≡ kept_to run s
    unfolding end_to_end keep
    all-kept = w.kept ∙ rw (none_left, append-nil)

    pub walk-ended : (s' part : Bytes) (left : ℕ) → MovesRun run left s s' → length s' ≡ length s → part ≡ replicate (length (take (length s' - left) (drop left s'))) 0
        → Drops dead n left s₀ (take left s' ++ (part ++ drop (length s' - left) (drop left s')))
    walk-ended s' part left m same e =
        let behind : left ≤ length s' = omega (arith, m.within, w.within, w.size) in
        let room : length s' ≤ length s' = omega arith in
        let front : kept_bytes dead n s₀ ≡ take left s' = all-kept ∙ sym m.front in
        let size : length s' ≡ length s₀ = same ∙ w.size in
        record {
          keys-left = rw (front, length-take-le left s' behind, e, mid_len left (length s') s' room, Post-is left (length s') s' behind, drop_of_length-le s' room, append-nil, size);
          used-left = sym (rw front (length-take-le left s' behind));
        }

-- without dots nothing is dropped
pub none_dropped : (n : ℕ) (s : Bytes) → Drops (is_in []) n (length s) s s
unfolding dots_of dots_at member keep
none_dropped n s =
    let whole : kept_bytes (is_in []) n s ≡ s = ap end_to_end (keep_all (keys_of n s)) ∙ end_to_end_keys_of n s in
    record {
      keys-left = sym (rw (whole, sub_self) (append-nil s));
      used-left = sym (ap length whole);
    }
  where
    keep_all : (ks : List Bytes) → kept_keys (is_in []) ks ≡ ks
    keep_all [] = refl
    keep_all (k ∷ ks) = ap (λ (js : List Bytes). k ∷ js) (keep_all ks)
