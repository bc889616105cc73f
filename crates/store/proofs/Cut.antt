-- Keys end to end: how `keys_of` cuts them. Every walk over a store goes by `keys_of_step`. Assumes nothing.
use Rattle.std.proofs.Common.{◌≡◌, ℕ, zero, suc, pred, ◌+◌, ◌<◌, ◌≤◌, List, [], ◌∷◌, ◌++◌, length, take, drop, refl, ap, ◌∙◌, append_assoc, arith, length-append, length-drop, take-append-drop, drop-drop}
use lib.Seq.{take-append_seam, drop-append_seam}
use Rattle.store.specs.Cut.{end_to_end, key_length, keys_after, keys_of}

pub key_length_pos : (n : ℕ) (s : List ℕ) → 0 < length s → 0 < key_length n s
unfolding key_length
key_length_pos n s h = omega arith

pub key_length_le : (n : ℕ) (s : List ℕ) → key_length n s ≤ length s
unfolding key_length
key_length_le n s = omega arith

keys_after-drop : (n k : ℕ) (s : List ℕ) → keys_after n k s ≡ keys_of n (drop k s)
unfolding keys_after
keys_after-drop n zero s = refl
keys_after-drop n (suc k) [] = refl
keys_after-drop n (suc k) (b ∷ s) = keys_after-drop n k s

-- the first key, and the keys of the rest
pub keys_of_cut : (n : ℕ) (s : List ℕ) → 0 < length s → keys_of n s ≡ take (key_length n s) s ∷ keys_of n (drop (key_length n s) s)
unfolding keys_after
keys_of_cut n [] h = absurd (omega arith)
keys_of_cut n (b ∷ bs) h =
    let pos : suc (pred (key_length n (b ∷ bs))) ≡ key_length n (b ∷ bs) = omega (arith, key_length_pos n (b ∷ bs) h) in
    ap (λ (t : List (List ℕ)). take (key_length n (b ∷ bs)) (b ∷ bs) ∷ t)
    (keys_after-drop n (pred (key_length n (b ∷ bs))) bs ∙ ap (λ (k : ℕ). keys_of n (drop k (b ∷ bs))) pos)

-- the same at a place of a list
pub keys_of_step : (n : ℕ) (s : List ℕ) (at : ℕ) → at < length s
    → keys_of n (drop at s) ≡ take (key_length n (drop at s)) (drop at s) ∷ keys_of n (drop (at + key_length n (drop at s)) s)
keys_of_step n s at h =
    keys_of_cut n (drop at s) (rw length-drop (omega arith))
    ∙ ap (λ (t : List ℕ). take (key_length n (drop at s)) (drop at s) ∷ keys_of n t) (drop-drop (key_length n (drop at s)) at s)

-- joined again, the keys are the bytes
end_to_end-keys_after : (n k : ℕ) (s : List ℕ) → end_to_end (keys_after n k s) ≡ drop k s
unfolding end_to_end keys_after
end_to_end-keys_after n zero [] = refl
end_to_end-keys_after n (suc k) [] = refl
end_to_end-keys_after n (suc k) (b ∷ s) = end_to_end-keys_after n k s
end_to_end-keys_after n zero (b ∷ s) =
    let k : ℕ = key_length n (b ∷ s) in
    let pos : suc (pred k) ≡ k = omega (arith, key_length_pos n (b ∷ s) (omega arith)) in
    ap (λ (t : List ℕ). take k (b ∷ s) ++ t) (end_to_end-keys_after n (pred k) s ∙ ap (λ (j : ℕ). drop j (b ∷ s)) pos)
    ∙ take-append-drop k (b ∷ s)

pub end_to_end_keys_of : (n : ℕ) (s : List ℕ) → end_to_end (keys_of n s) ≡ s
end_to_end_keys_of n s = end_to_end-keys_after n zero s

-- a key that its own bytes end is the first of those that begin with it
pub keys_of_first : (n : ℕ) (k rest : List ℕ) → 0 < length k → key_length n (k ++ rest) ≡ length k → keys_of n (k ++ rest) ≡ k ∷ keys_of n rest
keys_of_first n k rest h e =
    keys_of_cut n (k ++ rest) (rw length-append (omega arith)) ∙ rw (e, take-append_seam, drop-append_seam)

pub end_to_end-append : (a b : List (List ℕ)) → end_to_end (a ++ b) ≡ end_to_end a ++ end_to_end b
unfolding end_to_end
end_to_end-append [] b = refl
end_to_end-append (k ∷ a) b = rw (end_to_end-append a b, append_assoc)
