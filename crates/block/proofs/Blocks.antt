-- A state and its block say the same: what is written is read again, and what is read is written again. Assumes nothing.
use mathlib.Core.Path.{◌≡◌, refl, sym, ap, ◌∙◌}
use mathlib.Core.List.{List, [], ◌∷◌, ◌++◌, append_assoc, append-nil}
use Prim.Native.Nat.{ℕ, zero, suc, ◌+◌, ◌*◌, ◌^◌, ◌≤◌, ◌<◌}
use native.Mathlib.Nat.{add-zero}
use native.Mathlib.Omega.{arith}
use lib.ListN.{length, drop, length-append, drop_of_length-le}
use Rattle.wire.specs.Bytes.{Bytes, AreBytes, big_endian, number_at}
use Rattle.wire.proofs.BigEndian.{length-big_endian}
use Rattle.wire.proofs.Fields.{part_length, byte_on, part-on, number-on, byte_back, part-back, number-back}
use Rattle.dots.specs.Dots.{actor_of}
use Rattle.calls.specs.declared.State.{State}
use Rattle.block.specs.Block.{block_size, AreWords, words_bytes, words_at, state_bytes, state_in, clock_at, count_at, name_at, name_length_at, tombstone_at, used_at}
use Rattle.dots.specs.Wire.{tombstone_size}
use Rattle.clock.specs.Clock.{clock_words}
use Rattle.dots.specs.Names.{name_most}
use Rattle.calls.specs.State.{Sized}

-- what is known of every State value: its arrays have their sizes, and its numbers fit their widths
pub record Fits (st : State) : Type 0 where
  pub sized : Sized st
  pub len-fits : st.name.len < 2 ^ 64
  pub words-fit : AreWords st.clock.words
  pub count_fits : st.tombstone.count < 2 ^ 64
  pub used-fits : st.used < 2 ^ 64

-- ---- words

pub length-words : (ws : List ℕ) → length (words_bytes ws) ≡ 8 * length ws
unfolding words_bytes
length-words [] = refl
length-words (w ∷ ws) = rw (length-append (big_endian 8 w) (words_bytes ws), length-big_endian 8 w) (omega (arith, length-words ws))

pub words_append : (ws vs : List ℕ) → words_bytes (ws ++ vs) ≡ words_bytes ws ++ words_bytes vs
unfolding words_bytes
words_append [] vs = refl
words_append (w ∷ ws) vs = rw (words_append ws vs, append_assoc)

pub words-on : (s ws : List ℕ) (i : ℕ) (t : List ℕ) → AreWords ws → drop i s ≡ words_bytes ws ++ t → (words_at (length ws) s i ≡ ws) × (drop (i + 8 * length ws) s ≡ t)
unfolding words_bytes words_at
words-on s [] i t fit h = (refl, rw add-zero h)
words-on s (w ∷ ws) i t fit h =
    let first = number-on s 8 i w (words_bytes ws ++ t) (fit 0) (rw append_assoc at h) in
    let rest = words-on s ws (i + 8) t (λ k. fit (suc k)) first.1 in
    let next : i + 8 + 8 * length ws ≡ i + 8 * suc (length ws) = omega arith in
    (rw (first.0, rest.0), rw next at rest.1)

pub words_back : (s : List ℕ) → AreBytes s → (n i : ℕ) → i + 8 * n ≤ length s → words_bytes (words_at n s i) ++ drop (i + 8 * n) s ≡ drop i s
unfolding words_bytes words_at
words_back s small zero i h = rw add-zero
words_back s small (suc n) i h =
    let next : i + 8 * suc n ≡ i + 8 + 8 * n = omega arith in
    rw (next, append_assoc, words_back s small n (i + 8) (omega arith)) (number-back s small 8 i (omega arith))

pub length_words_at : (n : ℕ) (s : Bytes) (at : ℕ) → length (words_at n s at) ≡ n
unfolding words_at
length_words_at zero s at = refl
length_words_at (suc n) s at = ap suc (length_words_at n s (at + 8))

-- ---- states

-- the fields at their places make the state
pub made : (st : State) (actor : ℕ) (name : Bytes) (len : ℕ) (words : List ℕ) (tombstone : Bytes) (count used : ℕ)
    → actor ≡ st.actor.number → name ≡ st.name.bytes → len ≡ st.name.len → words ≡ st.clock.words → tombstone ≡ st.tombstone.bytes → count ≡ st.tombstone.count → used ≡ st.used
    → ◌≡◌ {A = State} (record { actor = actor_of actor; name = record { bytes = name; len = len }; clock = record { words = words }; tombstone = record { bytes = tombstone; count = count }; used = used }) st
made st actor name len words tombstone count used a n l w t c u = rw (a, n, l, w, t, c, u)

pub state-on : (s : Bytes) (st : State) → Fits st → s ≡ state_bytes st → state_in s ≡ st
unfolding state_bytes state_in
state-on s st f h =
    let counts = big_endian 8 st.tombstone.count ++ big_endian 8 st.used in
    let words = words_bytes st.clock.words ++ (st.tombstone.bytes ++ counts) in
    let actor = byte_on s 0 st.actor.number (st.name.bytes ++ (big_endian 8 st.name.len ++ words)) h in
    let name = part-on s name_at name_most st.name.bytes (big_endian 8 st.name.len ++ words) f.sized.name-size actor.1 in
    let len = number-on s 8 name_length_at st.name.len words f.len-fits name.1 in
    let clock = rw f.sized.words_size at (words-on s st.clock.words clock_at (st.tombstone.bytes ++ counts) f.words-fit len.1) in
    let tombstone = part-on s tombstone_at tombstone_size st.tombstone.bytes counts f.sized.tombstone-size clock.1 in
    let count = number-on s 8 count_at st.tombstone.count (big_endian 8 st.used) f.count_fits tombstone.1 in
    let used = number-on s 8 used_at st.used [] f.used-fits (count.1 ∙ sym (append-nil (big_endian 8 st.used))) in
    made st _ _ _ _ _ _ _ actor.0 name.0 len.0 clock.0 tombstone.0 count.0 used.0

pub state_in_bytes : (st : State) → Fits st → state_in (state_bytes st) ≡ st
state_in_bytes st f = state-on (state_bytes st) st f refl

pub bytes_in_state : (s : Bytes) → length s ≡ block_size → AreBytes s → state_bytes (state_in s) ≡ s
unfolding state_bytes state_in
bytes_in_state s size small =
    let end : drop block_size s ≡ [] = let past : length s ≤ block_size = omega arith in drop_of_length-le s past in
    let used : big_endian 8 (number_at 8 s used_at) ≡ drop used_at s = sym (append-nil (big_endian 8 (number_at 8 s used_at))) ∙ ap (λ (t : Bytes). big_endian 8 (number_at 8 s used_at) ++ t) (sym end) ∙ number-back s small 8 used_at (omega arith) in
    rw (used, number-back s small 8 count_at (omega arith), part-back s tombstone_at tombstone_size, words_back s small clock_words clock_at (omega arith), number-back s small 8 name_length_at (omega arith), part-back s name_at name_most)
    (byte_back s 0 (omega arith))

-- the state of a block has arrays of their lengths
pub state-sized : (s : Bytes) → length s ≡ block_size → Sized (state_in s)
unfolding state_in
state-sized s size = record { name-size = part_length s name_at name_most (omega arith); words_size = length_words_at clock_words s clock_at; tombstone-size = part_length s tombstone_at tombstone_size (omega arith) }
