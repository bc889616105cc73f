-- The fields fill the block, one after the other; a state by value fits its widths.
use mathlib.Core.Path.{◌≡◌, refl, ◌∙◌}
use mathlib.Core.List.{[], ◌∷◌, ◌++◌, append_assoc}
use native.Mathlib.Omega.{arith}
use lib.ListN.{length}
use Rattle.wire.specs.Bytes.{Bytes, big_endian, put_at}
use Rattle.wire.proofs.BigEndian.{length-big_endian}
use Rattle.dots.specs.Names.{name_most}
use Rattle.dots.specs.Wire.{tombstone_size}
use Rattle.clock.specs.Clock.{clock_words}
use Rattle.calls.specs.declared.State.{State}
use Rattle.block.specs.Block.{block_size, AreWords, words_bytes, Fills, state_bytes, clock_at, name_at, tombstone_at, used_at}
use Rattle.block.proofs.Blocks.{Fits, state-on}
use Rattle.block.proofs.Filled.{fills_counted, fills_words, fill_next, filled}
use borrow.Author.Rules.{rules}
use Rattle.block.proofs.pack.Goals as goal
use Rattle.block.proofs.pack.Goals.{Start}

packed : (st : State) (s a b c d e : Bytes) → length s ≡ block_size → a ≡ put_at s 0 (st.actor.number ∷ [])
    → Fills name_at clock_at (st.name.bytes ++ big_endian 8 st.name.len) a b → Fills clock_at tombstone_at (words_bytes st.clock.words) b c
    → Fills tombstone_at used_at (st.tombstone.bytes ++ big_endian 8 st.tombstone.count) c d → e ≡ put_at d used_at (big_endian 8 st.used) → e ≡ state_bytes st
unfolding state_bytes
packed st s a b c d e size f g h i j =
    let first : Fills 0 name_at (st.actor.number ∷ []) s a = record { ends = refl; put = f } in
    let last : Fills used_at block_size (big_endian 8 st.used) d e = record { ends = rw (length-big_endian 8 st.used); put = j } in
    let named = fill_next first g (omega arith) in
    let clocked = fill_next named h (omega arith) in
    let buried = fill_next clocked i (omega arith) in
    filled s e _ block_size size (fill_next buried last (omega arith)) ∙ simp append_assoc

fits : (c : Start) → AreWords c.args.state.clock.words → Fits c.args.state
fits c words = record {
  sized = search rules;
  len-fits = search rules;
  words-fit = words;
  count_fits = search rules;
  used-fits = search rules;
}

pub returns : goal.returns
returns c = let st = c.args.state in
    let name : length st.name.bytes ≡ name_most = search rules in
    let clock : length st.clock.words ≡ clock_words = search rules in
    let tombstone : length st.tombstone.bytes ≡ tombstone_size = search rules in
    let words = c.put_words.ensures in
    let is = packed st c.args.block.now _ _ _ _ _ (search rules) c.put.ensures.1 (fills_counted st.name.bytes st.name.len name_most name c.put_with_number.ensures.put)
    (fills_words st.clock.words clock_words clock words.0.put) (fills_counted st.tombstone.bytes st.tombstone.count tombstone_size tombstone c.put_with_number-2.ensures.put) c.put_number.ensures.1 in
    (is, state-on _ st (fits (goal.at.returns c).Start words.1) is)
