-- A state by value has arrays of its sizes: what the checker hands of each, at a `map` of the identity, as one record. Assumes nothing.
use Prim.Native.Nat.{ℕ}
use mathlib.Core.Path.{◌≡◌}
use mathlib.Core.List.{map}
use lib.ListN.{length}
use borrow.Author.Rules.{length_unmapped}
use Rattle.dots.specs.Names.{name_most}
use Rattle.dots.specs.Wire.{tombstone_size}
use Rattle.clock.specs.Clock.{clock_words}
use Rattle.calls.specs.declared.State.{State}
use Rattle.calls.specs.State.{Sized}

pub sized : (st : State) → length (map (λ (b : ℕ). b) st.name.bytes) ≡ name_most → length (map (λ (w : ℕ). w) st.clock.words) ≡ clock_words → length (map (λ (b : ℕ). b) st.tombstone.bytes) ≡ tombstone_size
    → Sized st
sized st name words tombstone = record {
  name-size = length_unmapped ℕ st.name.bytes name_most name;
  words_size = length_unmapped ℕ st.clock.words clock_words words;
  tombstone-size = length_unmapped ℕ st.tombstone.bytes tombstone_size tombstone;
}
