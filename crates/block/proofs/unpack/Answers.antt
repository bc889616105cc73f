-- The fields are those of the definition.
use Prim.Native.Nat.{ℕ}
use mathlib.Core.Path.{◌≡◌}
use Rattle.wire.specs.Bytes.{Bytes, byte_at, part_at, number_at}
use Rattle.dots.specs.Dots.{actor_of}
use Rattle.dots.specs.Names.{name_most}
use Rattle.dots.specs.Wire.{tombstone_size}
use Rattle.calls.specs.declared.State.{State}
use Rattle.block.specs.Block.{words_at, state_in, name_at, name_length_at, clock_at, tombstone_at, count_at, used_at}
use borrow.Author.Rules.{rules}
use Rattle.clock.specs.Clock.{clock_words}
use Rattle.block.proofs.unpack.Goals as goal

made : (s name words tombstone : Bytes) (len count used : ℕ) → name ≡ part_at s name_at name_most → len ≡ number_at 8 s name_length_at → words ≡ words_at clock_words s clock_at
    → tombstone ≡ part_at s tombstone_at tombstone_size → count ≡ number_at 8 s count_at → used ≡ number_at 8 s used_at
    → ◌≡◌ {A = State} (record { actor = actor_of (byte_at s 0); name = record { bytes = name; len = len }; clock = record { words = words }; tombstone = record { bytes = tombstone; count = count }; used = used }) (state_in s)
unfolding state_in
made s name words tombstone len count used n l w t c u = rw (n, l, w, t, c, u)

pub returns : goal.returns
returns c = search (rules, made)
