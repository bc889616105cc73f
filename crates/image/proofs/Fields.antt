-- Fields of an image as the code reads them: the CRC, the state, and whether it is damaged. Assumes nothing.
use Prim.Native.Nat.{ℕ, ◌-◌, ◌^◌, ◌≤◌, ◌<◌}
use mathlib.Core.Path.{◌≡◌, refl, ap, ◌∙◌}
use mathlib.Core.Bool.{Bool, true, false}
use mathlib.Core.List.{List, []}
use native.Mathlib.Omega.{arith}
use lib.Dec.{compare_is_eq, eqb}
use lib.ListN.{length, take, drop}
use borrow.Author.Tests.{eqb-true, eq-eqb}
use Rattle.wire.specs.Bytes.{Bytes, AreBytes, byte_at, big_endian, from_big_endian, number_at, part_of, put_at, compare_bytes}
use Rattle.wire.proofs.Tests.{both_ways, pass}
use Rattle.wire.proofs.Lists.{tie-is}
use Rattle.wire.proofs.Orders.{bytes_lawful}
use Rattle.wire.proofs.Parts.{rest_part}
use Rattle.wire.proofs.BigEndian.{from-big_endian, big_endian-from}
use Rattle.wire.proofs.Fields.{part-written, put_front, put-zeros}
use Rattle.crc.specs.Crc.{crc_of}
use Rattle.dots.specs.declared.Answer.TheVariants.{Done}
use Rattle.dots.specs.Names.{name_most}
use Rattle.dots.specs.Dots.{actor_of, actor_most, tombstone_most}
use Rattle.dots.specs.Wire.{tombstone_size, dots_bytes}
use Rattle.calls.specs.declared.State.{State}
use Rattle.calls.specs.declared.ImageLayout.{ImageLayout}
use Rattle.calls.specs.Calls.{fresh_state}
use Rattle.calls.specs.Damage.{damaged}
use Rattle.calls.specs.Effect.{padded}
use Rattle.calls.specs.ImageRead.{crc_ok, clock_in, state_at, written_at}
use Rattle.calls.specs.HandOff.{loaded_at}
use Rattle.calls.proofs.ImageShapes.{few-dots}
use Rattle.image.specs.Sizes.{window_size}
use Rattle.image.specs.Promise.{LoadsImage}

-- the last four bytes and the CRC, compared as numbers
module _ (s : Bytes) (small : AreBytes s) (long : 4 ≤ length s) (crc last : ℕ) (is : crc ≡ crc_of (take (length s - 4) s)) (fits : crc < 2 ^ 32)
    (read : last ≡ number_at 4 s (length s - 4)) where
  abbrev end : Bytes
  end = drop (length s - 4) s

  end-four : take 4 end ≡ end
  end-four = let four : length s - (length s - 4) ≡ 4 = omega arith in rw four at (rest_part s (length s - 4))

  end-number : big_endian 4 last ≡ end
  end-number = rw read (part-written big_endian from_big_endian big_endian-from s small 4 (length s - 4) (omega arith) ∙ end-four)

  same-crc : eqb last crc ≡ compare_is_eq (compare_bytes end (big_endian 4 crc))
  same-crc = both_ways (eqb last crc) (compare_is_eq (compare_bytes end (big_endian 4 crc))) there back
    where
      there : eqb last crc ≡ true → compare_is_eq (compare_bytes end (big_endian 4 crc)) ≡ true
      there h = let same : last ≡ crc = eqb-true last crc h in rw (← same, end-number, bytes_lawful.self end)

      back : compare_is_eq (compare_bytes end (big_endian 4 crc)) ≡ true → eqb last crc ≡ true
      back h =
          let same : end ≡ big_endian 4 crc = bytes_lawful.tie end (big_endian 4 crc) (tie-is _ (pass h)) in
          eq-eqb last crc (read ∙ ap from_big_endian (end-four ∙ same) ∙ from-big_endian 4 crc fits)

  pub crc-tested : eqb last crc ≡ crc_ok s
  unfolding crc_ok
  crc-tested = same-crc ∙ rw is

-- ---- the state of the fields

module _ (s : Bytes) (l : ImageLayout) where
  pub state-made : (name words bytes : List ℕ) (actor : ℕ) → name ≡ padded name_most (part_of s l.name) → words ≡ clock_in window_size actor_most s l.rows → bytes ≡ padded tombstone_size (part_of s l.dots)
      → ◌≡◌ {A = State} (record {
        actor = actor_of actor;
        name = record { bytes = name; len = l.name.len };
        clock = record { words = words };
        tombstone = record { bytes = bytes; count = l.count };
        used = l.keys.len;
      }) (state_at actor s l)
  unfolding state_at
  state-made name words bytes actor named clock removed = rw (named, clock, removed)

  -- the same, made in place of a state that is zero throughout
  pub state-put : (st : State) (name words bytes : List ℕ) (actor : ℕ) → st ≡ fresh_state 0 [] → name ≡ put_at st.name.bytes 0 (part_of s l.name) → words ≡ clock_in window_size actor_most s l.rows
      → bytes ≡ put_at st.tombstone.bytes 0 (part_of s l.dots)
      → ◌≡◌ {A = State} (record {
        actor = actor_of actor;
        name = record { bytes = name; len = l.name.len };
        clock = record { words = words };
        tombstone = record { bytes = bytes; count = l.count };
        used = l.keys.len;
      }) (state_at actor s l)
  unfolding dots_bytes
  state-put st name words bytes actor zero named clock removed =
      state-made name words bytes actor (put-zeros name_most (part_of s l.name) name (rw zero at named)) clock (put-zeros tombstone_size (part_of s l.dots) bytes (rw zero at removed))

  -- the keys judged where they stand
  pub judged-written : (st : State) (keys : Bytes) (r : Bool) → st ≡ written_at s l → keys ≡ part_of s l.keys → r ≡ damaged st keys → r ≡ damaged (written_at s l) (part_of s l.keys)
  judged-written st keys r e k j = j ∙ rw (e, k)

  -- the same of a state under an actor that is the writer
  pub judged : (writer : ℕ) (st : State) (keys : Bytes) (r : Bool) → writer ≡ byte_at s l.actor → st ≡ state_at writer s l → keys ≡ part_of s l.keys → r ≡ damaged st keys
      → r ≡ damaged (written_at s l) (part_of s l.keys)
  judged writer st keys r w e k j = judged-written st keys r (rw w at e) k j

-- more dots than a tombstone may have are damage
pub too_many : (s : Bytes) (l : ImageLayout) → tombstone_most < l.count → true ≡ damaged (written_at s l) (part_of s l.keys)
too_many s l many = by (damaged (written_at s l) (part_of s l.keys)) (few-dots (byte_at s l.actor) s l (part_of s l.keys))
  where
    by : (b : Bool) → (b ≡ false → l.count ≤ tombstone_most) → true ≡ b
    by true few = refl
    by false few = absurd (omega (arith, few refl))

-- what loading leaves: state and keys at their places
pub load-made : (actor : ℕ) (s store store' keys : Bytes) (l : ImageLayout) (st : State) → st ≡ state_at actor s l → keys ≡ part_of s l.keys → store' ≡ put_at store 0 keys
    → LoadsImage (loaded_at actor s store l) store' (record { answer = Done; state = st })
load-made actor s store store' keys l st e k f = record {
  answered = refl;
  state-is = e;
  store_is = f ∙ put_front store keys ∙ rw k;
}

-- the same, of the writer's state under the new actor
pub load-put : (actor : ℕ) (s store store' keys : Bytes) (l : ImageLayout) (st : State) → st ≡ written_at s l → keys ≡ part_of s l.keys → store' ≡ put_at store 0 keys
    → LoadsImage (loaded_at actor s store l) store' (record { answer = Done; state = record st { actor = actor_of actor } })
unfolding state_at
load-put actor s store store' keys l st e k f = load-made actor s store store' keys l (record st { actor = actor_of actor }) (rw e) k f
