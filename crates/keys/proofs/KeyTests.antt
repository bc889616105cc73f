-- Keys of every type by tests of their bytes: the tests are `is_key`. Assumes nothing.
use mathlib.Core.Path.{◌≡◌, refl, sym, ap, subst, ◌∙◌}
use mathlib.Core.Bool.{true, ◌&&◌}
use mathlib.Core.List.{[], ◌∷◌}
use Prim.Native.Nat.{ℕ, ◌+◌, ◌≤◌, ◌<◌}
use native.Mathlib.Omega.{arith}
use lib.Dec.{eqb}
use lib.ListN.{length, drop, length-drop, drop_of_length-le}
use borrow.Author.Tests.{eqb-true, eq-eqb}
use Rattle.wire.specs.Bytes.{Bytes, AreBytes, between, byte_at, part_at}
use Rattle.wire.proofs.Tests.{both, both_ways}
use Rattle.wire.proofs.Fields.{bytes_drop}
use Rattle.dots.specs.Names.{Name, Label, name_ok, name_most, text_ok}
use Rattle.dots.specs.Dots.{actor_ok, actor_of, dot_of}
use Rattle.dots.specs.Entries.{Entry, entry}
use Rattle.keys.specs.declared.KeyKind.{KeyKind}
use Rattle.keys.specs.declared.KeyKind.TheVariants.{ClockKey, TombstoneKey, LabelKey, EndKey}
use Rattle.keys.specs.Key.{Key, key_of, type_byte, names_ok, key_counter_ok, after_type, key_bytes, prefix_fixed}
use Rattle.keys.specs.Read.{name_length, fields_as, is_key}
use Rattle.keys.specs.Entry.{label_key_of, suffix}
use Rattle.keys.specs.Tests.{front_ok, actor_after, end_after, after_ok, entry_after}
use Rattle.keys.proofs.Texts.{text_before, cons_back, text_back}
use Rattle.keys.proofs.Valid.{ValidKey, made-valid, name-ok}
use Rattle.keys.proofs.Lengths.{tail-long, length-after}
use Rattle.keys.proofs.RoundTrip.{Laid, laid-read, is_key_written, is_key_read}
use Rattle.keys.proofs.EntryKeys.{entry-valid, valid-entry}
use Rattle.keys.proofs.EntryTests.{after_tests, after-back, after-ok}

-- ---- what follows the type byte

actor-back : (t : Bytes) → actor_after t ≡ true → 0 ∷ byte_at t 1 ∷ 0 ∷ [] ≡ t
unfolding actor_after
actor-back t h =
    let size : length t ≡ 3 = eqb-true (length t) 3 (search both) in
    let first : byte_at t 0 ≡ 0 = eqb-true (byte_at t 0) 0 (search both) in
    let third : byte_at t 2 ≡ 0 = eqb-true (byte_at t 2) 0 (search both) in
    let past : length t ≤ 3 = omega arith in
    let last = cons_back t 2 0 [] third (sym (drop_of_length-le t past)) (omega arith) in
    cons_back t 0 0 (byte_at t 1 ∷ 0 ∷ []) first (cons_back t 1 (byte_at t 1) (0 ∷ []) refl last (omega arith)) (omega arith)

actor_keeps : (t : Bytes) → actor_after t ≡ true → actor_ok (byte_at t 1) ≡ true
unfolding actor_after
actor_keeps t h = search both

end_back : (t : Bytes) → end_after t ≡ true → 0 ∷ 0 ∷ [] ≡ t
unfolding end_after
end_back t h =
    let size : length t ≡ 2 = eqb-true (length t) 2 (search both) in
    let first : byte_at t 0 ≡ 0 = eqb-true (byte_at t 0) 0 (search both) in
    let second : byte_at t 1 ≡ 0 = eqb-true (byte_at t 1) 0 (search both) in
    let past : length t ≤ 2 = omega arith in
    cons_back t 0 0 (0 ∷ []) first (cons_back t 1 0 [] second (sym (drop_of_length-le t past)) (omega arith)) (omega arith)

-- a valid key of a type and a name, with some bytes after its type byte
abbrev KeyAfter : KeyKind → Name → Bytes → Type 0
KeyAfter kind name t = (k : Key) × ValidKey k × (k.kind ≡ kind) × (k.name ≡ name) × (after_type k ≡ t)

key-after : (kind : KeyKind) (name t : Bytes) → AreBytes t → name_ok name ≡ true → after_ok kind t ≡ true → KeyAfter kind name t
unfolding names_ok key_counter_ok after_type suffix
key-after ClockKey name t small ok h = (key_of ClockKey name [] (byte_at t 1) 0, made-valid ClockKey name [] (byte_at t 1) 0 (rw (ok, actor_keeps t h)) refl, refl, refl, actor-back t h)
key-after TombstoneKey name t small ok h = (key_of TombstoneKey name [] (byte_at t 1) 0, made-valid TombstoneKey name [] (byte_at t 1) 0 (rw (ok, actor_keeps t h)) refl, refl, refl, actor-back t h)
key-after LabelKey name t small ok h = (label_key_of name (entry_after t), entry-valid name (entry_after t) ok (after-ok t small h), refl, refl, after-back t small h)
key-after EndKey name t small ok h = (key_of EndKey name [] 0 0, made-valid EndKey name [] 0 0 (rw ok) refl, refl, refl, end_back t h)

actor-passes : (name : Bytes) (actor : ℕ) → (name_ok name && actor_ok actor) ≡ true → actor_after (0 ∷ actor ∷ 0 ∷ []) ≡ true
unfolding actor_after
actor-passes name actor h = let ok : actor_ok actor ≡ true = search both in rw ok

made-passes : (t : KeyKind) (name : Name) (label : Label) (actor counter : ℕ) → ValidKey (key_of t name label actor counter) → after_ok t (after_type (key_of t name label actor counter)) ≡ true
unfolding names_ok after_type end_after suffix
made-passes ClockKey name label actor counter valid = actor-passes name actor valid.names
made-passes TombstoneKey name label actor counter valid = actor-passes name actor valid.names
made-passes LabelKey name label actor counter valid =
    let e : Entry = entry label (dot_of (actor_of actor) counter) in
    after_tests e (after_type (key_of LabelKey name label actor counter)) (valid-entry name e valid) refl
made-passes EndKey name label actor counter valid = refl

after-passes : (k : Key) → ValidKey k → after_ok k.kind (after_type k) ≡ true
after-passes k valid =
    subst (λ (j : Key). after_ok k.kind (after_type j) ≡ true) (sym valid.whole)
    (made-passes k.kind k.name k.label k.actor k.counter (subst ValidKey valid.whole valid))

-- ---- the whole key

after-long : (k : Key) (t : Bytes) → after_type k ≡ t → 2 ≤ length t
after-long k t e = rw (← e, length-after k) (omega (arith, tail-long k.kind))

module _ (kind : KeyKind) (s : Bytes) (small : AreBytes s) where
  n : ℕ
  n = name_length s

  passes : is_key kind s ≡ true → (front_ok kind s && after_ok kind (drop (n + prefix_fixed) s)) ≡ true
  unfolding front_ok fields_as key_bytes text_ok n
  passes h =
      let k : Key = fields_as kind s in
      let read = is_key_read kind s h in
      let w : Laid k s = laid-read kind s h in
      let magic : byte_at s 0 ≡ 0x02 = ap (λ (x : Bytes). byte_at x 0) (sym read.1) in
      let version : byte_at s 1 ≡ 0x01 = ap (λ (x : Bytes). byte_at x 1) (sym read.1) in
      let named : between 1 name_most n ≡ true = sym (text_before name_most (drop 2 s)) ∙ name-ok k read.0 in
      let typed : eqb (byte_at s (n + 3)) (type_byte kind) ≡ true = eq-eqb (byte_at s (n + 3)) (type_byte kind) w.type in
      let after : after_ok kind (drop (n + prefix_fixed) s) ≡ true = rw w.after-type (after-passes k read.0) in
      rw (magic, version, named, typed, after)

  passed : (front_ok kind s && after_ok kind (drop (n + prefix_fixed) s)) ≡ true → is_key kind s ≡ true
  unfolding n front_ok key_bytes
  passed h =
      let magic : byte_at s 0 ≡ 0x02 = eqb-true (byte_at s 0) 0x02 (search both) in
      let version : byte_at s 1 ≡ 0x01 = eqb-true (byte_at s 1) 0x01 (search both) in
      let typed : byte_at s (n + 3) ≡ type_byte kind = eqb-true (byte_at s (n + 3)) (type_byte kind) (search both) in
      let named : name_ok (part_at s 2 n) ≡ true = text_before name_most (drop 2 s) ∙ search both in
      let w = key-after kind (part_at s 2 n) (drop (n + prefix_fixed) s) (bytes_drop s (n + prefix_fixed) small) named (search both) in
      let k : Key = w.0 in
      let long = after-long k (drop (n + prefix_fixed) s) w.4 in
      let room : n + prefix_fixed < length s = omega (arith, length-drop (n + prefix_fixed) s) in
      let four : n + prefix_fixed ≡ n + 3 + 1 = omega arith in
      let type = cons_back s (n + 3) (type_byte kind) (drop (n + prefix_fixed) s) typed (rw four) (omega arith) in
      let name = text_back s 2 (n + 3) (omega arith) (omega arith) in
      let front = cons_back s 0 0x02 (0x01 ∷ drop 2 s) magic (cons_back s 1 0x01 (drop 2 s) version refl (omega arith)) (omega arith) in
      let same : key_bytes k ≡ s = rw (w.2, w.3, w.4, type, name) front in
      subst (λ (x : Bytes). is_key kind x ≡ true) same (subst (λ (t : KeyKind). is_key t (key_bytes k) ≡ true) w.2 (is_key_written k w.1))

  pub key_tests : is_key kind s ≡ (front_ok kind s && after_ok kind (drop (name_length s + prefix_fixed) s))
  unfolding n
  key_tests = both_ways _ _ passes passed
