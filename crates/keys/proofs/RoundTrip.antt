-- Keys and their bytes say the same: what is written is read again, and what is read is written again. Assumes nothing.
use mathlib.Core.Path.{◌≡◌, refl, sym, ap, subst, ◌∙◌}
use mathlib.Core.Bool.{true, cond}
use mathlib.Core.List.{[], ◌∷◌, ◌++◌, append-nil}
use Prim.Native.Nat.{ℕ, ◌+◌, ◌^◌, ◌≤◌, ◌<◌}
use native.Mathlib.Omega.{arith}
use lib.Dec.{compare_is_eq}
use lib.ListN.{length, drop}
use Rattle.wire.specs.Bytes.{Bytes, big_endian, byte_at, part_at, number_at, compare_bytes}
use Rattle.wire.proofs.Tests.{both, pass}
use Rattle.wire.proofs.Lists.{tie-is}
use Rattle.wire.proofs.Orders.{bytes_lawful}
use Rattle.wire.proofs.Fields.{byte_on, number-on}
use Rattle.dots.specs.Names.{name_most, label_most}
use Rattle.keys.specs.declared.KeyKind.{KeyKind}
use Rattle.keys.specs.declared.KeyKind.TheVariants.{ClockKey, TombstoneKey, LabelKey, EndKey}
use Rattle.keys.specs.Key.{Key, type_byte, has_label, has_actor, after_type, key_bytes, prefix_fixed}
use Rattle.keys.specs.Read.{name_length, label_length, fields_as, is_key}
use Rattle.keys.specs.Parts.{tail_length, actor_counter}
use Rattle.keys.specs.Tests.{kind_of}
use Rattle.keys.proofs.Texts.{text_on}
use Rattle.keys.proofs.Lengths.{length-key}
use Rattle.keys.proofs.Valid.{ValidKey, made-valid, names-short, name-nonzero, label-nonzero, counter-fits}

pub kind-type : (t : KeyKind) → kind_of (type_byte t) ≡ t
kind-type ClockKey = refl
kind-type TombstoneKey = refl
kind-type LabelKey = refl
kind-type EndKey = refl

-- ---- written, then read

-- where the fields stand in the bytes of a key
pub record Laid (k : Key) (s : Bytes) : Type 0 where
  pub name-size : name_length s ≡ length k.name
  pub name : part_at s 2 (name_length s) ≡ k.name
  pub type : byte_at s (name_length s + 3) ≡ type_byte k.kind
  pub after-type : drop (name_length s + prefix_fixed) s ≡ after_type k
  pub label-size : label_length s ≡ length k.label
  pub label : part_at s (name_length s + prefix_fixed) (label_length s) ≡ k.label
  pub after-label : drop (name_length s + label_length s + 5) s ≡ actor_counter k.kind k.actor k.counter

pub laid : (k : Key) → ValidKey k → Laid k (key_bytes k)
unfolding key_bytes after_type
laid k valid =
    let s : Bytes = key_bytes k in
    let n : ℕ = name_length s in
    let l : ℕ = label_length s in
    let named = text_on s 2 (n + 3) k.name (type_byte k.kind ∷ after_type k) (name-nonzero k valid) refl (omega arith) in
    let typed = byte_on s (n + 3) (type_byte k.kind) (after_type k) named.2 in
    let four : n + 3 + 1 ≡ n + prefix_fixed = omega arith in
    let after : drop (n + prefix_fixed) s ≡ after_type k = rw four at typed.1 in
    let labelled = text_on s (n + prefix_fixed) (n + l + 5) k.label (actor_counter k.kind k.actor k.counter) (label-nonzero k valid) after (omega arith) in
    record { name-size = named.0; name = named.1; type = typed.0; after-type = after; label-size = labelled.0; label = labelled.1; after-label = labelled.2 }

-- actor and counter after the label
tail-on : (s : Bytes) (i : ℕ) (t : KeyKind) (actor counter : ℕ) → counter < 256 ^ 8 → drop i s ≡ actor_counter t actor counter
    → (cond (has_actor t) (byte_at s i) 0 ≡ cond (has_actor t) actor 0) × (cond (has_label t) (number_at 8 s (i + 2)) 0 ≡ cond (has_label t) counter 0)
tail-on s i ClockKey actor counter fits h = ((byte_on s i actor (0 ∷ []) h).0, refl)
tail-on s i TombstoneKey actor counter fits h = ((byte_on s i actor (0 ∷ []) h).0, refl)
tail-on s i LabelKey actor counter fits h =
    let first = byte_on s i actor (0 ∷ big_endian 8 counter) h in
    let second = byte_on s (i + 1) 0 (big_endian 8 counter) first.1 in
    let two : i + 1 + 1 ≡ i + 2 = omega arith in
    let third : drop (i + 2) s ≡ big_endian 8 counter ++ [] = rw two at second.1 ∙ sym (append-nil (big_endian 8 counter)) in
    (first.0, (number-on s 8 (i + 2) counter [] fits third).0)
tail-on s i EndKey actor counter fits h = (refl, refl)

module _ (k : Key) (valid : ValidKey k) where
  pub fields_written : fields_as k.kind (key_bytes k) ≡ k
  unfolding fields_as
  fields_written =
      let s : Bytes = key_bytes k in
      let w = laid k valid in
      let at : ℕ = name_length s + label_length s + 5 in
      let tail = tail-on s at k.kind k.actor k.counter (counter-fits k valid) w.after-label in
      let two : name_length s + label_length s + 7 ≡ at + 2 = omega arith in
      rw (w.name, w.label, two, tail.0, tail.1) (sym valid.whole)

  pub is_key_written : is_key k.kind (key_bytes k) ≡ true
  unfolding is_key
  is_key_written = rw (fields_written, valid.names, valid.counted, bytes_lawful.self (key_bytes k))

-- ---- read, then written

pub is_key_read : (kind : KeyKind) (s : Bytes) → is_key kind s ≡ true → ValidKey (fields_as kind s) × (key_bytes (fields_as kind s) ≡ s)
unfolding is_key fields_as
is_key_read kind s h =
    let k : Key = fields_as kind s in
    let n : ℕ = name_length s in
    let l : ℕ = label_length s in
    let same : compare_is_eq (compare_bytes (key_bytes k) s) ≡ true = search both in
    let valid : ValidKey k = made-valid kind (part_at s 2 n) (part_at s (n + prefix_fixed) l) (byte_at s (n + l + 5)) (number_at 8 s (n + l + 7)) (search both) (search both) in
    (valid, bytes_lawful.tie (key_bytes k) s (tie-is (compare_bytes (key_bytes k) s) (pass same)))

module _ (kind : KeyKind) (s : Bytes) (key : is_key kind s ≡ true) where
  pub laid-read : Laid (fields_as kind s) s
  laid-read = let read = is_key_read kind s key in subst (Laid (fields_as kind s)) read.1 (laid (fields_as kind s) read.0)

  -- how long bytes are that are a key
  pub key-size : length s ≡ name_length s + label_length s + (prefix_fixed + tail_length kind)
  unfolding fields_as
  key-size =
      let k : Key = fields_as kind s in
      let w : Laid k s = laid-read in
      let size : length s ≡ length k.name + length k.label + (prefix_fixed + tail_length kind) = ap length (sym (is_key_read kind s key).1) ∙ length-key k in
      omega arith

  pub key-short : (name_length s ≤ name_most) × (label_length s ≤ label_most)
  key-short = let short = names-short (fields_as kind s) (is_key_read kind s key).0 in let w : Laid (fields_as kind s) s = laid-read in omega arith
