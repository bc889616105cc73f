-- What reading gives: the key of the bytes where they are one, and a refusal where they are none. Assumes nothing.
use mathlib.Core.Path.{◌≡◌, refl, sym, ap, subst, ◌∙◌}
use mathlib.Core.Logic.{◌↔◌, ◌⊎◌, inl, inr}
use mathlib.Core.Bool.{true, false, cond, false≢true}
use mathlib.Core.List.{[]}
use Prim.Native.Nat.{ℕ, ◌+◌}
use native.Mathlib.Omega.{arith}
use Rattle.wire.specs.Bytes.{Bytes, byte_at, part_at, part_of, span}
use Rattle.wire.proofs.Tests.{decided, untrue}
use Rattle.dots.specs.Answer.{number_of}
use Rattle.dots.specs.declared.Answer.TheVariants.{Done}
use Rattle.keys.specs.declared.KeyKind.{KeyKind}
use Rattle.keys.specs.declared.KeyKind.TheVariants.{ClockKey, TombstoneKey, LabelKey, EndKey}
use Rattle.keys.specs.Key.{Key, type_byte, has_label, key_bytes, prefix_fixed}
use Rattle.keys.specs.Read.{KeyRead, name_length, label_length, fields_as, is_key, found_key, no_key, read_key}
use Rattle.keys.specs.Tests.{kind_of}
use Rattle.keys.proofs.Valid.{ValidKey, label_kept}
use Rattle.keys.proofs.RoundTrip.{laid, laid-read, kind-type, fields_written, is_key_written, is_key_read}

-- ---- the type byte decides

module _ (s : Bytes) where
  type_of : (t : KeyKind) → is_key t s ≡ true → byte_at s (name_length s + 3) ≡ type_byte t
  unfolding fields_as
  type_of t h = (laid-read t s h).type

  kind_of_lem : (t : KeyKind) → is_key t s ≡ true → kind_of (byte_at s (name_length s + 3)) ≡ t
  kind_of_lem t h = ap kind_of (type_of t h) ∙ kind-type t

  -- bytes are a key of one type at most
  pub one_kind : (t u : KeyKind) → is_key t s ≡ true → is_key u s ≡ true → t ≡ u
  one_kind t u h k = sym (kind_of_lem t h) ∙ kind_of_lem u k

  other : (t u : KeyKind) → is_key t s ≡ true → (type_byte t ≡ type_byte u → ⊥) → is_key u s ≡ false
  other t u h differ = untrue (is_key u s) (λ k. differ (ap type_byte (one_kind t u h k)))

  pub read_as : (t : KeyKind) → is_key t s ≡ true → read_key s ≡ found_key t s
  unfolding read_key
  read_as ClockKey h = rw h
  read_as TombstoneKey h = rw (other TombstoneKey ClockKey h (λ e. omega arith), h)
  read_as LabelKey h = rw (other LabelKey ClockKey h (λ e. omega arith), other LabelKey TombstoneKey h (λ e. omega arith), h)
  read_as EndKey h = rw (other EndKey ClockKey h (λ e. omega arith), other EndKey TombstoneKey h (λ e. omega arith), other EndKey LabelKey h (λ e. omega arith), h)

  pub read_none : ((t : KeyKind) → is_key t s ≡ false) → read_key s ≡ no_key
  unfolding read_key
  read_none none = rw (none ClockKey, none TombstoneKey, none LabelKey, none EndKey)

  -- as the code reads: by the type byte
  pub read_by_type : (t : KeyKind) → t ≡ kind_of (byte_at s (name_length s + 3)) → read_key s ≡ cond (is_key t s) (found_key t s) no_key
  read_by_type t e = by-test (decided (is_key t s))
    where
      by-test : (is_key t s ≡ true) ⊎ (is_key t s ≡ false) → read_key s ≡ cond (is_key t s) (found_key t s) no_key
      by-test (inl h) = rw h (read_as t h)
      by-test (inr f) = rw f (read_none (λ u. untrue (is_key u s) (λ k. false≢true (sym f ∙ subst (λ (v : KeyKind). is_key v s ≡ true) (sym (e ∙ kind_of_lem u k)) k))))

  -- a byte that is no type byte begins no key's label
  pub read_unknown : (b : ℕ) → b ≡ byte_at s (name_length s + 3) → (type_byte (kind_of b) ≡ b → ⊥) → read_key s ≡ no_key
  read_unknown b e none =
      let t : KeyKind = kind_of b in
      let no : is_key t s ≡ false = untrue (is_key t s) (λ h. none (sym (type_of t h) ∙ sym e)) in
      read_by_type t (ap kind_of e) ∙ rw no

-- ---- what is read says what was written

-- what reading bytes gives is what a key says
pub record Says (r : KeyRead) (s : Bytes) (k : Key) : Type 0 where
  pub answer : r.answer ≡ Done
  pub kind : r.kind ≡ type_byte k.kind
  pub name : part_of s r.name ≡ k.name
  pub label : part_of s r.label ≡ k.label
  pub actor : r.actor ≡ k.actor
  pub counter : r.counter ≡ k.counter

pub read-written : (k : Key) → ValidKey k → Says (read_key (key_bytes k)) (key_bytes k) k
read-written k valid = subst (λ (r : KeyRead). Says r s k) (sym (read_as s k.kind (is_key_written k valid))) found
  where
    s : Bytes
    s = key_bytes k

    cut : (t : KeyKind) → part_of s (cond (has_label t) (span (name_length s + prefix_fixed) (label_length s)) (span 0 0)) ≡ cond (has_label t) (part_at s (name_length s + prefix_fixed) (label_length s)) []
    cut ClockKey = refl
    cut TombstoneKey = refl
    cut LabelKey = refl
    cut EndKey = refl

    found : Says (found_key k.kind s) s k
    found = record {
      answer = refl;
      kind = refl;
      name = (laid k valid).name;
      label = cut k.kind ∙ rw (laid k valid).label (label_kept k valid);
      actor = ap (λ (j : Key). j.actor) (fields_written k valid);
      counter = ap (λ (j : Key). j.counter) (fields_written k valid);
    }

-- ---- what is accepted and what is refused

module _ (s : Bytes) where
  -- a type whose key the bytes are, or none
  found_or_none : ((t : KeyKind) × (is_key t s ≡ true)) ⊎ (read_key s ≡ no_key)
  found_or_none = by-test (decided (is_key t s))
    where
      t : KeyKind
      t = kind_of (byte_at s (name_length s + 3))

      by-test : (is_key t s ≡ true) ⊎ (is_key t s ≡ false) → ((t : KeyKind) × (is_key t s ≡ true)) ⊎ (read_key s ≡ no_key)
      by-test (inl h) = inl (t, h)
      by-test (inr f) = inr (read_by_type s t refl ∙ rw f)

  -- bytes that are accepted are those of the key that they are read as
  pub written_read : number_of (read_key s).answer ≡ 0 → (k : Key) × ValidKey k × (key_bytes k ≡ s) × Says (read_key s) s k
  written_read h = by-type found_or_none
    where
      by-type : ((t : KeyKind) × (is_key t s ≡ true)) ⊎ (read_key s ≡ no_key) → (k : Key) × ValidKey k × (key_bytes k ≡ s) × Says (read_key s) s k
      by-type (inl w) =
          let k : Key = fields_as w.0 s in
          let read = is_key_read w.0 s w.1 in
          (k, read.0, read.1, subst (λ (x : Bytes). Says (read_key x) x k) read.1 (read-written k read.0))
      by-type (inr e) = let four : ◌≡◌ {A = ℕ} 4 0 = rw e at h in absurd (omega arith)

  -- "any other bytes answer 4"
  pub read-refused : (read_key s ≡ no_key) ↔ ((k : Key) → ValidKey k → key_bytes k ≡ s → ⊥)
  read-refused = (no_key_lem, refused)
    where
      no_key_lem : read_key s ≡ no_key → (k : Key) → ValidKey k → key_bytes k ≡ s → ⊥
      no_key_lem e k valid h =
          let done : (read_key s).answer ≡ Done = subst (λ (x : Bytes). (read_key x).answer ≡ Done) h (read-written k valid).answer in
          let four : ◌≡◌ {A = ℕ} 4 0 = rw e at (ap number_of done) in
          omega arith

      refused : ((k : Key) → ValidKey k → key_bytes k ≡ s → ⊥) → read_key s ≡ no_key
      refused none = read_none s (λ t. untrue (is_key t s) (λ h. let read = is_key_read t s h in none (fields_as t s) read.0 read.1))
