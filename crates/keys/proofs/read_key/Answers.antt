-- The type byte decides the type, and the tests of that type decide.
use Prim.Native.Nat.{ℕ, ◌+◌}
use mathlib.Core.Path.{◌≡◌, sym, ◌∙◌}
use Rattle.std.specs.Prelude.{Ok, Err}
use mathlib.Core.Bool.{Bool, true, false, cond}
use Rattle.wire.specs.Bytes.{Bytes, byte_at}
use Rattle.dots.specs.declared.Answer.{Answer}
use Rattle.dots.specs.declared.Answer.TheVariants.{BadShape}
use Rattle.keys.specs.declared.KeyKind.{KeyKind}
use Rattle.keys.specs.declared.KeyFields.{KeyFields}
use Rattle.keys.specs.Key.{type_byte}
use Rattle.keys.specs.Read.{name_length, is_key, found_key, no_key, read_key, read_as}
use Rattle.keys.specs.Tests.{kind_of}
use Rattle.keys.proofs.Reading.{read_by_type, read_unknown}
use borrow.Author.Rules.{rules}
use Rattle.keys.proofs.read_key.Goals as goal

module _ (s t : Bytes) (n b : ℕ) (same : t ≡ s) (named : n ≡ name_length t) (byte : b ≡ byte_at s (n + 3)) where
  name : n ≡ name_length s
  name = rw same at named

  unknown : (a : Answer) → (a ≡ BadShape) × (type_byte (kind_of b) ≡ b → ⊥) → read_as (Err a) ≡ read_key s
  unknown a h = rw h.0 (sym (read_unknown s b (byte ∙ rw name) h.1))

  module _ (kind : KeyKind) (typed : kind ≡ kind_of b) (key : Bool) (tested : key ≡ is_key kind t) where
    by-type : read_key s ≡ cond key (found_key kind s) no_key
    by-type = let key-is : key ≡ is_key kind s = rw same at tested in rw key-is (read_by_type s kind (typed ∙ rw (byte, name)))

    found : (r : KeyFields) → key ≡ true → read_as (Ok r) ≡ found_key kind t → read_as (Ok r) ≡ read_key s
    found r h e = rw (by-type, h) (rw same at e)

    none : key ≡ false → read_as (Err BadShape) ≡ read_key s
    none h = rw (by-type, h)

pub returns-in_err-kind : goal.returns-in_err-kind
returns-in_err-kind c = search (rules, unknown)

pub returns-then-is_key : goal.returns-then-is_key
returns-then-is_key c = search (rules, found)

pub returns-else-is_key : goal.returns-else-is_key
returns-else-is_key c = search (rules, none)
