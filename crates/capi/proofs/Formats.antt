-- Keys and messages: the fields handed out are those that were read, and a key is written where its type byte is one. Assumes nothing.
use mathlib.Core.Path.{◌≡◌, refl, ap}
use Prim.Native.Nat.{ℕ}
use Rattle.std.specs.Prelude.{Result, Ok, Err}
use borrow.Author.Tests.{eq-eqb, ne_eqb}
use Rattle.wire.specs.Bytes.{Bytes}
use Rattle.dots.specs.declared.Answer.{Answer}
use Rattle.dots.specs.Answer.{number_of, answer_of, written_of}
use Rattle.keys.specs.declared.KeyKind.{KeyKind}
use Rattle.keys.specs.declared.KeyFields.{KeyFields}
use Rattle.keys.specs.Key.{key_of, type_byte}
use Rattle.keys.specs.Tests.{kind_of}
use Rattle.keys.specs.Read.{read_key, read_as}
use Rattle.keys.specs.Write.{write_answer, WroteKey}
use Rattle.messages.specs.declared.MessageFields.{MessageFields}
use Rattle.messages.specs.Message.{kind_byte}
use Rattle.messages.specs.Read.{read_of, read_as as read_as_message}
use Rattle.capi.specs.Left.{key_answer}
use Rattle.capi.specs.Promise.{WritesKey, ReadsKey, ReadsMessage}

module _ (byte : ℕ) (name label : Bytes) (actor counter : ℕ) (out : Bytes) where
  pub no_kind : (type_byte (kind_of byte) ≡ byte → ⊥) → WritesKey byte (key_of (kind_of byte) name label actor counter) out out 0 4
  unfolding key_answer
  no_kind other = let none = ne_eqb (type_byte (kind_of byte)) byte other in record { answered = rw none; out-is = rw none; written_is = rw none }

  pub key-written : (kind : KeyKind) → (kind ≡ kind_of byte) × (type_byte kind ≡ byte) → (after : Bytes) (done : Result ℕ Answer) → WroteKey (key_of kind name label actor counter) out after done
      → WritesKey byte (key_of (kind_of byte) name label actor counter) out after (written_of done) (number_of (answer_of done))
  unfolding key_answer write_answer
  key-written kind typed after done wrote =
      let same : type_byte (kind_of byte) ≡ byte = rw (← typed.0) typed.1 in
      let some = eq-eqb (type_byte (kind_of byte)) byte same in
      let typed-wrote = rw typed.0 at wrote in
      record { answered = rw some (ap number_of typed-wrote.answered); out-is = rw some typed-wrote.bytes; written_is = rw some typed-wrote.counted }

pub key-read : (s : Bytes) (key : KeyFields) (kind : ℕ) → read_as (Ok key) ≡ read_key s → kind ≡ type_byte key.kind
    → ReadsKey (read_key s) kind key.name.at key.name.len key.label.at key.label.len key.actor key.counter 0
key-read s key kind e f = rw (← e) (record {
  answered = refl;
  kind-is = f;
  name-is = record { at-is = refl; len_is = refl };
  label_is = record { at-is = refl; len_is = refl };
  actor-is = refl;
  counter-is = refl;
})

pub no-key-read : (s : Bytes) (a : Answer) (r : ℕ) → read_as (Err a) ≡ read_key s → r ≡ number_of a → ReadsKey (read_key s) 0 0 0 0 0 0 0 r
no-key-read s a r e f = rw (← e) (record {
  answered = f;
  kind-is = refl;
  name-is = record { at-is = refl; len_is = refl };
  label_is = record { at-is = refl; len_is = refl };
  actor-is = refl;
  counter-is = refl;
})

pub message-read : (s : Bytes) (m : MessageFields) (kind : ℕ) → read_as_message (Ok m) ≡ read_of s → kind ≡ kind_byte m.kind
    → ReadsMessage (read_of s) kind m.name.at m.name.len m.label.at m.label.len m.dot.actor.number m.dot.counter.number m.context.at m.context.len 0
message-read s m kind e f = rw (← e) (record {
  answered = refl;
  kind-is = f;
  name-is = record { at-is = refl; len_is = refl };
  label_is = record { at-is = refl; len_is = refl };
  actor-is = refl;
  counter-is = refl;
  context-is = record { at-is = refl; len_is = refl };
})

pub no-message-read : (s : Bytes) (a : Answer) (r : ℕ) → read_as_message (Err a) ≡ read_of s → r ≡ number_of a → ReadsMessage (read_of s) 0 0 0 0 0 0 0 0 0 r
no-message-read s a r e f = rw (← e) (record {
  answered = f;
  kind-is = refl;
  name-is = record { at-is = refl; len_is = refl };
  label_is = record { at-is = refl; len_is = refl };
  actor-is = refl;
  counter-is = refl;
  context-is = record { at-is = refl; len_is = refl };
})
