-- A message and its bytes say the same: what is written is read again, and what is read is written again. Assumes nothing.
use mathlib.Core.Path.{◌≡◌, refl, sym, ap, ◌∙◌}
use mathlib.Core.Bool.{Bool, true, false}
use mathlib.Core.List.{◌∷◌, ◌++◌}
use Prim.Native.Nat.{ℕ, ◌+◌, ◌*◌, ◌≤◌}
use native.Mathlib.Omega.{arith}
use lib.Dec.{eqb}
use lib.ListN.{length, take, drop, get_or}
use borrow.Author.Rules.{rules}
use borrow.Author.Tests.{eq-eqb, eqb-true, le-leb, not-false}
use Rattle.wire.specs.Bytes.{Bytes, AreBytes}
use Rattle.wire.proofs.Tests.{both}
use Rattle.wire.proofs.Fields.{byte_on, part-on, byte_back, part-back, part_length}
use Rattle.dots.specs.declared.Dot.{Dot}
use Rattle.dots.specs.declared.Answer.TheVariants.{Done}
use Rattle.dots.specs.Answer.{number_of}
use Rattle.dots.specs.Names.{Name, Label}
use Rattle.dots.specs.Dots.{Context}
use Rattle.dots.specs.Wire.{dot_bytes, dot_size}
use Rattle.dots.specs.Message.{Message, add, remove}
use Rattle.dots.proofs.Table.{NoneHolds, none-holds}
use Rattle.dots.proofs.Rules.{ascending-valid}
use Rattle.dots.proofs.RoundTrip.{dot-on, dot-back}
use Rattle.messages.specs.Message.{add_kind, remove_kind, names_ok, dots_ok, message_ok, message_bytes, counted, context_bytes, front_bytes, front_fixed}
use Rattle.messages.specs.Read.{layout_of, mark_ok, version_ok, shape_ok, message_at, name_of, message_of, read_refusals, read_answer}
use Rattle.messages.proofs.Contexts.{context-on, context-back}
use Rattle.messages.proofs.Lengths.{length-add, length-remove}
use Rattle.messages.proofs.Shapes.{add-end, remove-end}

-- ---- written, then read

-- what reading finds of a written message
record Written (s : Bytes) (name : Name) (m : Message) : Type 0 where
  marked : mark_ok s ≡ true
  version : version_ok s ≡ true
  shaped : shape_ok s (layout_of s) ≡ true
  named : name_of s ≡ name
  same : message_of s ≡ m

written-add : (name : Name) (label : Label) (d : Dot) (ds : Context) (s : Bytes) → s ≡ message_bytes name (add label d ds) → dots_ok (add label d ds) ≡ true → Written s name (add label d ds)
unfolding message_bytes mark_ok version_ok shape_ok layout_of message_at name_of message_of
written-add name label d ds s e ok =
    let n : ℕ = length name in
    let l : ℕ = length label in
    let kind : get_or s 5 0 ≡ add_kind = rw e in
    let name-len : get_or s 6 0 ≡ n = rw e in
    let text = part-on s front_fixed n name (counted label ++ (dot_bytes d ++ context_bytes ds)) refl (rw e) in
    let label-len = byte_on s (front_fixed + n) l (label ++ (dot_bytes d ++ context_bytes ds)) text.1 in
    let label-text = part-on s (front_fixed + n + 1) l label (dot_bytes d ++ context_bytes ds) refl label-len.1 in
    let own = dot-on s (front_fixed + n + 1 + l) d (context_bytes ds) (search both) label-text.1 in
    let context = context-on s (front_fixed + n + 1 + l + dot_size) ds (ascending-valid ds (search both)) own.1 in
    let size : front_fixed + n + 1 + l + dot_size + 1 + dot_size * length ds ≡ length s = omega (arith, ap length e, length-add name label d ds) in
    record {
      marked = rw (le-leb 5 (length s) (omega arith), e);
      version = rw e;
      shaped = rw (kind, name-len, label-len.0, context.0, eq-eqb _ _ size);
      named = rw (kind, name-len, text.0);
      same = rw (kind, name-len, label-len.0, context.0, label-text.0, own.0, context.1);
    }

written-remove : (name : Name) (ds : Context) (s : Bytes) → s ≡ message_bytes name (remove ds) → dots_ok (remove ds) ≡ true → Written s name (remove ds)
unfolding message_bytes mark_ok version_ok shape_ok layout_of message_at name_of message_of
written-remove name ds s e ok =
    let n : ℕ = length name in
    let kind : get_or s 5 0 ≡ remove_kind = rw e in
    let name-len : get_or s 6 0 ≡ n = rw e in
    let text = part-on s front_fixed n name (context_bytes ds) refl (rw e) in
    let context = context-on s (front_fixed + n) ds (ascending-valid ds (search both)) text.1 in
    let size : front_fixed + n + 1 + dot_size * length ds ≡ length s = omega (arith, ap length e, length-remove name ds) in
    record {
      marked = rw (le-leb 5 (length s) (omega arith), e);
      version = rw e;
      shaped = rw (kind, name-len, context.0, eq-eqb _ _ size);
      named = rw (kind, name-len, text.0);
      same = rw (kind, name-len, context.0, context.1);
    }

written : (name : Name) (m : Message) → dots_ok m ≡ true → Written (message_bytes name m) name m
written name (add label d ds) ok = written-add name label d ds (message_bytes name (add label d ds)) refl ok
written name (remove ds) ok = written-remove name ds (message_bytes name (remove ds)) refl ok

-- the bytes of a message that keeps the rules are accepted, and say its set name and this message
pub read-written : (name : Name) (m : Message) → message_ok name m ≡ true
    → (read_answer (message_bytes name m) ≡ Done) × (name_of (message_bytes name m) ≡ name) × (message_of (message_bytes name m) ≡ m)
unfolding message_ok read_answer
read-written name m ok =
    let names : names_ok name m ≡ true = search both in
    let dots : dots_ok m ≡ true = search both in
    let w = written name m dots in
    (rw (w.marked, w.version, w.shaped, w.named, w.same, names, dots), w.named, w.same)

-- two such messages with the same bytes are the same
pub message_bytes-injective : (name name' : Name) (m m' : Message) → message_ok name m ≡ true → message_ok name' m' ≡ true → message_bytes name m ≡ message_bytes name' m'
    → (name ≡ name') × (m ≡ m')
message_bytes-injective name name' m m' ok ok' e =
    let r = read-written name m ok in
    let r' = read-written name' m' ok' in
    (sym r.1 ∙ ap name_of e ∙ r'.1, sym r.2 ∙ ap message_of e ∙ r'.2)

-- ---- read, then written

module _ (s : Bytes) (small : AreBytes s) (marked : mark_ok s ≡ true) (version : version_ok s ≡ true) where
  pub front-back : (kind : ℕ) (rest : Bytes) → get_or s 5 0 ≡ kind → front_fixed + get_or s 6 0 ≤ length s → rest ≡ drop (front_fixed + get_or s 6 0) s
      → front_bytes kind (take (get_or s 6 0) (drop front_fixed s)) ++ rest ≡ s
  unfolding mark_ok version_ok
  front-back kind rest e fits r =
      let first : get_or s 0 0 ≡ 0x50 = eqb-true _ _ (search both) in
      let second : get_or s 1 0 ≡ 0x54 = eqb-true _ _ (search both) in
      let third : get_or s 2 0 ≡ 0x4C = eqb-true _ _ (search both) in
      let number : get_or s 3 0 * 256 + get_or s 4 0 ≡ 1 = eqb-true _ _ version in
      let high : get_or s 3 0 ≡ 0 = omega arith in
      let low : get_or s 4 0 ≡ 1 = omega arith in
      let bytes : get_or s 0 0 ∷ get_or s 1 0 ∷ get_or s 2 0 ∷ get_or s 3 0 ∷ get_or s 4 0 ∷ get_or s 5 0 ∷ get_or s 6 0 ∷ drop front_fixed s ≡ s =
      rw (byte_back s 6 (omega arith), byte_back s 5 (omega arith), byte_back s 4 (omega arith), byte_back s 3 (omega arith), byte_back s 2 (omega arith), byte_back s 1 (omega arith), byte_back s 0 (omega arith)) in
      rw (part_length s front_fixed (get_or s 6 0) fits, r, part-back s front_fixed (get_or s 6 0)) (rw (first, second, third, high, low, e) at bytes)

  back : (b : Bool) → eqb (get_or s 5 0) add_kind ≡ b → shape_ok s (layout_of s) ≡ true → message_bytes (name_of s) (message_of s) ≡ s
  unfolding message_bytes layout_of message_at name_of message_of
  back true kind shaped =
      let n : ℕ = get_or s 6 0 in
      let l : ℕ = get_or s (front_fixed + n) 0 in
      let end = add-end s shaped kind in
      rw (kind, kind) (front-back add_kind _ (eqb-true _ _ kind) (omega arith)
      (rw (context-back s (front_fixed + n + 1 + l + dot_size) small end, dot-back s small (front_fixed + n + 1 + l) (omega arith), part_length s (front_fixed + n + 1) l (omega arith), part-back s (front_fixed + n + 1) l) (byte_back s (front_fixed + n) (omega arith))))
  back false kind shaped =
      let n : ℕ = get_or s 6 0 in
      let end = remove-end s shaped kind in
      rw (kind, kind) (front-back remove_kind _ end.0 (omega arith) (context-back s (front_fixed + n) small end.1))

-- accepted bytes pass every test
pub record Passed (s : Bytes) : Type 0 where
  pub marked : mark_ok s ≡ true
  pub version : version_ok s ≡ true
  pub shaped : shape_ok s (layout_of s) ≡ true
  pub rules : message_ok (name_of s) (message_of s) ≡ true

pub passed : (s : Bytes) → number_of (read_answer s) ≡ 0 → Passed s
unfolding read_answer message_ok
passed s e =
    let none : NoneHolds (read_refusals s) = none-holds (read_refusals s) (search rules) e in
    let names : names_ok (name_of s) (message_of s) ≡ true = not-false _ none.1.1.1.0 in
    let dots : dots_ok (message_of s) ≡ true = not-false _ none.1.1.1.1.0 in
    record { marked = not-false _ none.0; version = not-false _ none.1.0; shaped = not-false _ none.1.1.0; rules = rw (names, dots) }

-- bytes that are accepted are those of the message that they say, which keeps the rules
pub written_read : (s : Bytes) → AreBytes s → number_of (read_answer s) ≡ 0 → (message_bytes (name_of s) (message_of s) ≡ s) × (message_ok (name_of s) (message_of s) ≡ true)
written_read s small e =
    let p = passed s e in
    (back s small p.marked p.version (eqb (get_or s 5 0) add_kind) refl p.shaped, p.rules)
