-- What callers use of a message that was accepted: where its fields are, what they say, and its length. Assumes nothing.
use mathlib.Core.Path.{◌≡◌, refl, sym, ap, ◌∙◌}
use mathlib.Core.Bool.{Bool, true, false, ◌||◌, cond, false≢true}
use Prim.Native.Nat.{◌/◌, ◌≤◌}
use native.Mathlib.Omega.{arith}
use lib.Dec.{eqb}
use lib.ListN.{length}
use borrow.Author.Tests.{eq-eqb, leb-true}
use Rattle.wire.specs.Bytes.{Bytes, end_of, part_of}
use Rattle.wire.proofs.Tests.{both, both_left}
use Rattle.wire.proofs.Fields.{part_length}
use Rattle.dots.specs.declared.Dot.{Dot}
use Rattle.dots.specs.declared.Answer.{Answer}
use Rattle.dots.specs.Answer.{number_of}
use Rattle.dots.specs.Names.{Name, Label}
use Rattle.dots.specs.Dots.{Context, context_most}
use Rattle.dots.specs.Wire.{dots_of, dot_size}
use Rattle.dots.specs.Message.{Message, add, remove, context_of}
use Rattle.dots.proofs.Loops.{length-dots_of}
use Rattle.messages.specs.Message.{add_kind, remove_kind, message_ok, message_most}
use Rattle.messages.specs.Read.{MessageRead, shape_ok, layout_of, message_at, name_of, message_of, read_answer, found_message, no_message, read_of}
use Rattle.messages.specs.Layouts.{Within}
use Rattle.messages.specs.Write.{WholeContext}
use Rattle.messages.proofs.Lengths.{longest}
use Rattle.messages.proofs.Shapes.{context-span, context-whole, shape-within, shape-length}
use Rattle.messages.proofs.RoundTrip.{passed}

-- the message that a caller has of what was read, r: parts of the bytes, and the dot
abbrev pub message_by : Bytes → MessageRead → Message
message_by s r = cond (eqb r.kind add_kind) (add (part_of s r.label) r.dot (dots_of (part_of s r.context))) (remove (dots_of (part_of s r.context)))

-- what holds of accepted bytes s, and of what was read from them, r
pub record Found (s : Bytes) (r : MessageRead) : Type 0 where
  pub short : length s ≤ message_most
  pub name-within : end_of r.name ≤ length s
  pub label-within : end_of r.label ≤ length s
  pub context-within : end_of r.context ≡ length s
  pub whole : WholeContext (part_of s r.context)
  pub name : part_of s r.name ≡ name_of s
  pub message : message_by s r ≡ message_of s
  pub context : dots_of (part_of s r.context) ≡ context_of (message_of s)
  pub rules : message_ok (name_of s) (message_of s) ≡ true

context-short : (name : Name) (m : Message) → message_ok name m ≡ true → length (context_of m) ≤ context_most
unfolding message_ok
context-short name (add label d ds) ok = leb-true _ _ (search both)
context-short name (remove ds) ok = leb-true _ _ (search both)

-- reading gives the answer of the table
pub read-answers : (s : Bytes) → (read_of s).answer ≡ read_answer s
unfolding read_of
read-answers s = either (eqb (number_of (read_answer s)) 0)
  where
    either : (b : Bool) → (cond b (found_message s (layout_of s) (read_answer s)) (no_message (read_answer s))).answer ≡ read_answer s
    either true = refl
    either false = refl

module _ (s : Bytes) (accepts : number_of (read_answer s) ≡ 0) where
  pub accepted-within : Within s (layout_of s)
  accepted-within = shape-within s (passed s accepts).shaped

  pub accepted-short : length s ≤ message_most
  accepted-short =
      let p = passed s accepts in
      rw (shape-length s p.shaped) at (longest (name_of s) (message_of s) p.rules)

  pub accepted-read : read_of s ≡ found_message s (layout_of s) (read_answer s)
  unfolding read_of
  accepted-read = rw (eq-eqb _ 0 accepts)

  accepted-whole : WholeContext (part_of s (layout_of s).context)
  accepted-whole =
      let context : Bytes = part_of s (layout_of s).context in
      let end = accepted-within.context in
      let size : length context ≡ (layout_of s).context.len = part_length s (layout_of s).context.at (layout_of s).context.len (omega arith) in
      let dots : length (context_of (message_of s)) ≡ length context / dot_size = sym (ap length (context-span s)) ∙ length-dots_of context in
      let most = context-short (name_of s) (message_of s) (passed s accepts).rules in
      let whole = context-whole s in
      (rw size whole, omega arith)

  accepted-found : Found s (found_message s (layout_of s) (read_answer s))
  unfolding name_of message_of message_at
  accepted-found = record {
    short = accepted-short;
    name-within = accepted-within.name;
    label-within = accepted-within.label;
    context-within = accepted-within.context;
    whole = accepted-whole;
    name = refl;
    message = by_kind (eqb (layout_of s).kind add_kind) _ _ _ _;
    context = context-span s;
    rules = (passed s accepts).rules;
  }
    where
      by_kind : (b : Bool) (label : Label) (d e : Dot) (ds : Context) → cond b (add label (cond b d e) ds) (remove ds) ≡ cond b (add label d ds) (remove ds)
      by_kind true label d e ds = refl
      by_kind false label d e ds = refl

-- of what was read with answer 0 every span lies within the bytes, and the fields are the message's
pub found : (s : Bytes) (r : MessageRead) → r ≡ read_of s → number_of r.answer ≡ 0 → Found s r
found s r e h =
    let accepts : number_of (read_answer s) ≡ 0 = sym (ap number_of (ap (λ (x : MessageRead). x.answer) e ∙ read-answers s)) ∙ h in
    rw (e, accepted-read s accepts) (accepted-found s accepts)

-- a refusal that reading gives is none of the answer done: no kind byte of what is accepted is 0
pub refusal_read : (s : Bytes) (a : Answer) → no_message a ≡ read_of s → number_of a ≡ 0 → ⊥
unfolding shape_ok
refusal_read s a e z =
    let said : a ≡ read_answer s = ap (λ (x : MessageRead). x.answer) e ∙ read-answers s in
    let accepts : number_of (read_answer s) ≡ 0 = ap number_of (sym said) ∙ z in
    let kind : (layout_of s).kind ≡ 0 = sym (ap (λ (x : MessageRead). x.kind) (e ∙ accepted-read s accepts)) in
    let known : (eqb (layout_of s).kind add_kind || eqb (layout_of s).kind remove_kind) ≡ true = both_left _ _ (passed s accepts).shaped in
    false≢true (rw kind at known)
