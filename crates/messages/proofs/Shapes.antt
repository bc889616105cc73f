-- What a right shape says: where the fields end, that they lie within the bytes, and how long the message is. Assumes nothing.
use mathlib.Core.Path.{◌≡◌, refl, sym}
use mathlib.Core.Bool.{Bool, true, false, cond, ◌||◌}
use Prim.Native.Nat.{ℕ, ◌+◌, ◌*◌, ◌%◌}
use native.Mathlib.Omega.{arith}
use lib.Dec.{eqb}
use lib.ListN.{length, get_or}
use borrow.Author.Tests.{eqb-true, eqb-false}
use Rattle.wire.specs.Bytes.{Bytes, byte_at, part_at, part_of}
use Rattle.wire.proofs.Tests.{both}
use Rattle.wire.proofs.Fields.{part_length}
use Rattle.dots.specs.declared.Dot.{Dot}
use Rattle.dots.specs.Names.{Label}
use Rattle.dots.specs.Dots.{Context}
use Rattle.dots.specs.Wire.{dot_at, dots_of, dot_size}
use Rattle.dots.specs.Message.{add, remove, context_of}
use Rattle.dots.proofs.Loops.{length-dots_of}
use Rattle.messages.specs.Message.{add_kind, remove_kind, message_bytes, front_fixed}
use Rattle.messages.specs.Read.{add_layout, remove_layout, layout_of, shape_ok, message_at, name_of, message_of}
use Rattle.messages.specs.Layouts.{Within}
use Rattle.messages.proofs.Lengths.{length-add, length-remove}

-- a message's context is what its span says, whole dots
module _ (s : Bytes) where
  pub context-span : dots_of (part_of s (layout_of s).context) ≡ context_of (message_of s)
  unfolding message_of message_at
  context-span = sym (either (eqb (layout_of s).kind add_kind) _ _ _)
    where
      either : (b : Bool) (label : Label) (d : Dot) (ds : Context) → context_of (cond b (add label d ds) (remove ds)) ≡ ds
      either true label d ds = refl
      either false label d ds = refl

  pub context-whole : (layout_of s).context.len % dot_size ≡ 0
  unfolding layout_of
  context-whole = either (eqb (get_or s 5 0) add_kind)
    where
      either : (b : Bool) → (cond b (add_layout s) (remove_layout s)).context.len % dot_size ≡ 0
      either true = omega arith
      either false = omega arith

-- a byte that is no kind begins no message
pub shape-known : (s : Bytes) → (eqb (byte_at s 5) add_kind || eqb (byte_at s 5) remove_kind) ≡ false → shape_ok s (layout_of s) ≡ false
unfolding shape_ok layout_of
shape-known s h = rw (kind-is (eqb (byte_at s 5) add_kind), h)
  where
    kind-is : (b : Bool) → (cond b (add_layout s) (remove_layout s)).kind ≡ byte_at s 5
    kind-is true = refl
    kind-is false = refl

module _ (s : Bytes) (shaped : shape_ok s (layout_of s) ≡ true) where
  -- the context of an add ends the bytes
  pub add-end : eqb (get_or s 5 0) add_kind ≡ true
      → front_fixed + get_or s 6 0 + 1 + get_or s (front_fixed + get_or s 6 0) 0 + dot_size + 1 + dot_size * get_or s (front_fixed + get_or s 6 0 + 1 + get_or s (front_fixed + get_or s 6 0) 0 + dot_size) 0 ≡ length s
  unfolding layout_of shape_ok
  add-end kind = eqb-true _ _ (rw (kind, kind) at shaped)

  -- a message that is no add is a remove, whose context ends the bytes
  pub remove-end : eqb (get_or s 5 0) add_kind ≡ false → (get_or s 5 0 ≡ remove_kind) × (front_fixed + get_or s 6 0 + 1 + dot_size * get_or s (front_fixed + get_or s 6 0) 0 ≡ length s)
  unfolding layout_of shape_ok
  remove-end kind =
      let known : _ = rw (kind, kind) at shaped in
      (eqb-true _ _ (search both), eqb-true _ _ (search both))

  within_by : (b : Bool) → eqb (get_or s 5 0) add_kind ≡ b → Within s (layout_of s)
  unfolding layout_of
  within_by true kind =
      let end = add-end kind in
      rw kind (record { name = omega arith; label = omega arith; dot = λ k. omega arith; context = end })
  within_by false kind =
      let end = (remove-end kind).1 in
      rw kind (record { name = omega arith; label = omega arith; dot = λ k. absurd (eqb-false _ _ kind k); context = end })

  -- every field lies within the bytes
  pub shape-within : Within s (layout_of s)
  shape-within = within_by (eqb (get_or s 5 0) add_kind) refl

  length-by : (b : Bool) → eqb (get_or s 5 0) add_kind ≡ b → length (message_bytes (name_of s) (message_of s)) ≡ length s
  unfolding layout_of message_at name_of message_of
  length-by true kind =
      let n : ℕ = get_or s 6 0 in
      let l : ℕ = get_or s (front_fixed + n) 0 in
      let at : ℕ = front_fixed + n + 1 + l + dot_size in
      let k : ℕ = get_or s at 0 in
      let end = add-end kind in
      let context : Bytes = part_at s (at + 1) (dot_size * k) in
      rw (kind, kind) (omega (
        arith,
        length-add (part_at s front_fixed n) (part_at s (front_fixed + n + 1) l) (dot_at s (front_fixed + n + 1 + l)) (dots_of context),
        length-dots_of context,
        part_length s front_fixed n (omega arith),
        part_length s (front_fixed + n + 1) l (omega arith),
        part_length s (at + 1) (dot_size * k) (omega arith),
      ))
  length-by false kind =
      let n : ℕ = get_or s 6 0 in
      let k : ℕ = get_or s (front_fixed + n) 0 in
      let end = (remove-end kind).1 in
      let context : Bytes = part_at s (front_fixed + n + 1) (dot_size * k) in
      rw (kind, kind) (omega (arith, length-remove (part_at s front_fixed n) (dots_of context), length-dots_of context, part_length s front_fixed n (omega arith), part_length s (front_fixed + n + 1) (dot_size * k) (omega arith)))

  -- the bytes are as many as those of the message that they say
  pub shape-length : length (message_bytes (name_of s) (message_of s)) ≡ length s
  shape-length = length-by (eqb (get_or s 5 0) add_kind) refl
