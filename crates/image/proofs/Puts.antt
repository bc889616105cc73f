-- Fields of an image put one after the other, and a whole image. Assumes nothing.
use Prim.Native.Nat.{ℕ, ◌+◌, ◌/◌, ◌≤◌}
use mathlib.Core.Path.{◌≡◌, sym, ap, ◌∙◌}
use mathlib.Core.List.{List, [], ◌∷◌, ◌++◌, append_assoc}
use native.Mathlib.Omega.{arith}
use lib.ListN.{length, take, drop, length-append}
use lib.Seq.{take_at}
use Rattle.wire.specs.Bytes.{Bytes, big_endian, put_at}
use Rattle.wire.proofs.BigEndian.{length-big_endian}
use Rattle.wire.proofs.Fields.{put_next, put_front}
use Rattle.crc.specs.Crc.{crc_of}
use Rattle.dots.specs.Dots.{actor_most}
use Rattle.dots.specs.Wire.{dot_size}
use Rattle.clock.specs.declared.Row.{Row}
use Rattle.clock.specs.Code.{row_of}
use Rattle.messages.specs.Message.{front_fixed}
use Rattle.calls.specs.Image.{image_version, row_size, row_bytes, rows_bytes, image_front, image_rest, with_crc}
use Rattle.calls.proofs.ImageRows.{length-rows}
use Rattle.calls.proofs.ImageCrc.{length-with_crc}
use Rattle.calls.proofs.ImageTrip.{length_body}
use Rattle.image.specs.Sizes.{window_size, rows_size, actor_fixed, rest_fixed, image_fixed}
use Rattle.image.specs.Writing.{image_of, PutsImage}

-- ---- two fields

module _ (s t u : Bytes) (at next : ℕ) where
  pub row_put_both : (r : Row) → t ≡ put_at s at (big_endian 8 r.base) → next ≡ at + 8 → u ≡ put_at t next (big_endian 8 r.window) → at + row_size window_size ≤ length s
      → u ≡ put_at s at (row_bytes window_size (row_of r))
  row_put_both r e n f fits = put_next s t u (big_endian 8 r.base) (big_endian 8 r.window) at next e (n ∙ rw (length-big_endian 8 r.base)) f (omega arith)

  pub keys-put : (keys : Bytes) → t ≡ put_at s at (big_endian 4 (length keys)) → next ≡ at + 4 → u ≡ put_at t next keys → at + 4 + length keys ≤ length s
      → u ≡ put_at s at (big_endian 4 (length keys) ++ keys)
  keys-put keys e n f fits = put_next s t u (big_endian 4 (length keys)) keys at next e (n ∙ rw (length-big_endian 4 (length keys))) f (omega arith)

pub front-put : (s t u name : Bytes) (actor next : ℕ) → t ≡ put_at s 0 (image_front image_version name) → next ≡ front_fixed + length name → u ≡ put_at t next (actor ∷ [])
    → actor_fixed + length name ≤ length s → u ≡ put_at s 0 (image_front image_version name ++ (actor ∷ []))
front-put s t u name actor next e n f fits = put_next s t u (image_front image_version name) (actor ∷ []) 0 next e (omega arith) f (omega arith)

-- ---- all fields

module _ (words : List ℕ) (tombstone keys : Bytes) where
  pub rest_put : (s t u v : Bytes) (at n₁ n₂ : ℕ) → t ≡ put_at s at (rows_bytes window_size actor_most words) → n₁ ≡ at + rows_size
      → u ≡ put_at t n₁ (length tombstone / dot_size ∷ tombstone) → n₂ ≡ n₁ + 1 + length tombstone → v ≡ put_at u n₂ (big_endian 4 (length keys) ++ keys)
      → at + rest_fixed + length tombstone + length keys ≤ length s → v ≡ put_at s at (image_rest image_version words tombstone keys)
  unfolding image_rest
  rest_put s t u v at n₁ n₂ e n f m g fits =
      let rows : Bytes = rows_bytes window_size actor_most words in
      let buried : Bytes = length tombstone / dot_size ∷ tombstone in
      let long : length rows ≡ rows_size = length-rows window_size actor_most words in
      let first : u ≡ put_at s at (rows ++ buried) = put_next s t u rows buried at n₁ e (rw long n) f (omega arith) in
      put_next s u v (rows ++ buried) (big_endian 4 (length keys) ++ keys) at n₂ first (rw (length-append rows buried, long) (omega arith)) g (omega arith)
      ∙ rw append_assoc

  pub image-put : (s t u v : Bytes) (n₁ n₂ r actor : ℕ) (name : Bytes) → t ≡ put_at s 0 (image_front image_version name ++ (actor ∷ [])) → n₁ ≡ actor_fixed + length name
      → u ≡ put_at t n₁ (image_rest image_version words tombstone keys) → n₂ ≡ n₁ + rest_fixed + length tombstone + length keys
      → v ≡ put_at u n₂ (big_endian 4 (crc_of (take n₂ u))) → r ≡ n₂ + 4 → image_fixed + length name + length tombstone + length keys ≤ length s
      → PutsImage (image_of actor name words tombstone keys) s v r
  image-put s t u v n₁ n₂ r actor name e n f m g z fits =
      let front : Bytes = image_front image_version name ++ (actor ∷ []) in
      let rest : Bytes = image_rest image_version words tombstone keys in
      let body : Bytes = image_front image_version name ++ (actor ∷ rest) in
      let size : length body ≡ n₂ = length_body actor name words tombstone keys ∙ omega arith in
      let first : n₁ ≡ 0 + length front = rw (length-append (image_front image_version name) (actor ∷ [])) (omega arith) in
      let put : u ≡ put_at s 0 body = put_next s t u front rest 0 n₁ e first f (omega arith) ∙ ap (put_at s 0) (append_assoc (image_front image_version name) (actor ∷ []) rest) in
      let stands : take n₂ u ≡ body = ap (take n₂) (put ∙ put_front s body) ∙ take_at body (drop (length body) s) n₂ size in
      let whole : v ≡ put_at s 0 (with_crc body) = put_next s u v body (big_endian 4 (crc_of body)) 0 n₂ put (omega arith) (rw stands at g) (omega arith) in
      record { size = z ∙ sym (length-with_crc body ∙ ap (λ (k : ℕ). k + 4) size); bytes = whole ∙ put_front s (with_crc body) }
