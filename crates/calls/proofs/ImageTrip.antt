-- A hand-off image and its parts say the same: what is written is read again, and what is read is written again. Assumes nothing.
use Prim.Native.Nat.{ℕ, ◌+◌, ◌-◌, ◌*◌, ◌/◌, ◌^◌, ◌≤◌, ◌<◌}
use mathlib.Core.Path.{◌≡◌, refl, sym, ap, ◌∙◌}
use mathlib.Core.Bool.{true}
use mathlib.Core.List.{List, ◌∷◌, ◌++◌, append_assoc}
use native.Mathlib.Omega.{arith}
use lib.ListN.{length, take, drop, length-append}
use lib.Seq.{take_at}
use borrow.Author.Tests.{eq-eqb, le-leb}
use Rattle.wire.specs.Bytes.{Bytes, AreBytes, byte_at, big_endian, number_at, part_at, part_of}
use Rattle.wire.proofs.BigEndian.{length-big_endian}
use Rattle.wire.proofs.Parts.{part-four}
use Rattle.wire.proofs.Fields.{byte_on, part-on, number-on, byte_back, part-back, number-back, part_length}
use Rattle.dots.specs.Names.{Name}
use Rattle.dots.specs.Dots.{actor_most}
use Rattle.dots.specs.Wire.{dot_size}
use Rattle.clock.specs.Clock.{clock_words}
use Rattle.messages.specs.Message.{front_fixed}
use Rattle.messages.specs.Read.{mark_ok, version_ok as message_version_ok}
use Rattle.messages.proofs.RoundTrip.{front-back}
use Rattle.crc.specs.Crc.{crc_of}
use Rattle.calls.specs.Image.{image_kind, image_version, window_bytes, row_size, rows_bytes, image_front, image_rest, with_crc}
use Rattle.calls.specs.ImageRead.{four_at, version_in, version_ok, layout_of, shape_ok, crc_ok, clock_in, writer_at}
use Rattle.calls.proofs.ImageRows.{RowsFit, length-rows, clock-on, clock-back}
use Rattle.calls.proofs.ImageShapes.{kind-is, shape-end}
use Rattle.calls.proofs.ImageCrc.{length-with_crc, crc-written, crc-back}

-- all that stands before the CRC
abbrev pub body_of : ℕ → Name → List ℕ → Bytes → Bytes → Bytes
body_of actor name words dots keys = image_front image_version name ++ (actor ∷ image_rest image_version words dots keys)

-- the bytes of a window, and of all rows
abbrev window_size : ℕ
window_size = window_bytes image_version

abbrev rows_size : ℕ
rows_size = actor_most * row_size window_size

module _ (actor : ℕ) (name : Name) (words : List ℕ) (dots keys : Bytes) where
  -- the fields one after the other, and what follows them
  abbrev fields_then : Bytes → Bytes
  fields_then left =
      image_front image_version name
      ++ (actor ∷ (rows_bytes window_size actor_most words ++ ((length dots / dot_size ∷ dots) ++ (big_endian 4 (length keys) ++ (keys ++ left)))))

  body_then : (left : Bytes) → body_of actor name words dots keys ++ left ≡ fields_then left
  unfolding image_rest
  body_then left = simp append_assoc

  pub length_body : length (body_of actor name words dots keys) ≡ front_fixed + length name + 1 + rows_size + 1 + length dots + 4 + length keys
  unfolding image_rest
  length_body =
      let last : Bytes = big_endian 4 (length keys) ++ keys in
      let buried : Bytes = (length dots / dot_size ∷ dots) ++ last in
      let rows : Bytes = rows_bytes window_size actor_most words in
      omega (
        arith,
        length-append (image_front image_version name) (actor ∷ (rows ++ buried)),
        length-append rows buried,
        length-rows window_size actor_most words,
        length-append dots last,
        length-append (big_endian 4 (length keys)) keys,
        length-big_endian 4 (length keys),
      )

-- four bytes that lie within the bytes are their number
four_is : (s : Bytes) (i : ℕ) → i + 4 ≤ length s → four_at s i ≡ number_at 4 s i
four_is s i h = rw (part-four s i h)

-- ---- written, then read

-- what reading finds in the image of these parts, k dots among them
pub record Written (s : Bytes) (actor : ℕ) (name : Name) (words : List ℕ) (dots : Bytes) (k : ℕ) (keys : Bytes) : Type 0 where
  pub marked : mark_ok s ≡ true
  pub version : version_ok s ≡ true
  pub shaped : shape_ok s (layout_of s) ≡ true
  pub checked : crc_ok s ≡ true
  pub actor-read : writer_at s (layout_of s) ≡ actor
  pub name-read : part_of s (layout_of s).name ≡ name
  pub name-len : (layout_of s).name.len ≡ length name
  pub words-read : clock_in (window_bytes (version_in s)) actor_most s (layout_of s).rows ≡ words
  pub dots-read : part_of s (layout_of s).dots ≡ dots
  pub count-read : (layout_of s).count ≡ k
  pub keys-read : part_of s (layout_of s).keys ≡ keys
  pub keys_len : (layout_of s).keys.len ≡ length keys

module _ (actor : ℕ) (name : Name) (words : List ℕ) (dots : Bytes) (k : ℕ) (keys : Bytes)
    (size : length words ≡ clock_words) (fit : RowsFit window_size words) (whole : length dots ≡ dot_size * k) (small : length keys < 256 ^ 4) where
  written : (s : Bytes) → s ≡ with_crc (body_of actor name words dots keys) → Written s actor name words dots k keys
  unfolding mark_ok version_ok layout_of shape_ok
  written s is =
      let n : ℕ = length name in
      let u : ℕ = length keys in
      let crc : Bytes = big_endian 4 (crc_of (body_of actor name words dots keys)) in
      let e : s ≡ fields_then actor name words dots keys crc = is ∙ body_then actor name words dots keys crc in
      let rows_at : ℕ = front_fixed + n + 1 in
      let dots-at : ℕ = rows_at + rows_size + 1 in
      let used-at : ℕ = dots-at + dot_size * k in
      let counted : length dots / dot_size ≡ k = omega arith in
      let kind : byte_at s 5 ≡ image_kind = rw e in
      let name-long : byte_at s 6 ≡ n = rw e in
      let text = part-on s front_fixed n name _ refl (ap (drop front_fixed) e) in
      let writer = byte_on s (front_fixed + n) actor _ text.1 in
      let clock = clock-on window_size s rows_at words fit _ size writer.1 in
      let count = byte_on s (rows_at + rows_size) (length dots / dot_size) _ clock.1 in
      let removed = part-on s dots-at (dot_size * k) dots _ whole count.1 in
      let used = number-on s 4 used-at u _ small removed.1 in
      let stored = part-on s (used-at + 4) u keys crc refl used.1 in
      let long : length s ≡ used-at + 4 + u + 4 =
      ap length is ∙ length-with_crc (body_of actor name words dots keys) ∙ omega (arith, length_body actor name words dots keys) in
      let used-four : four_at s used-at ≡ u = four_is s used-at (omega arith) ∙ used.0 in
      record {
        marked = rw (le-leb 5 (length s) (omega arith), e);
        version = rw e;
        shaped = rw (kind, name-long, count.0, counted, used-four, eq-eqb (used-at + 4 + u + 4) (length s) (sym long));
        checked = rw is (crc-written (body_of actor name words dots keys));
        actor-read = rw name-long writer.0;
        name-read = rw name-long text.0;
        name-len = name-long;
        words-read = rw name-long clock.0;
        dots-read = rw (name-long, count.0, counted) removed.0;
        count-read = rw name-long (count.0 ∙ counted);
        keys-read = rw (name-long, count.0, counted, used-four) stored.0;
        keys_len = rw (name-long, count.0, counted) used-four;
      }

  pub image-on : Written (with_crc (body_of actor name words dots keys)) actor name words dots k keys
  image-on = written (with_crc (body_of actor name words dots keys)) refl

-- ---- read, then written

-- the parts that the bytes hold
abbrev pub body_in : Bytes → Bytes
body_in s =
    let l = layout_of s in
    body_of (writer_at s l) (part_of s l.name) (clock_in (window_bytes (version_in s)) actor_most s l.rows) (part_of s l.dots) (part_of s l.keys)

module _ (s : Bytes) (small : AreBytes s) (marked : mark_ok s ≡ true) (version : version_ok s ≡ true) (shaped : shape_ok s (layout_of s) ≡ true) where
  body_front : body_in s ≡ take (length s - 4) s
  unfolding layout_of version_ok message_version_ok
  body_front =
      let n : ℕ = byte_at s 6 in
      let rows_at : ℕ = front_fixed + n + 1 in
      let count_at : ℕ = rows_at + rows_size in
      let dots-at : ℕ = count_at + 1 in
      let k : ℕ = byte_at s count_at in
      let used-at : ℕ = dots-at + dot_size * k in
      let u : ℕ = four_at s used-at in
      let end : used-at + 4 + u + 4 ≡ length s = shape-end s shaped in
      let name : Bytes = part_at s front_fixed n in
      let words : List ℕ = clock_in window_size actor_most s rows_at in
      let dots : Bytes = part_at s dots-at (dot_size * k) in
      let keys : Bytes = part_at s (used-at + 4) u in
      let left : Bytes = drop (used-at + 4 + u) s in
      let dots-long : length dots ≡ dot_size * k = part_length s dots-at (dot_size * k) (omega arith) in
      let keys-long : length keys ≡ u = part_length s (used-at + 4) u (omega arith) in
      let counted : length dots / dot_size ≡ k = omega arith in
      let from-used : big_endian 4 (length keys) ++ (keys ++ left) ≡ drop used-at s =
      rw (keys-long, part-back s (used-at + 4) u, four_is s used-at (omega arith)) (number-back s small 4 used-at (omega arith)) in
      let from-count : (length dots / dot_size ∷ dots) ++ (big_endian 4 (length keys) ++ (keys ++ left)) ≡ drop count_at s =
      rw (counted, from-used, part-back s dots-at (dot_size * k)) (byte_back s count_at (omega arith)) in
      let from-actor : writer_at s (layout_of s) ∷ (rows_bytes window_size actor_most words ++ ((length dots / dot_size ∷ dots) ++ (big_endian 4 (length keys) ++ (keys ++ left)))) ≡ drop (front_fixed + n) s =
      rw (from-count, clock-back window_size s small rows_at (omega arith)) (byte_back s (front_fixed + n) (omega arith)) in
      let all : body_in s ++ left ≡ s =
      body_then (writer_at s (layout_of s)) name words dots keys left ∙ front-back s small marked version image_kind _ (kind-is s shaped) (omega arith) from-actor in
      let name-long : length name ≡ n = part_length s front_fixed n (omega arith) in
      let long : length (body_in s) ≡ length s - 4 = length_body (writer_at s (layout_of s)) name words dots keys ∙ omega arith in
      sym (ap (take (length s - 4)) (sym all) ∙ take_at (body_in s) left (length s - 4) long)

  -- accepted bytes are the image of the parts that they hold
  pub image-back : crc_ok s ≡ true → with_crc (body_in s) ≡ s
  image-back checked = ap with_crc body_front ∙ crc-back s checked
