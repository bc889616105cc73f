-- An accepted hand-off image with one byte changed is refused: where no test before it tells, the CRC does. Assumes nothing.
use Prim.Native.Nat.{ℕ, suc, ◌+◌, ◌-◌, ◌^◌, ◌≤◌, ◌<◌}
use mathlib.Core.Path.{◌≡◌, refl, sym, ap, ◌∙◌}
use mathlib.Core.Bool.{Bool, true, false, not}
use mathlib.Core.List.Memᴰ
use mathlib.Core.List.{[], ◌∷◌, ◌++◌}
use native.Mathlib.Decide.{dec_lt}
use native.Mathlib.Omega.{arith}
use lib.ListN.{length, take, drop, get_or, length-append}
use lib.Seq.{take-append_seam, drop-append_seam, get_or-append_seam, take-append-le, drop-append-le, take-append-add, drop-append-add}
use borrow.Author.Tests.{le-ltb}
use Rattle.wire.specs.Lists.{◌∈◌}
use Rattle.wire.specs.Bytes.{Bytes, AreBytes, big_endian, from_big_endian}
use Rattle.wire.proofs.Tests.{untrue}
use Rattle.wire.proofs.BigEndian.{from-big_endian}
use Rattle.wire.proofs.Fields.{bytes_take, bytes_drop}
use Rattle.crc.specs.Crc.{crc_of}
use Rattle.crc.proofs.Injections.{crc-fits, one_byte}
use Rattle.dots.specs.declared.Answer.TheVariants.{Damaged, NoMark, BadVersion, BadShape, BadChecksum}
use Rattle.dots.specs.Answer.{Refusals, number_of}
use Rattle.messages.specs.Read.{mark_ok}
use Rattle.store.specs.Valid.{store_most}
use Rattle.calls.specs.Calls.{Result, fresh_state, decided}
use Rattle.calls.specs.ImageRead.{version_ok, layout_of, shape_ok, crc_ok}
use Rattle.calls.specs.HandOff.{actor_refusals, loaded_at, load_result}
use Rattle.calls.specs.HandedOff.{OneByteRefused}
use Rattle.calls.proofs.ImageCrc.{crc-told}
use Rattle.calls.proofs.Loading.{load-done}

-- ---- the CRC tells

-- a number of four bytes is told by them
four_tell : (m n : ℕ) → m < 256 ^ 4 → n < 256 ^ 4 → big_endian 4 m ≡ big_endian 4 n → m ≡ n
four_tell m n h k e = sym (from-big_endian 4 m h) ∙ ap from_big_endian e ∙ from-big_endian 4 n k

-- the bytes from a place on are the CRC of those before it
abbrev CrcAt : ℕ → Bytes → Type 0
CrcAt n s = drop n s ≡ big_endian 4 (crc_of (take n s))

module _ (xs ys : Bytes) where
  -- the bytes with x at the place of the changed one
  abbrev with : ℕ → Bytes
  with x = xs ++ (x ∷ ys)

  from_byte : (x : ℕ) → AreBytes (with x) → AreBytes (x ∷ ys)
  from_byte x small = rw (drop-append_seam xs (x ∷ ys)) at (bytes_drop (with x) (length xs) small)

  module _ (a b : ℕ) (small-a : AreBytes (with a)) (small_b : AreBytes (with b)) (differ : a ≡ b → ⊥) where
    -- the changed byte is one of the CRC: those before it have the same CRC
    in_crc : (n : ℕ) → n ≤ length xs → CrcAt n (with a) → CrcAt n (with b) → ⊥
    in_crc n h first second =
        let crc : (x : ℕ) → CrcAt n (with x) → drop n xs ++ (x ∷ ys) ≡ big_endian 4 (crc_of (take n xs)) = λ x e. rw (drop-append-le n xs (x ∷ ys) h, take-append-le n xs (x ∷ ys) h) at e in
        let same : drop n xs ++ (a ∷ ys) ≡ drop n xs ++ (b ∷ ys) = crc a first ∙ sym (crc b second) in
        differ (sym (get_or-append_seam (drop n xs) a ys 0) ∙ ap (λ (t : Bytes). get_or t (length (drop n xs)) 0) same ∙ get_or-append_seam (drop n xs) b ys 0)

    -- it stands before the CRC: the CRCs differ
    before-crc : (m : ℕ) → CrcAt (length xs + suc m) (with a) → CrcAt (length xs + suc m) (with b) → ⊥
    before-crc m first second =
        let crc : (x : ℕ) → CrcAt (length xs + suc m) (with x) → drop m ys ≡ big_endian 4 (crc_of (xs ++ (x ∷ take m ys))) =
        λ x e. rw (drop-append-add xs (x ∷ ys) (suc m), take-append-add xs (x ∷ ys) (suc m)) at e in
        let fits : (x : ℕ) → AreBytes (with x) → crc_of (xs ++ (x ∷ take m ys)) < 256 ^ 4 =
        λ x small. crc-fits (xs ++ (x ∷ take m ys)) (rw (take-append-add xs (x ∷ ys) (suc m)) at (bytes_take (with x) (length xs + suc m) small)) in
        let front : AreBytes xs = rw (take-append_seam xs (a ∷ ys)) at (bytes_take (with a) (length xs) small-a) in
        let rest : AreBytes (take m ys) = bytes_take ys m (λ i. from_byte a small-a (suc i)) in
        one_byte xs (take m ys) a b front rest (from_byte a small-a 0) (from_byte b small_b 0) differ
        (four_tell _ _ (fits a small-a) (fits b small_b) (sym (crc a first) ∙ crc b second))

    not_both : (n : ℕ) → CrcAt n (with a) → CrcAt n (with b) → ⊥
    not_both n first second = elim (dec_lt (length xs) n) [
      | yes h ↦ let e : n ≡ length xs + suc (n - length xs - 1) = omega arith in before-crc (n - length xs - 1) (rw e at first) (rw e at second)
      | no h ↦ in_crc n (omega arith) first second
    ]

    crc-tells : crc_ok (with a) ≡ true → crc_ok (with b) ≡ false
    crc-tells ok =
        let long : length (with b) ≡ length (with a) = rw (length-append, length-append) in
        untrue (crc_ok (with b)) (λ also. not_both (length (with a) - 4) (crc-told (with a) ok) (rw long at (crc-told (with b) also)))

-- ---- the answer

-- where the CRC is wrong, it or a test before it answers
told-by : (store : Bytes) (more : Refusals) (done : Result) (mark version shape : Bool)
    → number_of (decided (fresh_state 0 []) store [] ((false, Damaged) ∷ (not mark, NoMark) ∷ (not version, BadVersion) ∷ (not shape, BadShape) ∷ (true, BadChecksum) ∷ more) done).answer
    ∈ (2 ∷ 3 ∷ 4 ∷ 14 ∷ [])
told-by store more done false version shape = Memᴰ.head refl
told-by store more done true false shape = Memᴰ.tail (Memᴰ.head refl)
told-by store more done true true false = Memᴰ.tail (Memᴰ.tail (Memᴰ.head refl))
told-by store more done true true true = Memᴰ.tail (Memᴰ.tail (Memᴰ.tail (Memᴰ.head refl)))

pub one_byte_refused : OneByteRefused
unfolding load_result
one_byte_refused actor xs ys a b store small-a small_b differ acc =
    let l = (load-done actor (xs ++ (a ∷ ys)) store acc).1 in
    let s : Bytes = xs ++ (b ∷ ys) in
    rw (le-ltb store_most (length store) l.short, crc-tells xs ys a b small-a small_b differ l.checked)
    (told-by store (actor_refusals actor (length store) s (layout_of s)) (loaded_at actor s store (layout_of s)) (mark_ok s) (version_ok s) (shape_ok s (layout_of s)))
