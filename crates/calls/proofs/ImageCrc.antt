-- The CRC of a hand-off image: what is written is right, and what is right was written. Assumes nothing.
use Prim.Native.Nat.{◌+◌, ◌-◌}
use mathlib.Core.Path.{◌≡◌, ◌∙◌}
use mathlib.Core.Bool.{true}
use native.Mathlib.Omega.{arith}
use lib.ListN.{length, take, drop, length-append, take-append-drop}
use lib.Seq.{take-append_seam, drop-append_seam}
use Rattle.wire.specs.Bytes.{Bytes, big_endian}
use Rattle.wire.proofs.Tests.{pass}
use Rattle.wire.proofs.Lists.{tie-is}
use Rattle.wire.proofs.Orders.{bytes_lawful}
use Rattle.wire.proofs.BigEndian.{length-big_endian}
use Rattle.crc.specs.Crc.{crc_of}
use Rattle.calls.specs.Image.{with_crc}
use Rattle.calls.specs.ImageRead.{crc_ok}

pub length-with_crc : (body : Bytes) → length (with_crc body) ≡ length body + 4
length-with_crc body = length-append body (big_endian 4 (crc_of body)) ∙ rw (length-big_endian 4 (crc_of body))

pub crc-written : (body : Bytes) → crc_ok (with_crc body) ≡ true
unfolding crc_ok
crc-written body =
    let crc : Bytes = big_endian 4 (crc_of body) in
    let front : length (with_crc body) - 4 ≡ length body = omega (arith, length-with_crc body) in
    rw (front, take-append_seam body crc, drop-append_seam body crc, bytes_lawful.self crc)

module _ (s : Bytes) (ok : crc_ok s ≡ true) where
  pub crc-told : drop (length s - 4) s ≡ big_endian 4 (crc_of (take (length s - 4) s))
  unfolding crc_ok
  crc-told = bytes_lawful.tie _ _ (tie-is _ (pass ok))

  pub crc-back : with_crc (take (length s - 4) s) ≡ s
  crc-back = rw (← crc-told) (take-append-drop (length s - 4) s)
