-- Each place follows from the length field before it.
use Prim.Native.Nat.{ℕ, ◌+◌, ◌*◌}
use mathlib.Core.Path.{◌≡◌}
use Rattle.wire.specs.declared.Span.{Span}
use Rattle.wire.specs.Bytes.{Bytes, byte_at, span, end_of}
use Rattle.dots.specs.Wire.{dot_size}
use Rattle.messages.specs.Read.{counted_at, dots_counted_at}
use Rattle.calls.specs.declared.ImageLayout.{ImageLayout}
use Rattle.calls.specs.ImageRead.{four_at, layout_of}
use Rattle.image.specs.Sizes.{rows_size}
use borrow.Author.Rules.{rules}
use Rattle.image.proofs.layout_of.Goals as goal

made : (s : Bytes) (name dots : Span) (count used : ℕ) → name ≡ counted_at s 6 → count ≡ byte_at s (end_of name + 1 + rows_size) → dots ≡ dots_counted_at s (end_of name + 1 + rows_size) → used ≡ four_at s (end_of dots)
    → ◌≡◌ {A = ImageLayout} (record { name = name; actor = end_of name; rows = end_of name + 1; count = count; dots = dots; keys = span (end_of dots + 4) used }) (layout_of s)
unfolding layout_of
made s name dots count used e f g h = rw (h, g, f, e)

nine : (s : Bytes) (at count : ℕ) (dots : Span) → count ≡ byte_at s at → dots ≡ dots_counted_at s at → dots.len ≡ dot_size * count
nine s at count dots e f = rw (f, e)

pub returns : goal.returns
returns c = (search (rules, made), record { name-at = search rules; name-len = search rules; actor = search rules; rows = search rules; count = search rules; dots-at = search rules; dots-len = search (rules, nine); keys-at = search rules; keys_len = search rules })
