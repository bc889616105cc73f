-- The test follows the bytes.
use Prim.Native.Nat.{ℕ, ◌+◌}
use mathlib.Core.Path.{◌≡◌}
use mathlib.Core.Bool.{◌&&◌}
use lib.Dec.{leb, eqb}
use Rattle.wire.specs.Bytes.{Bytes, byte_at}
use Rattle.keys.specs.declared.KeyKind.{KeyKind}
use Rattle.keys.specs.Key.{type_byte}
use Rattle.keys.specs.Read.{name_length}
use Rattle.keys.specs.Tests.{front_ok}
use Rattle.dots.specs.Names.{name_most}
use Rattle.keys.proofs.Named.front_ok.Goals as goal

tested : (s : Bytes) (t : KeyKind) (n a b c d : ℕ) → n ≡ name_length s → a ≡ byte_at s 0 → b ≡ byte_at s 1 → c ≡ byte_at s (n + 3) → d ≡ type_byte t
    → (eqb a 2 && eqb b 1 && (leb 1 n && leb n name_most) && eqb c d) ≡ front_ok t s
unfolding front_ok
tested s t n a b c d e f g h k = rw (f, g, h, k, e)

pub returns : goal.returns
returns c = tested c.args.self.bytes.now c.args.kind c.args.self.len _ _ _ _ c.args.self.named c.byte_at-magic.ensures c.byte_at-version.ensures c.byte_at-byte.ensures c.from.ensures
