-- The tests are `is_key`.
use Prim.Native.Nat.{ℕ, ◌+◌}
use mathlib.Core.Path.{◌≡◌, sym}
use mathlib.Core.Bool.{Bool, ◌&&◌}
use lib.ListN.{drop}
use Rattle.wire.specs.Bytes.{Bytes, AreBytes}
use Rattle.keys.specs.declared.KeyKind.{KeyKind}
use Rattle.keys.specs.Key.{prefix_fixed}
use Rattle.keys.specs.Read.{name_length, is_key}
use Rattle.keys.specs.Tests.{front_ok, after_ok}
use Rattle.keys.proofs.KeyTests.{key_tests}
use Rattle.keys.proofs.Named.is_key.Goals as goal

tested : (s t : Bytes) (kind : KeyKind) (n : ℕ) (front after : Bool) → AreBytes s → n ≡ name_length s → front ≡ front_ok kind s → t ≡ drop (n + prefix_fixed) s → after ≡ after_ok kind t → (front && after) ≡ is_key kind s
tested s t kind n front after small e f g h = rw (f, h, g, e) (sym (key_tests kind s small))

pub returns : goal.returns
returns c = tested c.args.self.bytes.now _ c.args.kind c.args.self.len _ _ c.args.self.are_bytes c.args.self.named c.front_ok-front.ensures c.rest.ensures c.after_ok-after.ensures
