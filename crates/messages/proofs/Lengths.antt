-- How long messages are, and the longest. Assumes nothing.
use mathlib.Core.Path.{◌≡◌, refl}
use mathlib.Core.Bool.{true}
use mathlib.Core.List.{◌++◌}
use Prim.Native.Nat.{◌+◌, ◌*◌, ◌≤◌}
use native.Mathlib.Omega.{arith}
use lib.ListN.{length, length-append, replicate}
use borrow.Author.Tests.{leb-true}
use Rattle.wire.specs.Lists.{all, member, ascends, ascends_from}
use Rattle.wire.proofs.Tests.{both}
use Rattle.dots.specs.declared.Dot.{Dot}
use Rattle.dots.specs.Names.{Name, Label, name_most, label_most, text_ok, label_ok, label_prints}
use Rattle.dots.specs.Dots.{Context, context_most, actor_of, dot_of, consecutive, dot_ok, ascending_dots}
use Rattle.dots.specs.Wire.{dot_bytes, dot_size}
use Rattle.dots.specs.Message.{Message, add, remove}
use Rattle.dots.proofs.Rules.{prints-ok}
use Rattle.dots.proofs.RoundTrip.{length-dot, length-dots}
use Rattle.messages.specs.Message.{message_ok, message_bytes, message_most, counted, context_bytes, add_fixed, remove_fixed}

pub length-add : (name : Name) (label : Label) (d : Dot) (ds : Context) → length (message_bytes name (add label d ds)) ≡ length name + length label + dot_size * length ds + add_fixed
unfolding message_bytes
length-add name label d ds =
    omega (arith, length-append name (counted label ++ (dot_bytes d ++ context_bytes ds)), length-append label (dot_bytes d ++ context_bytes ds), length-append (dot_bytes d) (context_bytes ds), length-dot d, length-dots ds)

pub length-remove : (name : Name) (ds : Context) → length (message_bytes name (remove ds)) ≡ length name + dot_size * length ds + remove_fixed
unfolding message_bytes
length-remove name ds = omega (arith, length-append name (context_bytes ds), length-dots ds)

pub longest : (name : Name) (m : Message) → message_ok name m ≡ true → length (message_bytes name m) ≤ message_most
unfolding message_ok text_ok
longest name (add label d ds) ok =
    let n : length name ≤ name_most = leb-true _ _ (search both) in
    let text : label_ok label ≡ true = prints-ok label (search both) in
    let l : length label ≤ label_most = leb-true _ _ (search both) in
    let k : length ds ≤ context_most = leb-true _ _ (search both) in
    omega (arith, length-add name label d ds)
longest name (remove ds) ok =
    let n : length name ≤ name_most = leb-true _ _ (search both) in
    let k : length ds ≤ context_most = leb-true _ _ (search both) in
    omega (arith, length-remove name ds)

-- a message that has as many bytes
abbrev pub longest_name : Name
longest_name = replicate name_most 0x52

abbrev pub longest_add : Message
longest_add = add (replicate label_most 0x42) (dot_of (actor_of 2) 1) (consecutive (actor_of 1) 1 context_most)

pub longest-reached : (message_ok longest_name longest_add ≡ true) × (length (message_bytes longest_name longest_add) ≡ message_most)
unfolding message_ok text_ok label_prints all dot_ok ascending_dots ascends ascends_from member
longest-reached = (refl, length-add longest_name _ _ _)
