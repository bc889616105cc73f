-- Set names and labels.
use Rattle.std.specs.Prelude.{ℕ, Bool, ◌&&◌, leb, length}
use Rattle.wire.specs.Lists.{all}
use Rattle.wire.specs.Bytes.{Bytes, between}

abbrev pub Name : Type 0
Name = Bytes

abbrev pub Label : Type 0
Label = Bytes

-- 1 to `most` bytes, none of them 0
unfoldable pub text_ok : ℕ → Bytes → Bool
text_ok most text = between 1 most (length text) && all (leb 1) text

-- "Set name: 1 to 16 bytes"
abbrev pub name_most : ℕ
name_most = 16

abbrev pub name_ok : Name → Bool
name_ok = text_ok name_most

-- "Label: 1 to 32 bytes"
abbrev pub label_most : ℕ
label_most = 32

abbrev pub label_ok : Label → Bool
label_ok = text_ok label_most

-- Document 02, request 5: "own adds and add messages refuse with 5 any label byte outside 20 to 7E hexadecimal". Keys, stores, lookups and the starting
-- labels of pages keep the rule above: "A store that already holds such a label is not damaged by it and is still listed, looked up and compacted."
abbrev pub print_low : ℕ
print_low = 0x20

abbrev pub print_high : ℕ
print_high = 0x7E

abbrev pub prints : ℕ → Bool
prints = between print_low print_high

-- a label that an add may have: it keeps the rule of labels, and each of its bytes prints
unfoldable pub label_prints : Label → Bool
label_prints label = label_ok label && all prints label
