-- Where the labels' last bytes differ, or no such byte is left, the next key has another label; else the test is the definition's.
use mathlib.Core.Path.{◌≡◌, sym, ap, ◌∙◌}
use mathlib.Core.Bool.{Bool, true, false}
use Prim.Native.Nat.{ℕ, ◌+◌, ◌-◌, ◌≤◌, ◌<◌}
use native.Mathlib.Omega.{arith}
use lib.ListN.{length, take, drop, get_or, length-append, length-drop}
use lib.Seq.{take_at, get_or-take, get_or-drop}
use lib.Dec.{leb}
use borrow.Author.Tests.{le-leb}
use Rattle.wire.specs.Bytes.{Bytes, part_at, starts_with}
use Rattle.wire.proofs.Tests.{untrue, both_right}
use Rattle.wire.proofs.Parts.{rest_part}
use Rattle.wire.proofs.Fields.{part_length}
use Rattle.wire.proofs.ByteOrder.{starts-split}
use Rattle.keys.specs.Key.{prefix_fixed}
use Rattle.listing.specs.declared.ListedLine.{ListedLine}
use Rattle.listing.specs.Lines.{goes_on}
use borrow.Author.Rules.{rules}
use Rattle.listing.proofs.Listing.goes_on.Goals as goal

module _ (n : ℕ) (keys : Bytes) (l : ListedLine) (some : 1 ≤ l.len) (closed : n + prefix_fixed + (l.len + 1) ≤ length keys) where
  abbrev from : ℕ
  from = n + prefix_fixed

  abbrev last : ℕ
  last = from + (l.len - 1)

  abbrev label : Bytes
  label = part_at keys from (l.len + 1)

  abbrev next : Bytes
  next = drop (l.end + from) keys

  long : length label ≡ l.len + 1
  long = part_length keys from (l.len + 1) closed

  starts : goes_on n keys l ≡ true → starts_with label next ≡ true
  unfolding goes_on
  starts t = both_right (leb (l.end + from) (length keys)) (starts_with label next) t

  none_left : length keys ≤ l.end + last → false ≡ goes_on n keys l
  none_left h = sym (untrue (goes_on n keys l) (λ t.
      let size = ap length (starts-split label next (starts t)) in
      let sum = length-append label (drop (length label) next) in
      omega (arith, long, length-drop (l.end + from) keys)))

  front : goes_on n keys l ≡ true → take (l.len + 1) next ≡ label
  front t = ap (take (l.len + 1)) (sym (starts-split label next (starts t))) ∙ take_at label (drop (length label) next) (l.len + 1) long

  last-same : goes_on n keys l ≡ true → get_or keys (l.end + last) 0 ≡ get_or keys last 0
  last-same t =
      let i : ℕ = l.len - 1 in
      let below : i < l.len + 1 = omega arith in
      let here : get_or label i 0 ≡ get_or keys last 0 = get_or-take (l.len + 1) (drop from keys) i 0 below ∙ get_or-drop from keys i 0 in
      let there : get_or (take (l.len + 1) next) i 0 ≡ get_or keys (l.end + from + i) 0 = get_or-take (l.len + 1) next i 0 below ∙ get_or-drop (l.end + from) keys i 0 in
      let place : l.end + last ≡ l.end + from + i = omega arith in
      ap (λ (k : ℕ). get_or keys k 0) place ∙ sym there ∙ ap (λ (s : Bytes). get_or s i 0) (front t) ∙ here

  last-differs : (get_or keys (l.end + last) 0 ≡ get_or keys last 0 → ⊥) → false ≡ goes_on n keys l
  last-differs f = sym (untrue (goes_on n keys l) (λ t. f (last-same t)))

  tested : (r : Bool) → l.end + last < length keys → r ≡ starts_with (take (last + 2 - from) (drop from keys)) (take (length keys - (l.end + from)) next) → r ≡ goes_on n keys l
  unfolding goes_on
  tested r h said =
      let size : last + 2 - from ≡ l.len + 1 = omega arith in
      said ∙ rw (size, rest_part, le-leb (l.end + from) (length keys) (omega arith))

pub returns-then-keys-next_last : goal.returns-then-keys-next_last
returns-then-keys-next_last c = search (rules, none_left)

pub returns-then-keys-next_last-2 : goal.returns-then-keys-next_last-2
returns-then-keys-next_last-2 c = search (rules, last-differs)

pub returns : goal.returns
returns c = search (rules, tested)
