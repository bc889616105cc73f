-- What the key of an entry says: the label between the type byte and the last 11 bytes, and the dot at the end. Assumes nothing.
use Rattle.std.proofs.Common.{◌≡◌, ℕ, ◌+◌, ◌-◌, true, List, [], ◌∷◌, ◌++◌, map, length, drop, sym, refl, ◌∙◌, ap₂, append_assoc, append-nil, arith, length-append, take_at, drop_at}
use Rattle.wire.specs.Lists.{all}
use Rattle.wire.specs.Bytes.{Bytes, big_endian}
use Rattle.wire.proofs.Tests.{both_left, both_right}
use Rattle.wire.proofs.Fields.{byte_on, number-on}
use Rattle.dots.specs.declared.Dot.{Dot}
use Rattle.dots.specs.Names.{Name, label_ok}
use Rattle.dots.specs.Dots.{dot_ok}
use Rattle.dots.specs.Entries.{Entry, entry, entry_dot}
use Rattle.dots.proofs.RoundTrip.{counter-fits}
use Rattle.keys.specs.Entry.{entry_ok, entry_key, prefix, suffix}
use Rattle.keys.proofs.EntryKeys.{entry_key_parts, length_entry_key, length-prefix}
use Rattle.store.specs.Cut.{key_label, key_dot, key_says}
use Rattle.keys.specs.Key.{label_key_fixed, suffix_size, prefix_fixed}

module _ (name : Name) (e : Entry) where
  -- what follows the prefix of a key
  after-prefix : drop (length name + prefix_fixed) (entry_key name e) ≡ e.label ++ suffix e.dot
  after-prefix = rw entry_key_parts (drop_at (prefix name) (e.label ++ suffix e.dot) (length name + prefix_fixed) (length-prefix name))

  pub label_said : key_label (length name) (entry_key name e) ≡ e.label
  unfolding key_label
  label_said =
      let size : length (entry_key name e) - (length name + label_key_fixed) ≡ length e.label = rw length_entry_key (omega arith) in
      rw (size, after-prefix) (take_at e.label (suffix e.dot) (length e.label) refl)

  -- what follows the label
  after-label : drop (length name + prefix_fixed + length e.label) (entry_key name e) ≡ suffix e.dot
  after-label =
      let size : length (prefix name ++ e.label) ≡ length name + prefix_fixed + length e.label = rw (length-append, length-prefix) in
      rw (entry_key_parts, ← append_assoc (prefix name) e.label (suffix e.dot)) (drop_at (prefix name ++ e.label) (suffix e.dot) (length name + prefix_fixed + length e.label) size)

  pub dot_said : entry_ok e ≡ true → key_dot (entry_key name e) ≡ e.dot
  unfolding key_dot suffix entry_ok
  dot_said ok =
      let k : Bytes = entry_key name e in
      let d : Dot = e.dot in
      let at : ℕ = length name + prefix_fixed + length e.label in
      let counter : Bytes = big_endian 8 d.counter.number in
      let closing = byte_on k at 0 (d.actor.number ∷ 0 ∷ counter) after-label in
      let actor = byte_on k (at + 1) d.actor.number (0 ∷ counter) closing.1 in
      let second = byte_on k (at + 1 + 1) 0 counter actor.1 in
      let number = number-on k 8 (at + 1 + 1 + 1) d.counter.number [] (counter-fits d (both_right (label_ok e.label) (dot_ok d) ok)) (second.1 ∙ sym (append-nil counter)) in
      let ten : length k - (suffix_size - 1) ≡ at + 1 = rw length_entry_key (omega arith) in
      let eight : length k - 8 ≡ at + 1 + 1 + 1 = rw length_entry_key (omega arith) in
      rw (ten, eight, actor.0, number.0)

  pub entry_said : entry_ok e ≡ true → key_says (length name) (entry_key name e) ≡ e
  entry_said ok = ap₂ entry label_said (dot_said ok)

pub entries_said : (name : Name) (es : List Entry) → all entry_ok es ≡ true → map (key_says (length name)) (map (entry_key name) es) ≡ es
unfolding all
entries_said name [] ok = refl
entries_said name (e ∷ es) ok = ap₂ ◌∷◌ (entry_said name e (both_left (entry_ok e) (all entry_ok es) ok)) (entries_said name es (both_right (entry_ok e) (all entry_ok es) ok))

pub dots_said : (name : Name) (es : List Entry) → all entry_ok es ≡ true → map key_dot (map (entry_key name) es) ≡ map entry_dot es
unfolding all
dots_said name [] ok = refl
dots_said name (e ∷ es) ok = ap₂ ◌∷◌ (dot_said name e (both_left (entry_ok e) (all entry_ok es) ok)) (dots_said name es (both_right (entry_ok e) (all entry_ok es) ok))
