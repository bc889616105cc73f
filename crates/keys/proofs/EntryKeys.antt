-- The keys of entries: their parts, their lengths, their round trip, and their order. Assumes nothing.
use mathlib.Core.Path.{◌≡◌, refl, ap, ◌∙◌}
use mathlib.Core.Bool.{Bool, true, false, cond, ◌&&◌}
use mathlib.Core.List.{◌++◌, append_assoc}
use mathlib.Core.Option.{none, some}
use Prim.Native.Nat.{ℕ, ◌+◌}
use native.Mathlib.Omega.{arith}
use lib.Dec.{compare_is_eq}
use lib.ListN.{length, length-append}
use Rattle.wire.specs.Lists.{then}
use Rattle.wire.specs.Bytes.{Bytes, compare_bytes}
use Rattle.wire.proofs.Tests.{both, pass}
use Rattle.wire.proofs.Lists.{tie-is}
use Rattle.wire.proofs.Orders.{bytes_lawful}
use Rattle.wire.proofs.BigEndian.{length-big_endian}
use Rattle.wire.proofs.ByteOrder.{compare_common, compare_ended}
use Rattle.dots.specs.declared.Dot.{Dot}
use Rattle.dots.specs.Names.{Name, name_ok, label_ok, label_most}
use Rattle.dots.specs.Dots.{dot_ok, actor_ok, counter_ok}
use Rattle.dots.specs.Entries.{Entry, compare_entries}
use Rattle.dots.proofs.Rules.{valid}
use Rattle.dots.proofs.RoundTrip.{counter-fits}
use Rattle.keys.specs.declared.KeyKind.TheVariants.{LabelKey}
use Rattle.keys.specs.Key.{Key, names_ok, key_counter_ok, after_type, key_bytes, label_key_fixed, suffix_size, prefix_fixed}
use Rattle.keys.specs.Read.{fields_as, is_key}
use Rattle.keys.specs.Entry.{entry_ok, label_key_of, entry_key, prefix, suffix, entry_of, key_entry}
use Rattle.keys.specs.Parts.{actor_counter}
use Rattle.keys.proofs.Texts.{text_nonzero}
use Rattle.keys.proofs.KeyOrder.{tail-order}
use Rattle.keys.proofs.Valid.{ValidKey, made-valid, name-ok}
use Rattle.keys.proofs.Lengths.{length_label_key}
use Rattle.keys.proofs.RoundTrip.{fields_written, is_key_written, is_key_read}

-- ---- their parts and lengths

pub entry_key_parts : (name : Name) (e : Entry) → entry_key name e ≡ prefix name ++ (e.label ++ suffix e.dot)
unfolding entry_key key_bytes after_type prefix suffix
entry_key_parts name e = rw append_assoc

pub length_entry_key : (name : Name) (e : Entry) → length (entry_key name e) ≡ length name + length e.label + label_key_fixed
unfolding entry_key
length_entry_key name e = length_label_key name e.label e.dot.actor.number e.dot.counter.number

pub length-prefix : (name : Name) → length (prefix name) ≡ length name + prefix_fixed
unfolding prefix
length-prefix name = rw length-append (omega arith)

pub length-suffix : (d : Dot) → length (suffix d) ≡ suffix_size
unfolding suffix
length-suffix d = rw length-big_endian

-- ---- their round trip

module _ (name : Name) (e : Entry) (name-ok : name_ok name ≡ true) (ok : entry_ok e ≡ true) where
  pub entry-valid : ValidKey (label_key_of name e)
  unfolding entry_ok names_ok key_counter_ok dot_ok
  entry-valid =
      let label : label_ok e.label ≡ true = search both in
      let actor : actor_ok e.dot.actor.number ≡ true = search both in
      let counter : counter_ok e.dot.counter.number ≡ true = search both in
      made-valid LabelKey name e.label e.dot.actor.number e.dot.counter.number (rw (name-ok, label, actor)) counter

  pub entry-written : key_entry name (entry_key name e) ≡ some e
  unfolding key_entry entry_key
  entry-written = rw (fields_written (label_key_of name e) entry-valid, is_key_written (label_key_of name e) entry-valid, bytes_lawful.self name)

pub valid-entry : (name : Name) (e : Entry) → ValidKey (label_key_of name e) → entry_ok e ≡ true
unfolding entry_ok names_ok key_counter_ok dot_ok
valid-entry name e valid =
    let names : names_ok (label_key_of name e) ≡ true = valid.names in
    let label : label_ok e.label ≡ true = search both in
    let actor : actor_ok e.dot.actor.number ≡ true = search both in
    rw (label, actor) valid.counted

-- what a test that picks says
picked : {A : Type 0} (b : Bool) (x y : A) → cond b (some x) none ≡ some y → (b ≡ true) × (x ≡ y)
picked true x y h = (refl, cc)
picked false x y h = absurd (let z : ◌≡◌ {A = ℕ} 0 1 = cc in omega arith)

pub entry_read : (name s : Bytes) (e : Entry) → key_entry name s ≡ some e → (entry_key name e ≡ s) × (entry_ok e ≡ true) × (name_ok name ≡ true)
unfolding key_entry entry_key fields_as
entry_read name s e h =
    let k : Key = fields_as LabelKey s in
    let found = picked (is_key LabelKey s && compare_is_eq (compare_bytes k.name name)) (entry_of k) e h in
    let b : (is_key LabelKey s && compare_is_eq (compare_bytes k.name name)) ≡ true = found.0 in
    let read = is_key_read LabelKey s (search both) in
    let same : compare_is_eq (compare_bytes k.name name) ≡ true = search both in
    let named : k.name ≡ name = bytes_lawful.tie k.name name (tie-is (compare_bytes k.name name) (pass same)) in
    rw (← found.1, ← named) (read.1, valid-entry k.name (entry_of k) read.0, name-ok k read.0)

-- ---- their order

pub entry-order : (name : Name) (e f : Entry) → entry_ok e ≡ true → entry_ok f ≡ true → compare_bytes (entry_key name e) (entry_key name f) ≡ compare_entries e f
unfolding entry_ok suffix
entry-order name e f h k =
    let d : Dot = e.dot in
    let g : Dot = f.dot in
    rw (entry_key_parts name e, entry_key_parts name f)
    (compare_common (prefix name) (e.label ++ suffix d) (f.label ++ suffix g)
    ∙ compare_ended e.label f.label (actor_counter LabelKey d.actor.number d.counter.number) (actor_counter LabelKey g.actor.number g.counter.number) (text_nonzero label_most e.label (search both)) (text_nonzero label_most f.label (search both))
    ∙ ap (then (compare_bytes e.label f.label)) (tail-order LabelKey d.actor.number g.actor.number d.counter.number g.counter.number (counter-fits d (search both)) (counter-fits g (search both))))
