-- What the keys of the label begin with, the actor with the 00 after it, and the counter.
use Rattle.std.proofs.Common.{◌≡◌, ℕ, ◌+◌, ◌≤◌, [], ◌∷◌, ◌++◌, length, ap, ◌∙◌, append_assoc, arith, length-append, rules}
use Rattle.wire.specs.Bytes.{Bytes, big_endian, put_at}
use Rattle.wire.proofs.Fields.{put_next}
use Rattle.dots.specs.Names.{Name, Label}
use Rattle.dots.specs.declared.Dot.{Dot}
use Rattle.dots.specs.Entries.{entry}
use Rattle.keys.specs.Entry.{suffix, entry_key}
use Rattle.keys.proofs.EntryKeys.{entry_key_parts}
use Rattle.store.specs.Place.{label_start}
use Rattle.store.proofs.Starts.{length_label_start}
use Rattle.keys.specs.Key.{label_key_fixed}
use Rattle.store.proofs.put_key.Goals as goal

module _ (s t u v bytes : Bytes) (name : Name) (label : Label) (d : Dot) (at next : ℕ) (fits : length name + length label + label_key_fixed ≤ length s)
    (front : t ≡ put_at s 0 (label_start name label)) (at-is : at ≡ length name + length label + 5) (actor : u ≡ put_at t at (d.actor.number ∷ 0 ∷ [])) (next-is : next ≡ at + 2)
    (counter : bytes ≡ big_endian 8 d.counter.number) (counted : v ≡ put_at u next bytes) where
  all-put : v ≡ put_at s 0 (entry_key name (entry label d))
  unfolding label_start suffix
  all-put =
      let size : length (label_start name label) ≡ length name + length label + 5 = length_label_start name label in
      let two : u ≡ put_at s 0 (label_start name label ++ (d.actor.number ∷ 0 ∷ [])) = put_next s t u (label_start name label) (d.actor.number ∷ 0 ∷ []) 0 at front (omega arith) actor (omega arith) in
      let three : v ≡ put_at s 0 (label_start name label ++ (d.actor.number ∷ 0 ∷ []) ++ bytes) = put_next s u v (label_start name label ++ (d.actor.number ∷ 0 ∷ [])) bytes 0 next two (rw length-append (omega arith)) counted (omega arith) in
      three ∙ ap (put_at s 0) (rw (counter, entry_key_parts) (simp append_assoc))

pub returns : goal.returns
returns c = (search rules, search (rules, all-put))
