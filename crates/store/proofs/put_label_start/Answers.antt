-- The prefix, the label and its closing 00.
use Rattle.std.proofs.Common.{◌≡◌, ℕ, ◌+◌, ◌≤◌, [], ◌∷◌, ◌++◌, length, append_assoc, arith, length-append, rules}
use Rattle.wire.specs.Bytes.{Bytes, put_at}
use Rattle.wire.proofs.Fields.{put_next}
use Rattle.dots.specs.Names.{Name, Label}
use Rattle.keys.specs.Entry.{prefix}
use Rattle.keys.proofs.EntryKeys.{length-prefix}
use Rattle.store.specs.Place.{label_start}
use Rattle.keys.specs.Key.{prefix_fixed}
use Rattle.store.proofs.put_label_start.Goals as goal

module _ (s t u v : Bytes) (name : Name) (label : Label) (at end : ℕ) (fits : length name + length label + 5 ≤ length s)
    (front : t ≡ put_at s 0 (prefix name)) (at-is : at ≡ length name + prefix_fixed) (labelled : u ≡ put_at t at label) (end_is : end ≡ at + length label) (ended : v ≡ put_at u end (0 ∷ [])) where
  all-put : v ≡ put_at s 0 (label_start name label)
  unfolding label_start
  all-put =
      let size : length (prefix name) ≡ length name + prefix_fixed = length-prefix name in
      let two : u ≡ put_at s 0 (prefix name ++ label) = put_next s t u (prefix name) label 0 at front (omega arith) labelled (omega arith) in
      rw append_assoc at (put_next s u v (prefix name ++ label) (0 ∷ []) 0 end two (rw length-append (omega arith)) ended (omega arith))

pub returns : goal.returns
returns c = (search rules, search (rules, all-put))
