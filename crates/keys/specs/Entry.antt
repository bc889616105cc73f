-- Label keys: what the store holds for an entry.
use Rattle.std.specs.Prelude.{Bool, cond, ◌&&◌, [], ◌∷◌, ◌++◌}
use Rattle.std.proofs.Math.Option.{Option, none, some}
use Rattle.std.proofs.Math.Dec.{compare_is_eq}
use Rattle.wire.specs.Bytes.{Bytes, big_endian, compare_bytes}
use Rattle.dots.specs.declared.Dot.{Dot}
use Rattle.dots.specs.Names.{Name, label_ok}
use Rattle.dots.specs.Dots.{actor_of, dot_of, dot_ok}
use Rattle.dots.specs.Entries.{Entry, entry}
use Rattle.keys.specs.declared.KeyKind.TheVariants.{LabelKey}
use Rattle.keys.specs.Key.{Key, key_of, key_bytes}
use Rattle.keys.specs.Read.{fields_as, is_key}

-- label and dot keep their rules
unfoldable pub entry_ok : Entry → Bool
entry_ok e = label_ok e.label && dot_ok e.dot

abbrev pub label_key_of : Name → Entry → Key
label_key_of name e = key_of LabelKey name e.label e.dot.actor.number e.dot.counter.number

-- the key of an entry in a set
unfoldable pub entry_key : Name → Entry → Bytes
entry_key name e = key_bytes (label_key_of name e)

-- what every label key of a set begins with, and what follows its label
unfoldable pub prefix : Name → Bytes
prefix name = 0x02 ∷ 0x01 ∷ (name ++ (0 ∷ 0x65 ∷ []))

unfoldable pub suffix : Dot → Bytes
suffix d = 0 ∷ d.actor.number ∷ 0 ∷ big_endian 8 d.counter.number

-- "A label key is decoded into its label, actor and counter"
abbrev pub entry_of : Key → Entry
entry_of k = entry k.label (dot_of (actor_of k.actor) k.counter)

-- the entry that bytes are the key of in a set, if they are one
unfoldable pub key_entry : Name → Bytes → Option Entry
key_entry name s = let k = fields_as LabelKey s in cond (is_key LabelKey s && compare_is_eq (compare_bytes k.name name)) (some (entry_of k)) none
