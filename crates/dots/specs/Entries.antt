-- Entries: what a stored label key says. Lines: what a listing says of each label.
use mathlib.Core.List.{List, [], ◌∷◌, map, flat_map}
use Rattle.std.specs.Prelude.{Bool, true, false}
use Prim.Native.Nat.{Ordering}
use Rattle.std.proofs.Math.Dec.{compare_is_eq}
use Rattle.wire.specs.Lists.{then}
use Rattle.wire.specs.Bytes.{compare_bytes}
use Rattle.dots.specs.Names.{Label}
use Rattle.dots.specs.declared.Dot.{Dot}
use Rattle.dots.specs.Dots.{compare_dots}

-- a pair of label and dot: of demand 3's rule, and of a stored key
pub record Entry : Type 0 where
  pub label : Label
  pub dot : Dot

abbrev pub entry : Label → Dot → Entry
entry l d = record { label = l; dot = d }

abbrev pub entry_dot : Entry → Dot
entry_dot e = e.dot

-- by label, then dot: the byte order of label keys
abbrev pub compare_entries : Entry → Entry → Ordering
compare_entries e f = then (compare_bytes e.label f.label) (compare_dots e.dot f.dot)

-- a line of a listing: a label and its dots
pub record Line : Type 0 where
  pub label : Label
  pub dots : List Dot

abbrev pub line : Label → List Dot → Line
line l ds = record { label = l; dots = ds }

-- an entry put into the first line, or made a line before it
abbrev pub prepend_to : Bool → Entry → Line → List Line → List Line
prepend_to true e l ls = line l.label (e.dot ∷ l.dots) ∷ ls
prepend_to false e l ls = line e.label (e.dot ∷ []) ∷ l ∷ ls

-- an entry in front of lines: into the first one where the label is the same
unfoldable pub prepend : Entry → List Line → List Line
prepend e [] = line e.label (e.dot ∷ []) ∷ []
prepend e (l ∷ ls) = prepend_to (compare_is_eq (compare_bytes e.label l.label)) e l ls

-- the lines of ascending entries: each label once, with its dots
unfoldable pub lines_of : List Entry → List Line
lines_of [] = []
lines_of (e ∷ es) = prepend e (lines_of es)

abbrev pub line_labels : List Line → List Label
line_labels = map (λ (l : Line). l.label)

-- the entries that lines stand for, line by line
abbrev pub entries_of : List Line → List Entry
entries_of = flat_map (λ (l : Line). map (entry l.label) l.dots)
