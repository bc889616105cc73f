-- Messages: what goes round between the controllers of one set. Their bytes are in the crate `messages`.
use Rattle.std.specs.Prelude.{List, [], ◌∷◌}
use Rattle.dots.specs.declared.Dot.{Dot}
use Rattle.dots.specs.Names.{Label}
use Rattle.dots.specs.Dots.{Context}
use Rattle.dots.specs.Entries.{Entry, entry}

-- an add has a label, a dot and a context; a remove has a context
pub data Message : Type 0 where
  add : Label → Dot → Context → Message
  remove : Context → Message

abbrev pub context_of : Message → Context
context_of (add label dot context) = context
context_of (remove context) = context

-- the pair of label and dot of an add
abbrev pub pairs_of : Message → List Entry
pairs_of (add label dot context) = entry label dot ∷ []
pairs_of (remove context) = []

-- all dots that a message offers: an add's own, and the context
abbrev pub offered_of : Message → List Dot
offered_of (add label dot context) = dot ∷ context
offered_of (remove context) = context
