-- The layout that the places of a message's fields are.
use Rattle.messages.specs.declared.places.Places.{Places}
use Rattle.messages.specs.Read.{Layout}
use Rattle.messages.specs.Layouts.{laid}

abbrev pub laid_in : Places → Layout
laid_in l = laid l.kind l.name l.label l.dot l.context
