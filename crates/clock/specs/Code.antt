-- The code's row as the rules' row: its window as one number.
use Rattle.clock.specs.declared.Row.{Row as CodeRow}
use Rattle.clock.specs.Row.{Row}

abbrev pub row_of : CodeRow → Row
row_of r = record { base = r.base; window = r.window }
