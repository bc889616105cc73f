--
use Rattle.std.proofs.Common.{sym, rules}
use Rattle.clock.specs.Row.{window_width}
use Rattle.clock.specs.Code.{row_of}
use Rattle.clock.proofs.Rows.{odd_window, enough_room, less_room}
use Rattle.clock.proofs.Row.is_well_formed.Goals as goal

pub returns-then-window-ne0 : goal.returns-then-window-ne0
returns-then-window-ne0 c = sym (odd_window window_width (row_of c.args.self) (search rules) c.if-window-ne0.true)

pub returns-then-room-ge-WINDOW_WIDTH : goal.returns-then-room-ge-WINDOW_WIDTH
returns-then-room-ge-WINDOW_WIDTH c = sym (enough_room window_width (row_of c.args.self) (search rules) c.if-window-ne0.false c.if-room-ge-WINDOW_WIDTH.true (search rules))

pub returns : goal.returns
returns c = sym (less_room window_width (row_of c.args.self) (search rules) c.if-window-ne0.false c.if-room-ge-WINDOW_WIDTH.false)
