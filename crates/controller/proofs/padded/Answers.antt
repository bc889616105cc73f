-- The bytes, and zeros after them.
use Rattle.wire.proofs.Fields.{put-zeros}
use Rattle.controller.proofs.padded.Goals as goal

pub returns : goal.returns
returns g c = put-zeros g.row.N c.args.front.now _ c.put.ensures.1
