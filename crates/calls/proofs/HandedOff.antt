-- What hand-off images promise; each promise is proved under its own name in Loading and ChangedByte. Assumes nothing.
use Rattle.calls.specs.HandedOff.{HandedOff}
use Rattle.calls.proofs.Loading.{loads-written, loaded-undamaged, written_again}
use Rattle.calls.proofs.ChangedByte.{one_byte_refused}

pub handed_off_lem : HandedOff
handed_off_lem = record { loads-written = loads-written; loaded-undamaged = loaded-undamaged; written_again = written_again; one_byte_refused = one_byte_refused }
