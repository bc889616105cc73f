-- Each field goes out as it was read; of a refusal all are 0.
use Rattle.capi.proofs.Formats.{message-read, no-message-read}
use Rattle.capi.proofs.ptl_read_message.Goals as goal

pub returns-in-Ok : goal.returns-in-Ok
returns-in-Ok c = message-read c.args.bytes.now c.in-Ok.message _ (rw c.in-Ok.is at c.read_message.ensures) c.from.ensures

pub returns-in-Err : goal.returns-in-Err
returns-in-Err c = no-message-read c.args.bytes.now c.in-Err.answer _ (rw c.in-Err.is at c.read_message.ensures) c.from-in-Err.ensures
