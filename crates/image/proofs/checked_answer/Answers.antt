-- The table follows the tests.
use Rattle.image.proofs.Tables.{field-table}
use Rattle.image.proofs.checked_answer.Goals as goal

pub returns : goal.returns
returns c = field-table c.args.image.bytes.now c.args.image.places c.args.actor _ _ _ _ _ c.crc_ok.ensures c.byte_at-writer.ensures c.actor_free-free.ensures c.writer_ok.ensures c.refused.ensures
