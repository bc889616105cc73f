-- A late refusal, or what loading leaves.
use Rattle.image.proofs.Tables.{late-refused, late-loaded, late-loadable}
use borrow.Author.Rules.{rules}
use Rattle.image.proofs.load_fields.Goals as goal

pub returns-in-Err : goal.returns-in-Err
returns-in-Err c = late-refused c.args.actor c.args.image.bytes.now c.args.store.now c.args.image.places _ c.in-Err.ensures _ c.fresh_state.ensures

pub load_done-requires : goal.load_done-requires
load_done-requires c =
    (late-loadable c.args.actor c.args.image.bytes.now c.args.store.now c.args.image.places _ c.late_answer.ensures _ c.in_default.is c.requires.1, search rules)

pub returns : goal.returns
returns c = late-loaded c.args.actor c.args.image.bytes.now c.args.store.now c.args.image.places _ c.late_answer.ensures _ c.in_default.is _ _ c.load_done.ensures
