-- An early refusal, or what the fields leave.
use Rattle.image.proofs.Tables.{early-not_loaded, early-loaded, early-named, early-few}
use Rattle.image.proofs.load.Goals as goal

pub returns-in-Err : goal.returns-in-Err
returns-in-Err c = early-not_loaded c.args.actor c.args.image.now c.args.store.now _ c.in-Err.ensures _ c.fresh_state-state.ensures

pub invariant_of-fields : goal.invariant_of-fields
invariant_of-fields c = record { named = early-named c.args.actor c.args.image.now c.args.store.now _ c.load_answer.ensures _ c.in_default.is _ c.layout_of-places.ensures.0 c.layout_of-places.ensures.1 }

pub load_fields-answer-requires : goal.load_fields-answer-requires
load_fields-answer-requires c = (c.fresh_state-state.ensures, early-few c.args.actor c.args.image.now c.args.store.now _ c.load_answer.ensures _ c.in_default.is _ c.layout_of-places.ensures.0)

pub returns : goal.returns
returns c = early-loaded c.args.actor c.args.image.now c.args.store.now _ c.load_answer.ensures _ c.in_default.is _ c.layout_of-places.ensures.0 _ _ c.load_fields-answer.ensures
