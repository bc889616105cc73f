-- A byte that is no type, or the key of its type.
use borrow.Author.Rules.{rules}
use Rattle.std.specs.Prelude.{Ok, Err}
use Rattle.capi.proofs.Formats.{no_kind, key-written}
use Rattle.capi.proofs.ptl_write_key.Goals as goal

pub returns-in_default : goal.returns-in_default
returns-in_default c = search (rules, no_kind)

pub returns-in-Ok-write_key : goal.returns-in-Ok-write_key
returns-in-Ok-write_key c =
    key-written c.args.kind c.args.name.now c.args.label.now c.args.actor c.args.counter c.args.out.now _ (search rules) _ (Ok _) (rw c.in-Ok-write_key.is at c.write_key.ensures)

pub returns-in-Err : goal.returns-in-Err
returns-in-Err c =
    rw c.from.ensures (key-written c.args.kind c.args.name.now c.args.label.now c.args.actor c.args.counter c.args.out.now _ (search rules) _ (Err _) (rw c.in-Err.is at c.write_key.ensures))
