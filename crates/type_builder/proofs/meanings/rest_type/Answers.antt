use Rattle.descriptors.proofs.Drafting.{handed-on}
use Rattle.type_builder.proofs.Meant.{no-rest, rest-given, rest-stops}
use Rattle.type_builder.proofs.meanings.rest_type.Goals as goal

pub returns-in_err-t-in-Some : goal.returns-in_err-t-in-Some
returns-in_err-t-in-Some c =
    handed-on _ _ _ _ _ _ _ c.from_residual.ensures (rest-stops c.args.names.now c.args.scope c.args.rest.now c.in-Some.p c.in-Some.is _ _ _ _ c.deref.ensures c.in_err-t-in-Some.ensures)

pub returns-in-None : goal.returns-in-None
returns-in-None c = no-rest c.args.names.now c.args.scope c.args.rest.now _ c.in-None.is

pub returns-in_ok-t-in-Some : goal.returns-in_ok-t-in-Some
returns-in_ok-t-in-Some c = rest-given c.args.names.now c.args.scope c.args.rest.now c.in-Some.p c.in-Some.is _ _ _ _ c.deref.ensures c.in_ok-t-in-Some.ensures
