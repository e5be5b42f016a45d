use Rattle.type_model.specs.declared.basic.Ty.{Ty}
use Rattle.type_model.specs.SameType.{IsSameType}
use Rattle.tested_types.proofs.Retold.{none-noted, some-noted}
use Rattle.tested_types.proofs.members.rest.Goals as goal

pub returns-in-None : goal.returns-in-None
returns-in-None c = none-noted (λ (m : Ty) u. IsSameType u m.sem) c.args.t.now _ c.in-None.is

pub returns-in-Some : goal.returns-in-Some
returns-in-Some c = some-noted (λ (m : Ty) u. IsSameType u m.sem) c.args.t.now c.in-Some.t _ _ _ c.in-Some.is c.note.ensures
