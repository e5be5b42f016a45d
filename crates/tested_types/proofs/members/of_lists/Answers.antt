use Rattle.std.specs.Prelude.{option_to_list}
use Rattle.type_model.specs.declared.basic.Ty.{Ty}
use Rattle.type_model.specs.SameType.{IsSameType}
use Rattle.tested_types.proofs.Retold.{both-noted}
use Rattle.tested_types.proofs.members.of_lists.Goals as goal

pub returns : goal.returns
returns c = both-noted (λ (m : Ty) u. IsSameType u m.sem) c.args.fixed.now (option_to_list c.args.last.now) _ _ _ _ c.in_ok-all.ensures c.rest.ensures
