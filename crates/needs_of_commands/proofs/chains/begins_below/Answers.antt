use Rattle.std.proofs.Common.{◌∙◌, List, ap, sym}
use Rattle.type_model.specs.declared.basic.SemType.{SemType}
use Rattle.code_needs.specs.RowNeeds.{below_each}
use Rattle.needs_of_rows.proofs.Finding.{found-as}
use Rattle.needs_of_commands.proofs.Descent.{begins-as}
use Rattle.needs_of_commands.proofs.chains.begins_below.Goals as goal

pub returns : goal.returns
returns c = found-as _ _ _ _ (ap (λ (ts : List SemType). below_each ts c.args.below.now) c.first_types-front.ensures ∙ sym (begins-as c.args.types.now c.args.below.now)) c.below_each.ensures
