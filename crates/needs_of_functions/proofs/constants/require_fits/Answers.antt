use Rattle.std.proofs.Common.{ap, length, subst, sym}
use Rattle.type_model.specs.Defined.{NamesBelow}
use Rattle.needs_of_functions.proofs.Fitting.{fits-over}
use Rattle.needs_of_functions.proofs.constants.require_fits.Goals as goal

pub require_below-requires-clause-left : goal.require_below-requires-clause-left
require_below-requires-clause-left g c = (c.single_type-single.ensures.defined (length (g.T.Types.atoms c.args.types.now))).0

pub require_below-requires-clause-right : goal.require_below-requires-clause-right
require_below-requires-clause-right g c = subst (λ t. NamesBelow (length (g.T.Types.atoms c.args.types.now)) t.sem) (sym c.deref.ensures) c.requires.0

pub returns-clause-comes : goal.returns-clause-comes
returns-clause-comes g c =
    let env = g.T.Types.atoms c.args.types.now in
    fits-over g.T.Types.passes c.args.value.now c.args.t.now c.single_type-single.result _ _ _ env _ _ c.value_constant.ensures c.place_of_value-at.ensures (ap (λ t. t.sem) c.deref.ensures)
    (c.single_type-single.ensures.is env) c.require_below.ensures.comes
