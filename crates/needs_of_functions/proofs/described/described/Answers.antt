use Rattle.std.proofs.Common.{length, subst, sym}
use Rattle.check_kinds.specs.Over.{ComesOver}
use Rattle.type_model.specs.Defined.{TyBelow}
use Rattle.needs_of_units.proofs.Answering.{handed-on}
use Rattle.needs_of_functions.specs.Constants.{described_as}
use Rattle.needs_of_functions.proofs.Fitting.{described-over, described-stops}
use Rattle.needs_of_functions.proofs.described.described.Goals as goal

pub returns-in_err-t-clause-comes : goal.returns-in_err-t-clause-comes
returns-in_err-t-clause-comes g c =
    let old = g.T.Types.atoms c.args.types.now in
    let new = g.T.Types.atoms c.described_type.new.types in
    handed-on (λ r. ComesOver (described_as c.args.names.now c.args.scope c.args.tree.now) old r new) _ _ c.from_residual.ensures
    (described-stops c.args.names.now c.args.scope c.args.tree.now old new _ c.in_err-t.ensures.comes)

pub returns-clause-comes : goal.returns-clause-comes
returns-clause-comes g c =
    described-over c.args.names.now c.args.scope c.args.tree.now (g.T.Types.atoms c.args.types.now) (g.T.Types.atoms c.described_type.new.types) c.in_ok-t.t _ c.in_ok-t.ensures.comes
    c.in_ok-new.ensures.ok

pub returns-clause-below : goal.returns-clause-below
returns-clause-below g c = subst (TyBelow (length (g.T.Types.atoms c.described_type.new.types))) (sym c.in_ok-new.ensures.ok) c.in_ok-t.ensures.defined
