use Rattle.check_kinds.specs.Over.{ComesOver}
use Rattle.checks.specs.Checks.{◌▷◌}
use Rattle.check_kinds.proofs.Over.{over-on, over-stops}
use Rattle.needs_of_units.proofs.Answering.{handed-on}
use Rattle.needs_of_functions.specs.Constants.{described_as, value_fits}
use Rattle.needs_of_functions.proofs.Fitting.{kept-over}
use Rattle.needs_of_functions.proofs.constants.require_described.Goals as goal

pub returns-in_err-t-clause-comes : goal.returns-in_err-t-clause-comes
returns-in_err-t-clause-comes g c =
    let old = g.T.Types.atoms c.args.types.now in
    let new = g.T.Types.atoms c.described.new.types in
    let front = described_as c.args.names.now c.args.scope c.args.tree.now in
    handed-on (λ r. ComesOver (front ▷ value_fits g.T.Types.passes c.args.value.now) old r new) _ _ c.from_residual.ensures
    (over-stops front (value_fits g.T.Types.passes c.args.value.now) old new _ c.in_err-t.ensures.comes)

pub returns-clause-kept : goal.returns-clause-kept
returns-clause-kept g c = kept-over _ _ _ c.require_fits.ensures.atoms c.in_ok-t.ensures.kept

pub returns-clause-comes : goal.returns-clause-comes
returns-clause-comes g c =
    over-on (described_as c.args.names.now c.args.scope c.args.tree.now) (value_fits g.T.Types.passes c.args.value.now) (g.T.Types.atoms c.args.types.now) (g.T.Types.atoms c.described.new.types) _
    c.in_ok-t.t _ c.in_ok-t.ensures.comes c.require_fits.ensures.comes
