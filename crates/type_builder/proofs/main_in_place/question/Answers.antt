use Rattle.std.proofs.Common.{sym, subst}
use Rattle.checks.proofs.Steps.{goes_on, stops}
use Rattle.type_model.specs.Calls.{KeepsTypes}
use Rattle.type_builder.proofs.Built.{comes-handed}
use Rattle.type_builder.proofs.main_in_place.question.Goals as goal

pub returns-in_err-names-clause-comes : goal.returns-in_err-names-clause-comes
returns-in_err-names-clause-comes g c = comes-handed _ _ _ _ _ c.from_residual.ensures (stops _ _ _ _ _ c.in_err-names.ensures.comes)

pub returns-clause-comes : goal.returns-clause-comes
returns-clause-comes g c = goes_on _ _ _ _ _ _ _ c.in_ok-names.ensures.comes c.listed_fits.ensures.comes

pub returns-clause-kept : goal.returns-clause-kept
returns-clause-kept g c = subst (KeepsTypes (g.T.Types.atoms c.args.types.now)) (sym c.listed_fits.ensures.atoms) c.in_ok-names.ensures.kept
