use Rattle.std.proofs.Common.{◌∙◌, Some, ap}
use Rattle.made_atoms.specs.Defs.{error_defs}
use Rattle.made_atoms.proofs.Groups.{added-group, error-defined, error-group, two-there}
use Rattle.checks.proofs.Steps.{ran_out}
use Rattle.made_atoms.proofs.atoms.error_atoms.Goals as goal

pub add-requires-clause-named : goal.add-requires-clause-named
add-requires-clause-named g c =
    error-defined (g.T.Types.atoms c.args.types.now) c.args.names.items c.args.details.items _
    (c.in-Ok.ensures.is ∙ ap (error_defs c.args.names.items c.args.details.items) c.how_many.ensures) c.requires

pub returns-in-Ok-clause-there : goal.returns-in-Ok-clause-there
returns-in-Ok-clause-there g c =
    two-there _ _ (Some c.args.at) _ _ c.add.result (added-group _ _ (Some c.args.at) _ _ c.add.result c.in-Ok.ensures.is c.add.ensures.comes)

pub returns-in-Ok-clause-comes : goal.returns-in-Ok-clause-comes
returns-in-Ok-clause-comes g c =
    error-group c.args.names.items c.args.details.items _ c.how_many.result (Some c.args.at) _ _ c.add.result c.how_many.ensures c.in-Ok.ensures.is c.add.ensures.comes

pub returns-in-Err-clause-comes : goal.returns-in-Err-clause-comes
returns-in-Err-clause-comes g c = ran_out _ _ _
