use Rattle.std.proofs.Common.{Some}
use Rattle.checks.proofs.Steps.{ran_out}
use Rattle.type_model.proofs.Kept.{KeepsTypes-same}
use Rattle.check_work.specs.Views.{unit_of}
use Rattle.needs_of_functions.proofs.AtomsAdded.{atoms-added, atoms-defined, atoms-distinct, atoms-there}
use Rattle.needs_of_functions.proofs.own_atoms.own_atoms.Goals as goal

pub add-requires-clause-named : goal.add-requires-clause-named
add-requires-clause-named g c =
    atoms-defined c.args.isolated (unit_of c.args.unit.now) c.how_many.result _ c.in-Ok.ensures (g.T.Types.atoms c.args.types.now) c.how_many.ensures c.requires

pub add-requires-clause-distinct : goal.add-requires-clause-distinct
add-requires-clause-distinct g c = atoms-distinct c.args.isolated (unit_of c.args.unit.now) c.how_many.result _ c.in-Ok.ensures

pub returns-in-Ok-clause-there : goal.returns-in-Ok-clause-there
returns-in-Ok-clause-there g c = atoms-there c.args.isolated (unit_of c.args.unit.now) c.how_many.result _ c.in-Ok.ensures (Some c.args.at) _ _ c.add.result c.add.ensures.comes

pub returns-in-Ok-clause-comes : goal.returns-in-Ok-clause-comes
returns-in-Ok-clause-comes g c =
    atoms-added c.args.isolated (unit_of c.args.unit.now) c.how_many.result _ c.in-Ok.ensures (Some c.args.at) _ _ c.add.result c.how_many.ensures c.add.ensures.comes

pub returns-in-Err-clause-kept : goal.returns-in-Err-clause-kept
returns-in-Err-clause-kept g c = KeepsTypes-same (g.T.Types.atoms c.args.types.now)

pub returns-in-Err-clause-comes : goal.returns-in-Err-clause-comes
returns-in-Err-clause-comes g c = ran_out _ _ _
