use Rattle.std.proofs.Common.{Some}
use Rattle.made_atoms.proofs.Groups.{added-group, one-defined, one-distinct, one-there}
use Rattle.checks.proofs.Steps.{ran_out}
use Rattle.made_atoms.proofs.atoms.add_one.Goals as goal

pub add-requires-clause-named : goal.add-requires-clause-named
add-requires-clause-named g c = one-defined (g.T.Types.atoms c.args.types.now) c.args.def _ c.in-Ok.ensures c.requires.named

pub add-requires-clause-distinct : goal.add-requires-clause-distinct
add-requires-clause-distinct g c = one-distinct c.args.def _ c.in-Ok.ensures c.requires.distinct

pub returns-in-Ok-clause-there : goal.returns-in-Ok-clause-there
returns-in-Ok-clause-there g c = one-there c.args.def (Some c.args.at) _ _ c.add.result (added-group _ _ (Some c.args.at) _ _ c.add.result c.in-Ok.ensures c.add.ensures.comes)

pub returns-in-Ok-clause-comes : goal.returns-in-Ok-clause-comes
returns-in-Ok-clause-comes g c = added-group _ _ (Some c.args.at) _ _ c.add.result c.in-Ok.ensures c.add.ensures.comes

pub returns-in-Err-clause-comes : goal.returns-in-Err-clause-comes
returns-in-Err-clause-comes g c = ran_out _ _ _
