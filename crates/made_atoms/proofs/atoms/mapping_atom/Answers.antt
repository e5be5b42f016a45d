use Rattle.type_model.proofs.Kept.{KeepsTypes-same}
use Rattle.made_atoms.specs.Defs.{IsGroupOf}
use Rattle.made_atoms.proofs.Groups.{added-over, chosen-over}
use Rattle.made_atoms.proofs.atoms.mapping_atom.Goals as goal

pub returns-in-Some-clause-kept : goal.returns-in-Some-clause-kept
returns-in-Some-clause-kept g c = KeepsTypes-same _

pub returns-in-Some-clause-comes : goal.returns-in-Some-clause-comes
returns-in-Some-clause-comes g c =
    chosen-over (IsGroupOf c.args.keys.items c.args.members.items) c.args.at c.args.choice c.in-Some.atom (g.T.Types.atoms c.args.types.now) c.in-Some.is

pub returns-in-None-clause-comes : goal.returns-in-None-clause-comes
returns-in-None-clause-comes g c =
    added-over (IsGroupOf c.args.keys.items c.args.members.items) c.args.at c.args.choice _ _ c.new_mapping.result c.in-None.is c.new_mapping.ensures.comes
