use Rattle.descriptors.proofs.OwnGroup.{added-comes, added-own, own-group_defined, own-group_distinct, refused-comes}
use Rattle.descriptors.proofs.language.once_added.Goals as goal

pub add-requires-clause-named : goal.add-requires-clause-named
add-requires-clause-named g c = own-group_defined (g.T.Types.atoms c.args.types.now) c.args.group.items c.requires.group

pub add-requires-clause-distinct : goal.add-requires-clause-distinct
add-requires-clause-distinct g c = own-group_distinct (g.T.Types.atoms c.args.types.now) c.args.group.items c.requires.group

pub returns-in-Ok-clause-comes : goal.returns-in-Ok-clause-comes
returns-in-Ok-clause-comes g c = added-comes _ _ _ c.requires.group c.requires.own _ _ c.in-Ok.ensures.comes

pub returns-in-Ok-clause-own : goal.returns-in-Ok-clause-own
returns-in-Ok-clause-own g c = added-own _ _ _ c.requires.group c.requires.own _ _ c.in-Ok.ensures.comes

pub returns-in-Err-clause-comes : goal.returns-in-Err-clause-comes
returns-in-Err-clause-comes g c = refused-comes _ _ _ c.requires.group c.requires.own _ _ c.in-Err.ensures.comes
