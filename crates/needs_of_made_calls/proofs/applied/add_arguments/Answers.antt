use Rattle.std.proofs.Common.{length, subst, sym}
use Rattle.made_atoms.proofs.Groups.{items-below}
use Rattle.type_model.proofs.Kept.{KeepsTypes-same}
use Rattle.type_model.specs.Defined.{DefBelow}
use Rattle.type_model.specs.Places.{HasDistinctFields}
use Rattle.check_kinds.proofs.Over.{over-out}
use Rattle.needs_of_made_calls.proofs.Applying.{arguments-added, arguments-lists, types-below}
use Rattle.needs_of_made_calls.proofs.applied.add_arguments.Goals as goal

pub add_one-requires-clause-named : goal.add_one-requires-clause-named
add_one-requires-clause-named g c =
    let n = length (g.T.Types.atoms c.args.types.now) in
    subst (DefBelow n) (sym c.list_def.ensures) (items-below n c.in-Ok.items.items (types-below n c.args.args.now c.in-Ok.items.items c.in-Ok.ensures c.requires))

pub add_one-requires-clause-distinct : goal.add_one-requires-clause-distinct
add_one-requires-clause-distinct g c = subst HasDistinctFields (sym c.list_def.ensures) tt

pub returns-in-Ok-clause-lists : goal.returns-in-Ok-clause-lists
returns-in-Ok-clause-lists g c = arguments-lists c.in-Ok.items.items c.list_def.result c.list_def.ensures c.args.at _ _ c.add_one.result c.add_one.ensures.comes

pub returns-in-Ok-clause-comes : goal.returns-in-Ok-clause-comes
returns-in-Ok-clause-comes g c =
    arguments-added c.in-Ok.items.items c.list_def.result c.list_def.ensures c.args.at _ _ c.args.args.now c.add_one.result c.in-Ok.ensures c.add_one.ensures.comes

pub returns-in-Err-clause-kept : goal.returns-in-Err-clause-kept
returns-in-Err-clause-kept g c = KeepsTypes-same _

pub returns-in-Err-clause-comes : goal.returns-in-Err-clause-comes
returns-in-Err-clause-comes g c = over-out _ _ _
