use Rattle.std.proofs.Common.{◌∙◌, Ok, Err, IfOk, length}
use Rattle.type_model.proofs.Kept.{KeepsTypes-same}
use Rattle.needs_of_functions.proofs.InTurn.{described-there, nil-lifted, nil-lifted-below}
use Rattle.needs_of_functions.proofs.results.type_or_nil_of.Goals as goal

pub returns-in-Some-clause-comes : goal.returns-in-Some-clause-comes
returns-in-Some-clause-comes g c =
    described-there c.args.names.now c.args.scope (g.T.Types.atoms c.args.types.now) (g.T.Types.atoms c.described.new.types) c.args.tree.now c.in-Some.tree _ c.described.result
    c.in-Some.is c.deref.ensures c.described.ensures.comes

pub returns-in-None-clause-comes : goal.returns-in-None-clause-comes
returns-in-None-clause-comes g c =
    let env = g.T.Types.atoms c.args.types.now in
    nil-lifted c.args.names.now c.args.scope c.args.tree.now env c.kind_shared.result c.lift.result c.in-None.is c.lift.ensures c.requires.own c.kind_shared.ensures.is

pub returns-in-None-clause-below : goal.returns-in-None-clause-below
returns-in-None-clause-below g c =
    let env = g.T.Types.atoms c.args.types.now in
    nil-lifted-below c.args.names.now env c.kind_shared.result c.lift.result c.lift.ensures c.requires.own c.kind_shared.ensures.defined

pub returns-in-None-clause-kept : goal.returns-in-None-clause-kept
returns-in-None-clause-kept g c = KeepsTypes-same (g.T.Types.atoms c.args.types.now)
