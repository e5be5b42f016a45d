use Rattle.std.proofs.Common.{Option, subst}
use Rattle.bal_base.specs.declared.shape.Shape.{Shape}
use Rattle.type_model.specs.Inclusion.{FindsShape}
use Rattle.code_verifier.proofs.IndexNames.{none-told}
use Rattle.code_verifier.proofs.indexed.indexes_of_found.Goals as goal

pub indexes_of_shape-requires-clause-there : goal.indexes_of_shape-requires-clause-there
indexes_of_shape-requires-clause-there g c = subst (λ (o : Option Shape). FindsShape (g.T.Types.atoms c.args.types.now) c.args.i.now o) c.in-Some.is c.requires.found

pub returns-in-None-clause-keys : goal.returns-in-None-clause-keys
returns-in-None-clause-keys g c =
    let env = g.T.Types.atoms c.args.types.now in
    none-told env c.args.i.now (subst (λ (o : Option Shape). FindsShape env c.args.i.now o) c.in-None.is c.requires.found)
