use Rattle.std.proofs.Common.{Option, subst}
use Rattle.bal_base.specs.declared.shape.Shape.{Shape}
use Rattle.type_model.specs.Inclusion.{FindsShape}
use Rattle.code_verifier.proofs.KeyNames.{none-told}
use Rattle.code_verifier.proofs.keyed.keys_of_found.Goals as goal

pub keys_of_shape-requires-clause-there : goal.keys_of_shape-requires-clause-there
keys_of_shape-requires-clause-there g c = subst (λ (o : Option Shape). FindsShape (g.T.Types.atoms c.args.types.now) c.args.k.now o) c.in-Some.is c.requires.found

pub returns-in-None-clause-keys : goal.returns-in-None-clause-keys
returns-in-None-clause-keys g c =
    let env = g.T.Types.atoms c.args.types.now in
    none-told env c.args.k.now (subst (λ (o : Option Shape). FindsShape env c.args.k.now o) c.in-None.is c.requires.found)
