use Rattle.std.proofs.Common.{inr, refl, subst}
use Rattle.bal_base.specs.declared.shape.Shape.{Shape}
use Rattle.type_model.specs.declared.basic.BasicSet.TheVariants.{IntRange}
use Rattle.type_model.specs.declared.basic.SemType.{Basic}
use Rattle.type_model.specs.Calls.{Without}
use Rattle.type_model.specs.Inclusion.{IsShapeOf}
use Rattle.code_verifier.specs.LedTo.{AsksIndex}
use Rattle.code_verifier.proofs.IndexNames.{other-told}
use Rattle.code_verifier.proofs.Leading.{fault-leads}
use Rattle.code_verifier.proofs.indexed.indexes_of_shape.Goals as goal

pub indexes_with-requires-clause-there : goal.indexes_with-requires-clause-there
indexes_with-requires-clause-there g c = subst (λ (x : Shape). IsShapeOf (g.T.Types.atoms c.args.types.now) c.args.i.now x) c.in-Int.is c.requires.there

pub returns-in-Int-clause-limit : goal.returns-in-Int-clause-limit
returns-in-Int-clause-limit g c =
    let env = g.T.Types.atoms c.args.types.now in
    fault-leads g.T.Types.passes env (AsksIndex env c.args.i.now) (Without c.args.i.now (Basic (IntRange c.in-Int.n c.in-Int.n)))
    (inr (c.in-Int.n, subst (λ (x : Shape). IsShapeOf env c.args.i.now x) c.in-Int.is c.requires.there, refl)) c.indexes_with.result c.indexes_with.ensures.limit

pub returns-in_default-clause-keys : goal.returns-in_default-clause-keys
returns-in_default-clause-keys g c = other-told (g.T.Types.atoms c.args.types.now) c.args.i.now c.args.shape.now c.requires.there c.in_default.not-Int
